-- A coordinate that is written, and one that was read. In order: a written one reads back; one that was read is accepted, and its bytes are
-- those that are written for it; a reader looks at ten bytes only. Not here: one number (Laws.Number and Laws.Taken of crate number).
-- Assumes nothing.
use Rattle.std.proofs.Common.{◌≡◌, ℕ, ◌+◌, ◌^◌, ◌<◌, ◌≤◌, true, T, List, ◌++◌, length, take, drop, sym, ap, ◌∙◌, arith}
use lib.Ieee.{Float, binary64, fits, of_bits, to_bits}
use lib.Ieee.Bits.{of_bits-to_bits, to_bits-of_bits, to_bits-lt}
use Rattle.refusal.specs.Outcome.{Outcome, answers, not_accepted}
use Rattle.refusal.specs.Judged.{also}
use Rattle.point.specs.Accepted.{accepted_of}
use Rattle.number.specs.declared.answer.Number.{Number}
use Rattle.number.specs.Number.{written_of, Bytes, number_of}
use Rattle.coordinate.specs.declared.answer.Coordinate.{Coordinate}
use Rattle.coordinate.specs.Difference.{stored_of, restored_of}
use Rattle.coordinate.specs.Coordinate.{judged_of, coordinate_of}
use Rattle.refusal.proofs.Laws.Judged.{also_answered, require_answered}
use Rattle.number.proofs.Laws.Number.{number_back}
use Rattle.number.proofs.Laws.Taken.{number_read, number_near, number_first}
use Rattle.coordinate.proofs.Laws.Difference.{restored_stored, restored_below, stored_below, stored_restored}
use Rattle.coordinate.proofs.Laws.Coordinate.{accepted_number, judged_accepted, coordinate_judged}

-- ---- a written coordinate
pub coordinate_back : (bytes : List ℕ) (start before : ℕ) (x : Float) (rest : List ℕ) → before < 2 ^ 64 → T (fits binary64 x)
    → accepted_of x ≡ true
    → drop start bytes ≡ written_of (stored_of (to_bits binary64 x) before) ++ rest
    → coordinate_of bytes start before
    ≡ answers (record { value = x; pattern = to_bits binary64 x; next = start + length (written_of (stored_of (to_bits binary64 x) before)) })
coordinate_back bytes start before x rest hb fit good e =
    let p = to_bits binary64 x in
    let z = stored_of p before in
    let next = start + length (written_of z) in
    let hp : p < 2 ^ 64 = to_bits-lt binary64 x fit in
    let back : restored_of z before ≡ p = restored_stored p before hp hb in
    let same : of_bits binary64 p ≡ x = of_bits-to_bits binary64 x fit in
    let n = number_back bytes start z rest (stored_below p before hp hb) e in
    sym (coordinate_judged bytes start before (record { value = z; next = next }) n.0)
    ∙ ap (λ (q : ℕ). judged_of q start next) back
    ∙ sym (judged_accepted p start next (ap accepted_of same ∙ good))
    ∙ ap (λ (y : Float). answers (record { value = y; pattern = p; next = next })) same

-- ---- a coordinate that was read
-- the number it was read from, whose pattern is that of an accepted double
record FromNumber (bytes : List ℕ) (start before : ℕ) (c : Coordinate) : Type 0 where
  number : Number
  read : number_of bytes start ≡ answers number
  good : accepted_of (of_bits binary64 (restored_of number.value before)) ≡ true
  value : of_bits binary64 (restored_of number.value before) ≡ c.value
  pattern : restored_of number.value before ≡ c.pattern
  next : number.next ≡ c.next

coordinate_number : (bytes : List ℕ) (start before : ℕ) (c : Coordinate) → coordinate_of bytes start before ≡ answers c
    → FromNumber bytes start before c
unfolding coordinate_of judged_of
coordinate_number bytes start before c e =
    let a = also_answered (number_of bytes start) _ e in
    let p = restored_of a.0.value before in
    let g = require_answered (accepted_of (of_bits binary64 p)) not_accepted start _ a.2 in
    let is : record { value = of_bits binary64 p; pattern = p; next = a.0.next } ≡ c = cc g.1 in
    record {
      number = a.0;
      read = a.1;
      good = g.0;
      value = ap (λ (z : Coordinate). z.value) is;
      pattern = ap (λ (z : Coordinate). z.pattern) is;
      next = ap (λ (z : Coordinate). z.next) is;
    }

-- it is accepted
pub coordinate_accepted : (bytes : List ℕ) (start before : ℕ) (c : Coordinate) → coordinate_of bytes start before ≡ answers c
    → accepted_of c.value ≡ true
coordinate_accepted bytes start before c e =
    let n = coordinate_number bytes start before c e in
    ap accepted_of (sym n.value) ∙ n.good

-- its pattern is its value's, and its bytes are those that are written for it
pub record Coordinated (bytes : List ℕ) (start before : ℕ) (c : Coordinate) : Type 0 where
  pub good : accepted_of c.value ≡ true
  pub bits : to_bits binary64 c.value ≡ c.pattern
  pub below : c.pattern < 2 ^ 64
  pub same : drop start bytes ≡ written_of (stored_of c.pattern before) ++ drop c.next bytes

pub coordinate_taken : (bytes : List ℕ) (start before : ℕ) (c : Coordinate) → Bytes bytes → before < 2 ^ 64
    → coordinate_of bytes start before ≡ answers c → Coordinated bytes start before c
coordinate_taken bytes start before c all hb e =
    let n = coordinate_number bytes start before c e in
    let m = n.number in
    let p = restored_of m.value before in
    let hp : p < 2 ^ 64 = restored_below m.value before in
    let r = number_read bytes start m all n.read in
    let v : m.value ≡ stored_of c.pattern before = sym (stored_restored m.value before r.below hb)
    ∙ ap (λ (q : ℕ). stored_of q before) n.pattern in
    record {
      good = coordinate_accepted bytes start before c e;
      bits = ap (to_bits binary64) (sym n.value) ∙ to_bits-of_bits binary64 p hp (accepted_number (of_bits binary64 p) n.good)
          ∙ n.pattern;
      below = rw (← n.pattern) hp;
      same = r.same ∙ (λ i. written_of (v i) ++ drop (n.next i) bytes);
    }

-- ---- the first bytes decide
pub coordinate_near : (bytes : List ℕ) (start before : ℕ) (c : Coordinate) → coordinate_of bytes start before ≡ answers c
    → c.next ≤ start + 10
coordinate_near bytes start before c e =
    let n = coordinate_number bytes start before c e in
    omega (arith, number_near bytes start n.number n.read, n.next)

pub coordinate_first : (bytes : List ℕ) (n start before : ℕ) → start + 10 ≤ n
    → coordinate_of (take n bytes) start before ≡ coordinate_of bytes start before
unfolding coordinate_of
coordinate_first bytes n start before h =
    ap (λ (o : Outcome Number). also o (λ m. judged_of (restored_of m.value before) start m.next)) (number_first bytes n start h)
