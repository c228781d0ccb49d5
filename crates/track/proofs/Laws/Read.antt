-- What the reader answers. In order: number by number, as a list is filled; each answer after the count; the promise, which no two results
-- satisfy. Not here: one coordinate (Laws.Coordinate of crate coordinate). Assumes nothing.
use Prim.Native.Nat.{ℕ, suc, ◌+◌, ◌-◌, ◌*◌, ◌≤◌, ◌<◌}
use mathlib.Core.Path.{◌≡◌, refl, sym, ap, ap₂, ◌∙◌, subst}
use mathlib.Core.List.{List, [], ◌∷◌, ◌++◌, append-nil}
use native.Mathlib.Numerals.{add-one}
use native.Mathlib.Omega.{arith}
use borrow.Author.Tests.{le-leb, lt-leb}
use lib.Dec.{leb}
use lib.ListN.{length, take, set, length-set}
use lib.Seq.{append_snoc, take-suc-set, take-length}
use lib.Ieee.{Float}
use Rattle.std.specs.Prelude.{Result}
use Rattle.refusal.specs.declared.Refusal.{Refusal}
use Rattle.refusal.specs.Outcome.{Outcome, answers, refuses, Fixes, too_many, no_room, bytes_after}
use Rattle.refusal.proofs.Laws.Outcome.{outcome_once}
use Rattle.refusal.specs.Judged.{require, also, filled}
use Rattle.number.specs.declared.answer.Number.{Number}
use Rattle.number.specs.Number.{number_of}
use Rattle.coordinate.specs.declared.answer.Coordinate.{Coordinate}
use Rattle.coordinate.specs.Coordinate.{coordinate_of}
use Rattle.track.specs.File.{limit}
use Rattle.track.specs.Read.{coordinates_of, counted_of, read_of, points_said, said, ReadSays}
use Rattle.track.specs.Parts.{Promised}
use Rattle.refusal.proofs.Laws.Judged.{also_answers, also_refuses, require_holds, require_fails}
use Rattle.track.proofs.Laws.Scan.{coordinates_end, coordinates_turn}

-- ---- number by number
-- coordinates that stand before those of an outcome
abbrev prepend : List Float → Outcome (List Float) → Outcome (List Float)
prepend vs o = also o (λ ws. answers (vs ++ ws))

prepend_none : (o : Outcome (List Float)) → prepend [] o ≡ o
prepend_none (answers ws) = refl
prepend_none (refuses number place) = refl

prepend_one : (vs : List Float) (x : Float) (o : Outcome (List Float))
    → prepend vs (also o (λ ws. answers (x ∷ ws))) ≡ prepend (vs ++ (x ∷ [])) o
prepend_one vs x (answers ws) = ap answers (sym (append_snoc vs x ws))
prepend_one vs x (refuses number place) = refl

-- i of n coordinates stand in the list, and those from `at` on are to come
pub record Decoding (bytes : List ℕ) (start n : ℕ) (list : List Float) (at before other i : ℕ) : Type 0 where
  pub few : i ≤ n
  pub len : length list ≡ n
  pub all : prepend (take i list) (coordinates_of bytes at before other (n - i)) ≡ coordinates_of bytes start 0 0 n

pub decoding_start : (bytes : List ℕ) (start n : ℕ) (list : List Float) → length list ≡ n → Decoding bytes start n list start 0 0 0
decoding_start bytes start n list l =
    let z : n - 0 ≡ n = omega arith in
    record { few = omega arith; len = l; all = prepend_none _ ∙ ap (coordinates_of bytes start 0 0) z }

module _ (bytes : List ℕ) (start n : ℕ) (list : List Float) (at before other i : ℕ) (d : Decoding bytes start n list at before other i) where
  module _ (h : i < n) where
    -- the coordinate at `at`, and then the rest
    one : coordinates_of bytes at before other (n - i)
        ≡ also (coordinate_of bytes at before)
        (λ c. also (coordinates_of bytes c.next other c.pattern (n - (i + 1))) (λ ws. answers (c.value ∷ ws)))
    one =
        let e : n - i ≡ suc (n - (i + 1)) = omega arith in
        ap (coordinates_of bytes at before other) e ∙ coordinates_turn bytes at before other (n - (i + 1))

    pub decoding_turn : (c : Coordinate) → answers c ≡ coordinate_of bytes at before
        → Decoding bytes start n (set list i c.value) c.next other c.pattern (i + 1)
    decoding_turn c e =
        let within : i < length list = omega (arith, d.len) in
        let rest = coordinates_of bytes c.next other c.pattern (n - (i + 1)) in
        let taken : take (i + 1) (set list i c.value) ≡ take i list ++ (c.value ∷ []) = rw (add-one i)
        (take-suc-set list i c.value within) in
        record {
          few = omega arith;
          len = length-set list i c.value ∙ d.len;
          all = ap (λ (vs : List Float). prepend vs rest) taken ∙ sym (prepend_one (take i list) c.value rest)
              ∙ ap (prepend (take i list)) (sym (one ∙ also_answers _ (sym e))) ∙ d.all;
        }

    pub decoding_refused : (number place : ℕ) → refuses number place ≡ coordinate_of bytes at before
        → refuses number place ≡ coordinates_of bytes start 0 0 n
    decoding_refused number place e = ap (prepend (take i list)) (sym (one ∙ also_refuses _ (sym e))) ∙ d.all

  module _ (h : n ≤ i) where
    none : coordinates_of bytes at before other (n - i) ≡ also (require (leb (length bytes) at) bytes_after at) (λ _. answers [])
    none = let e : n - i ≡ 0 = omega arith in ap (coordinates_of bytes at before other) e ∙ coordinates_end bytes at before other

    pub decoding_after : at < length bytes → refuses bytes_after at ≡ coordinates_of bytes start 0 0 n
    decoding_after l = ap (prepend (take i list)) (sym (none ∙ require_fails bytes_after at _ (lt-leb _ _ l))) ∙ d.all

    pub decoding_whole : length bytes ≤ at → answers list ≡ coordinates_of bytes start 0 0 n
    decoding_whole l =
        let e : i ≡ length list = omega (arith, d.few, d.len) in
        ap answers (sym (ap (λ (k : ℕ). take k list) e ∙ take-length list) ∙ sym (append-nil (take i list)))
        ∙ ap (prepend (take i list)) (sym (none ∙ require_holds bytes_after at _ (le-leb _ _ l))) ∙ d.all

-- ---- after the count
module _ (most : ℕ) (bytes : List ℕ) (count : Number) (room : ℕ) where
  pub counted_many : most < count.value → counted_of most bytes count room ≡ refuses too_many 0
  unfolding counted_of
  counted_many h = require_fails too_many 0 _ (lt-leb _ _ h)

  module _ (few : count.value ≤ most) where
    pub counted_short : room < 2 * count.value → counted_of most bytes count room ≡ refuses no_room 0
    unfolding counted_of
    counted_short h = require_holds too_many 0 _ (le-leb _ _ few) ∙ require_fails no_room 0 _ (lt-leb _ _ h)

    pub counted_read : 2 * count.value ≤ room → counted_of most bytes count room ≡ coordinates_of bytes count.next 0 0 (2 * count.value)
    unfolding counted_of
    counted_read h = require_holds too_many 0 _ (le-leb _ _ few) ∙ require_holds no_room 0 _ (le-leb _ _ h)

-- ---- the promise
module _ {o : Outcome (List Float)} {lent : List Float} {r : Result ℕ Refusal} where
  pub promised_refused : {number place : ℕ} → o ≡ refuses number place → said r ≡ refuses number place → Promised o lent r lent
  promised_refused e s = record { answer = s ∙ sym (also_refuses _ e); entries = sym (ap (λ (z : Outcome (List Float)). filled z lent) e) }

  -- of an outcome that is another's
  pub promised_as : {p : Outcome (List Float)} {left : List Float} → o ≡ p → Promised p lent r left → Promised o lent r left
  promised_as {left = left} e q = subst (λ (z : Outcome (List Float)). Promised z lent r left) (sym e) q

-- the count is judged first
abbrev judged : List ℕ → ℕ → Outcome Number → Outcome (List Float)
judged bytes room o = also o (λ count. counted_of limit bytes count room)

module _ {bytes : List ℕ} {lent : List Float} {r : Result ℕ Refusal} where
  pub says_refused : {number place : ℕ} → refuses number place ≡ number_of bytes 0 → said r ≡ refuses number place
      → ReadSays bytes lent r lent
  unfolding read_of
  says_refused e s = record {
    answer = s ∙ ap (λ (o : Outcome Number). points_said (judged bytes (length lent) o)) e;
    entries = ap (λ (o : Outcome Number). filled (judged bytes (length lent) o) lent) e;
  }

  pub says_counted : {left : List Float} (count : Number) → answers count ≡ number_of bytes 0
      → Promised (counted_of limit bytes count (length lent)) lent r left
      → ReadSays bytes lent r left
  unfolding read_of
  says_counted count e p = record {
    answer = p.answer ∙ ap (λ (o : Outcome Number). points_said (judged bytes (length lent) o)) e;
    entries = p.entries ∙ ap (λ (o : Outcome Number). filled (judged bytes (length lent) o) lent) e;
  }

-- no two results satisfy the promise: neither the answer nor a lent entry is left open
pub read_fixed : (bytes : List ℕ) (lent : List Float) → Fixes (λ (w : Result ℕ Refusal × List Float). ReadSays bytes lent w.0 w.1)
read_fixed bytes lent a b p q =
    ap₂ (λ (r : Result ℕ Refusal) (left : List Float). (r, left)) (outcome_once _ (λ m n e. e) a.0 b.0 (p.answer ∙ sym q.answer))
    (p.entries ∙ sym q.entries)
