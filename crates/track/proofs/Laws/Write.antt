-- What the writer answers. In order: which coordinates are accepted; how long their bytes are; each answer of the writer; no two results
-- satisfy its promise. Not here: the bytes themselves (Laws.File). Assumes nothing.
use Prim.Native.Nat.{ℕ, zero, suc, ◌+◌, ◌*◌, ◌%◌, ◌≤◌, ◌<◌}
use mathlib.Core.Path.{◌≡◌, refl, sym, ap, ap₂, ◌∙◌}
use mathlib.Core.Bool.{Bool, true, false, cond}
use mathlib.Core.List.{List, [], ◌∷◌, ◌++◌}
use native.Mathlib.Numerals.{add-one}
use native.Mathlib.Omega.{arith}
use borrow.Author.Tests.{le-leb, lt-leb, eq-eqb, ne_eqb}
use lib.ListN.{length, drop, get_or, length-append, drop_of_length-le}
use lib.Seq.{drop-cons, sets, sets-eq}
use lib.Ieee.{Float, nan, binary64, to_bits}
use Rattle.std.specs.Prelude.{Result}
use Rattle.refusal.specs.declared.Refusal.{Refusal}
use Rattle.refusal.specs.Outcome.{Outcome, answers, refuses, Fixes, odd_length, too_many, not_accepted, no_room}
use Rattle.refusal.proofs.Laws.Outcome.{outcome_once, never}
use Rattle.refusal.specs.Search.{passing_from}
use Rattle.point.specs.Accepted.{accepted_of}
use Rattle.refusal.specs.Judged.{require, also, filled}
use Rattle.number.specs.Number.{written_of}
use Rattle.coordinate.specs.Difference.{stored_of}
use Rattle.track.specs.File.{limit, coordinate_bytes, file_of}
use Rattle.track.specs.Write.{accepted_from, write_of, said, WriteSays, AllAccepted}
use Rattle.track.specs.Parts.{measure_of}
use Rattle.refusal.proofs.Laws.Judged.{also_answers, also_refuses, require_holds, require_fails, require_answered}
use Rattle.number.proofs.Laws.Written.{written_length}
use Rattle.track.proofs.Laws.File.{bytes_more, bytes_end}

-- ---- accepted coordinates
pub accepted_cons : (k : ℕ) (x : Float) (xs : List Float)
    → accepted_from k (x ∷ xs) ≡ also (require (accepted_of x) not_accepted k) (λ _. accepted_from (suc k) xs)
unfolding passing_from
accepted_cons k x xs = go (accepted_of x)
  where
    go : (b : Bool) → cond b (accepted_from (k + 1) xs) (refuses not_accepted k) ≡ also (require b not_accepted k) (λ _. accepted_from (suc k) xs)
    go true = ap (λ (j : ℕ). accepted_from j xs) (add-one k)
    go false = refl

module _ (points : List Float) (i : ℕ) (h : i < length points) where
  accepted_turn : accepted_from i (drop i points)
      ≡ also (require (accepted_of (get_or points i nan)) not_accepted i) (λ _. accepted_from (suc i) (drop (suc i) points))
  accepted_turn = ap (accepted_from i) (drop-cons points i nan h) ∙ accepted_cons i (get_or points i nan) (drop (suc i) points)

  accepted_more : accepted_of (get_or points i nan) ≡ true → accepted_from i (drop i points) ≡ accepted_from (i + 1) (drop (i + 1) points)
  accepted_more e = rw (add-one i) (accepted_turn ∙ require_holds not_accepted i _ e)

  accepted_stops : accepted_of (get_or points i nan) ≡ false → accepted_from i (drop i points) ≡ refuses not_accepted i
  accepted_stops e = accepted_turn ∙ require_fails not_accepted i _ e

-- where none is refused, each is accepted
pub accepted_all : (k : ℕ) (points : List Float) → accepted_from k points ≡ answers tt → AllAccepted points
unfolding passing_from
accepted_all k [] e i h = absurd (omega arith)
accepted_all k (x ∷ xs) e zero h = (require_answered (accepted_of x) not_accepted k _ (sym (accepted_cons k x xs) ∙ e)).0
accepted_all k (x ∷ xs) e (suc i) h =
    accepted_all (suc k) xs (require_answered (accepted_of x) not_accepted k _ (sym (accepted_cons k x xs) ∙ e)).1 i (omega arith)

-- ---- the length of their bytes, i of them measured
pub record Measuring (points : List Float) (len before other i : ℕ) : Type 0 where
  pub few : i ≤ length points
  pub small : len ≤ 10 * i
  pub all : len + length (coordinate_bytes before other (drop i points)) ≡ length (coordinate_bytes 0 0 points)
  pub rest : accepted_from 0 points ≡ accepted_from i (drop i points)

pub measuring_start : (points : List Float) → Measuring points 0 0 0 0
measuring_start points = record { few = omega arith; small = omega arith; all = omega arith; rest = refl }

module _ (points : List Float) (len before other i : ℕ) (m : Measuring points len before other i) where
  module _ (h : i < length points) where
    pub measuring_turn : (n : ℕ) → n ≡ length (written_of (stored_of (to_bits binary64 (get_or points i nan)) before))
        → accepted_of (get_or points i nan) ≡ true → Measuring points (len + n) other (to_bits binary64 (get_or points i nan)) (i + 1)
    measuring_turn n e a =
        let p = to_bits binary64 (get_or points i nan) in
        let z = stored_of p before in
        record {
          few = omega arith;
          small = omega (arith, m.small, (written_length z).1);
          all = omega (
            arith,
            m.all,
            ap length (bytes_more points before other i nan h),
            length-append (written_of z) (coordinate_bytes other p (drop (i + 1) points)),
          );
          rest = m.rest ∙ accepted_more points i h a;
        }

    pub measuring_refused : accepted_of (get_or points i nan) ≡ false → refuses not_accepted i ≡ measure_of points
    unfolding measure_of
    measuring_refused a = sym (also_refuses _ (m.rest ∙ accepted_stops points i h a))

  pub measuring_done : length points ≤ i → answers len ≡ measure_of points
  unfolding measure_of passing_from
  measuring_done h =
      let none : accepted_from 0 points ≡ answers tt = m.rest ∙ ap (accepted_from i) (drop_of_length-le points h) in
      let l : len ≡ length (coordinate_bytes 0 0 points) = omega (arith, m.all, ap length (bytes_end points before other i nan h)) in
      ap answers l ∙ sym (also_answers _ none)

-- what a measure tells
pub measure_accepts : (points : List Float) (n : ℕ) → answers n ≡ measure_of points
    → (accepted_from 0 points ≡ answers tt) × (n ≡ length (coordinate_bytes 0 0 points))
unfolding measure_of
measure_accepts points n e = go (accepted_from 0 points) e
  where
    go : (o : Outcome Unit) → answers n ≡ also o (λ _. answers (length (coordinate_bytes 0 0 points)))
        → (o ≡ answers tt) × (n ≡ length (coordinate_bytes 0 0 points))
    go (answers u) e = (refl, cc)
    go (refuses number place) e = never (cc)

pub measure_refuses : (points : List Float) (number place : ℕ) → refuses number place ≡ measure_of points
    → accepted_from 0 points ≡ refuses number place
unfolding measure_of
measure_refuses points number place e = go (accepted_from 0 points) e
  where
    go : (o : Outcome Unit) → refuses number place ≡ also o (λ _. answers (length (coordinate_bytes 0 0 points))) → o ≡ refuses number place
    go (answers u) e = never (cc)
    go (refuses n p) e = (cc)

-- ---- the writer's answers
module _ (most : ℕ) (points : List Float) (room : ℕ) where
  pub write_odd : (length points % 2 ≡ 0 → ⊥) → write_of most points room ≡ refuses odd_length 0
  unfolding write_of
  write_odd h = require_fails odd_length 0 _ (ne_eqb _ _ h)

  module _ (even : length points % 2 ≡ 0) where
    pub write_many : 2 * most < length points → write_of most points room ≡ refuses too_many 0
    unfolding write_of
    write_many h = require_holds odd_length 0 _ (eq-eqb _ _ even) ∙ require_fails too_many 0 _ (lt-leb _ _ h)

    module _ (few : length points ≤ 2 * most) where
      pub write_refused : (number place : ℕ) → accepted_from 0 points ≡ refuses number place
          → write_of most points room ≡ refuses number place
      unfolding write_of
      write_refused number place e =
          require_holds odd_length 0 _ (eq-eqb _ _ even) ∙ require_holds too_many 0 _ (le-leb _ _ few) ∙ also_refuses _ e

      module _ (good : accepted_from 0 points ≡ answers tt) where
        pub write_short : room < length (file_of points) → write_of most points room ≡ refuses no_room 0
        unfolding write_of
        write_short h =
            require_holds odd_length 0 _ (eq-eqb _ _ even) ∙ require_holds too_many 0 _ (le-leb _ _ few) ∙ also_answers _ good
            ∙ require_fails no_room 0 _ (lt-leb _ _ h)

        pub write_whole : length (file_of points) ≤ room → write_of most points room ≡ answers (file_of points)
        unfolding write_of
        write_whole h =
            require_holds odd_length 0 _ (eq-eqb _ _ even) ∙ require_holds too_many 0 _ (le-leb _ _ few) ∙ also_answers _ good
            ∙ require_holds no_room 0 _ (le-leb _ _ h)

-- ---- the promise
module _ {points : List Float} {lent : List ℕ} {r : Result ℕ Refusal} where
  pub says_refused : {number place : ℕ} → write_of limit points (length lent) ≡ refuses number place → said r ≡ refuses number place
      → WriteSays points lent r lent
  says_refused e s = record { answer = s ∙ sym (also_refuses _ e); bytes = sym (ap (λ (o : Outcome (List ℕ)). filled o lent) e) }

  pub says_whole : {left : List ℕ} → write_of limit points (length lent) ≡ answers (file_of points)
      → said r ≡ answers (length (file_of points))
      → length (file_of points) ≤ length lent → left ≡ sets lent 0 (file_of points) → WriteSays points lent r left
  says_whole e s h l =
      let zero : 0 + length (file_of points) ≡ length (file_of points) = omega arith in
      record {
        answer = s ∙ sym (also_answers _ e);
        bytes = l ∙ sets-eq (file_of points) lent 0 (omega arith) ∙ ap (λ (n : ℕ). file_of points ++ drop n lent) zero
            ∙ sym (ap (λ (o : Outcome (List ℕ)). filled o lent) e);
      }

-- no two results satisfy the promise: neither the answer nor a lent byte is left open
pub write_fixed : (points : List Float) (lent : List ℕ) → Fixes (λ (w : Result ℕ Refusal × List ℕ). WriteSays points lent w.0 w.1)
write_fixed points lent a b p q =
    ap₂ (λ (r : Result ℕ Refusal) (left : List ℕ). (r, left)) (outcome_once _ (λ m n e. e) a.0 b.0 (p.answer ∙ sym q.answer)) (p.bytes ∙ sym q.bytes)
