-- Which refusals the reader gives. In order: those of all coordinates, and of a whole file, by what each can be; the bytes at a 6 or 7; the
-- numbers that there are where there is room for the most points. Not here: which of them is given (Laws.Read), the bytes of one number
-- (Laws.Faults of crate number). Assumes nothing.
use Prim.Native.Nat.{ℕ, zero, suc, ◌*◌, ◌≤◌, ◌<◌}
use mathlib.Core.Path.{◌≡◌, refl}
use mathlib.Core.Bool.{Bool, true, false, ◌||◌}
use mathlib.Core.List.{List, []}
use native.Mathlib.Omega.{arith}
use borrow.Author.Tests.{leb-true, leb-false}
use lib.Dec.{eqb, leb}
use lib.ListN.{length, drop}
use Rattle.refusal.specs.Outcome.{Outcome, answers, too_many, not_accepted, ends_early, not_shortest, bytes_after, no_room}
use Rattle.refusal.specs.Judged.{require, also}
use Rattle.refusal.proofs.Laws.Outcome.{never}
use Rattle.number.specs.Number.{number_of}
use Rattle.coordinate.specs.Coordinate.{coordinate_of}
use Rattle.track.specs.Read.{coordinates_of, counted_of, read_of}
use Rattle.refusal.proofs.Laws.Judged.{Each, each_answers, each_also, each_require}
use Rattle.number.proofs.Laws.Number.{number_each}
use Rattle.number.proofs.Laws.Faults.{EndsEarly, NotShortest, number_early, number_faulty}
use Rattle.coordinate.proofs.Laws.Coordinate.{coordinate_each}
use Rattle.track.proofs.Laws.Scan.{coordinates_end, coordinates_turn}

-- ---- each refusal of the reader
module _ (such : ℕ → ℕ → Type 0) (bytes : List ℕ) (number : (start : ℕ) → Each such (number_of bytes start))
    (bad : (start : ℕ) → such not_accepted start) (after : (place : ℕ) → place < length bytes → such bytes_after place) where
  coordinates_each : (n start before other : ℕ) → Each such (coordinates_of bytes start before other n)
  coordinates_each zero start before other =
      rw coordinates_end (each_require such (leb (length bytes) start) bytes_after start _
      (λ t. after start (leb-false (length bytes) start t)) (λ _. each_answers such []))
  coordinates_each (suc n) start before other =
      rw coordinates_turn (each_also such (coordinate_of bytes start before) _
      (coordinate_each bytes start before such (number start) (bad start)) (λ c e.
      let later = coordinates_each n c.next other c.pattern in
      each_also such (coordinates_of bytes c.next other c.pattern n) _ later (λ rest k. each_answers such _)))

  pub read_each : (most room : ℕ) → such too_many 0 → (room < 2 * most → such no_room 0) → Each such (read_of most bytes room)
  unfolding read_of counted_of
  read_each most room many short = each_also such (number_of bytes 0) _ (number 0) (λ count e.
      each_require such (leb count.value most) too_many 0 _ (λ _. many) (λ t.
      let few : count.value ≤ most = leb-true count.value most t in
      let over : leb (2 * count.value) room ≡ false → room < 2 * most = λ f. omega (arith, leb-false (2 * count.value) room f) in
      each_require such (leb (2 * count.value) room) no_room 0 _ (λ f. short (over f)) (λ _.
      coordinates_each (2 * count.value) count.next 0 0)))

-- ---- the bytes at a refusal 6 or 7
pub record Faulted (bytes : List ℕ) (number place : ℕ) : Type 0 where
  pub early : number ≡ ends_early → EndsEarly (drop place bytes)
  pub long : number ≡ not_shortest → NotShortest (drop place bytes)

pub read_faulted : (most : ℕ) (bytes : List ℕ) (room : ℕ) → Each (Faulted bytes) (read_of most bytes room)
read_faulted most bytes room =
    read_each (Faulted bytes) bytes
    (λ start. number_each (Faulted bytes) bytes start
    (λ e. record { early = λ _. (number_early bytes start).0 e; long = λ z. absurd (omega arith) })
    (λ e. record { early = λ z. absurd (omega arith); long = λ _. (number_faulty bytes start).0 e }))
    (λ start. neither not_accepted start (λ z. omega arith) (λ z. omega arith))
    (λ place _. neither bytes_after place (λ z. omega arith) (λ z. omega arith))
    most room (neither too_many 0 (λ z. omega arith) (λ z. omega arith)) (λ _. neither no_room 0 (λ z. omega arith) (λ z. omega arith))
  where
    neither : (number place : ℕ) → (number ≡ ends_early → ⊥) → (number ≡ not_shortest → ⊥) → Faulted bytes number place
    neither number place six seven = record { early = λ e. absurd (six e); long = λ e. absurd (seven e) }

-- ---- a judgement that refuses with no other numbers
abbrev pub Only : {A : Type 0} → (ℕ → Bool) → Outcome A → Type 0
Only is o = Each (λ number place. is number ≡ true) o

module _ (is : ℕ → Bool) where
  abbrev numbered : ℕ → ℕ → Type 0
  numbered number place = is number ≡ true

  pub only_answers : {A : Type 0} (a : A) → Only is (answers a)
  only_answers a = each_answers numbered a

  pub only_also : {A B : Type 0} (o : Outcome A) (next : A → Outcome B) → Only is o → ((a : A) → o ≡ answers a → Only is (next a))
      → Only is (also o next)
  only_also o next h k = each_also numbered o next h k

  pub only_require : {B : Type 0} (t : Bool) (n p : ℕ) (next : Unit → Outcome B) → is n ≡ true → (t ≡ true → Only is (next tt))
      → Only is (also (require t n p) next)
  only_require t n p next h k = each_require numbered t n p next (λ _. h) k

  -- a test that always holds
  pub only_require_held : {B : Type 0} (t : Bool) (n p : ℕ) (next : Unit → Outcome B) → t ≡ true → Only is (next tt)
      → Only is (also (require t n p) next)
  only_require_held t n p next h k =
      each_require numbered t n p next (λ f. never (cc)) (λ _. k)

-- ---- the reader's numbers, where there is room: all but 9 of the order: 6 or 7 for the count, 1, 9, then 6 or 7 and 3 for each number, last 8
abbrev pub is_readers : ℕ → Bool
is_readers n = eqb n ends_early || (eqb n not_shortest || (eqb n too_many || (eqb n not_accepted || eqb n bytes_after)))

pub read_only : (most : ℕ) (bytes : List ℕ) (room : ℕ) → 2 * most ≤ room → Only is_readers (read_of most bytes room)
read_only most bytes room h =
    read_each (numbered is_readers) bytes (λ start. number_each (numbered is_readers) bytes start (λ _. refl) (λ _. refl)) (λ _. refl)
    (λ _ _. refl) most room refl (λ l. absurd (omega arith))
