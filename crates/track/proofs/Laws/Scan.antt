-- The scan of a file's coordinates. In order: what it gives a reader, turn by turn; what a scan is. Not here: the list that a reader fills
-- (Laws.Read). Assumes nothing.
use Prim.Native.Nat.{ℕ, zero, suc, ◌≤◌, ◌<◌}
use mathlib.Core.Path.{◌≡◌, refl, sym, ap, ◌∙◌}
use mathlib.Core.Bool.{Bool, true, false}
use mathlib.Core.List.{List, [], ◌∷◌, ◌++◌}
use native.Mathlib.Omega.{arith}
use borrow.Author.Tests.{leb-true, leb-false}
use lib.Dec.{leb}
use lib.ListN.{length}
use lib.Ieee.{Float}
use Rattle.refusal.specs.Outcome.{Outcome, answers, refuses, bytes_after}
use Rattle.refusal.specs.Judged.{require, also}
use Rattle.refusal.proofs.Laws.Outcome.{never}
use Rattle.coordinate.specs.declared.answer.Coordinate.{Coordinate}
use Rattle.coordinate.specs.Coordinate.{coordinate_of}
use Rattle.track.specs.Scan.{Scan, coordinate_then, scan_from, values, offset_after, pattern_after}
use Rattle.track.specs.Read.{coordinates_of}
use Rattle.coordinate.proofs.Laws.Coordinate.{is_coordinates, coordinate_refusal}

-- ---- turn by turn
module _ (bytes : List ℕ) (start before other : ℕ) where
  pub coordinates_end : coordinates_of bytes start before other 0
      ≡ also (require (leb (length bytes) start) bytes_after start) (λ _. answers [])
  unfolding coordinates_of scan_from
  coordinates_end = refl

  pub coordinates_turn : (n : ℕ) → coordinates_of bytes start before other (suc n)
      ≡ also (coordinate_of bytes start before)
      (λ c. also (coordinates_of bytes c.next other c.pattern n) (λ rest. answers (c.value ∷ rest)))
  unfolding coordinates_of scan_from
  coordinates_turn n = go (coordinate_of bytes start before)
    where
      later : Coordinate → Scan
      later c = scan_from bytes c.next other c.pattern n

      pass : (x : Float) (xs : List Float) (o : Outcome Unit)
          → also o (λ _. answers (x ∷ xs)) ≡ also (also o (λ _. answers xs)) (λ rest. answers (x ∷ rest))
      pass x xs (answers u) = refl
      pass x xs (refuses number place) = refl

      go : (o : Outcome Coordinate)
          → also (coordinate_then o later).stop (λ _. answers (values (coordinate_then o later).coordinates))
          ≡ also o (λ c. also (also (later c).stop (λ _. answers (values (later c).coordinates))) (λ rest. answers (c.value ∷ rest)))
      go (answers c) = pass c.value (values (later c).coordinates) (later c).stop
      go (refuses number place) = refl

-- ---- what a scan is
-- of at most n coordinates from `start` on
pub record Scanned (bytes : List ℕ) (start before other n : ℕ) (s : Scan) : Type 0 where
  pub few : length s.coordinates ≤ n
  -- each is the one that begins where those before it end
  pub whole : (cs : List Coordinate) (c : Coordinate) (ds : List Coordinate) → s.coordinates ≡ cs ++ (c ∷ ds)
      → coordinate_of bytes (offset_after start cs) (pattern_after before other cs) ≡ answers c
  -- no stop: n coordinates, and no byte after them
  pub ended : s.stop ≡ answers tt → (length s.coordinates ≡ n) × (length bytes ≤ offset_after start s.coordinates)
  -- 8: n coordinates, and a byte after them
  pub over : (place : ℕ) → s.stop ≡ refuses bytes_after place
      → (length s.coordinates ≡ n) × (place ≡ offset_after start s.coordinates) × (place < length bytes)
  -- any other, which `coordinate_refusal` says is 6, 7 or 3: the refusal of a coordinate, where those before it end
  pub fault : (number place : ℕ) → s.stop ≡ refuses number place → (number ≡ bytes_after → ⊥)
      → (length s.coordinates < n)
      × (coordinate_of bytes (offset_after start s.coordinates) (pattern_after before other s.coordinates) ≡ refuses number place)

none_before : (cs : List Coordinate) (c : Coordinate) (ds : List Coordinate) → ◌≡◌ {A = List Coordinate} [] (cs ++ (c ∷ ds)) → ⊥
none_before [] c ds e = never (cc)
none_before (b ∷ bs) c ds e = never (cc)

module _ (bytes : List ℕ) (start before other : ℕ) where
  scanned_end : (t : Bool) → leb (length bytes) start ≡ t
      → Scanned bytes start before other 0 (record { coordinates = []; stop = require t bytes_after start })
  scanned_end true h = record {
    few = omega arith;
    whole = λ cs c ds e. absurd (none_before cs c ds e);
    ended = λ _. (refl, leb-true (length bytes) start h);
    over = λ place e. never (cc);
    fault = λ number place e. never (cc);
  }
  scanned_end false h = record {
    few = omega arith;
    whole = λ cs c ds e. absurd (none_before cs c ds e);
    ended = λ e. never (cc);
    over = λ place e. (let same : start ≡ place = cc in (refl, sym same, omega (arith, leb-false (length bytes) start h)));
    fault = λ number place e k. absurd (k (cc));
  }

  scanned_turn : (n : ℕ) (o : Outcome Coordinate) (rest : Coordinate → Scan) → coordinate_of bytes start before ≡ o
      → ((c : Coordinate) → Scanned bytes c.next other c.pattern n (rest c))
      → Scanned bytes start before other (suc n) (coordinate_then o rest)
  scanned_turn n (answers c) rest e later =
      let l = later c in record {
        few = omega (arith, l.few);
        whole = first;
        ended = λ h. (omega (arith, (l.ended h).0), (l.ended h).1);
        over = λ place h. (let r = l.over place h in (omega (arith, r.0), r.1, r.2));
        fault = λ number place h k. (let r = l.fault number place h k in (omega (arith, r.0), r.1));
      }
    where
      first : (cs : List Coordinate) (d : Coordinate) (ds : List Coordinate) → c ∷ (rest c).coordinates ≡ cs ++ (d ∷ ds)
          → coordinate_of bytes (offset_after start cs) (pattern_after before other cs) ≡ answers d
      first [] d ds h = let same : c ≡ d = cc in e ∙ ap answers same
      first (b ∷ bs) d ds h =
          let same : c ≡ b = cc in
          let tail : (rest c).coordinates ≡ bs ++ (d ∷ ds) = cc in
          ap (λ (z : Coordinate). coordinate_of bytes (offset_after z.next bs) (pattern_after other z.pattern bs)) (sym same)
          ∙ (later c).whole bs d ds tail
  scanned_turn n (refuses number place) rest e later = record {
    few = omega arith;
    whole = λ cs c ds h. absurd (none_before cs c ds h);
    ended = λ h. never (cc);
    over = λ p h. absurd (
        let eight : number ≡ bytes_after = cc in
        let z : false ≡ true = ap is_coordinates (sym eight) ∙ (coordinate_refusal bytes start before number place e).0 in
        let y : ◌≡◌ {A = ℕ} 0 1 = cc in
        omega arith);
    fault = λ n p h k. (omega arith, e ∙ cc);
  }

pub scan_scanned : (n : ℕ) (bytes : List ℕ) (start before other : ℕ)
    → Scanned bytes start before other n (scan_from bytes start before other n)
unfolding scan_from
scan_scanned zero bytes start before other = scanned_end bytes start before other (leb (length bytes) start) refl
scan_scanned (suc n) bytes start before other =
    scanned_turn bytes start before other n (coordinate_of bytes start before) _ refl
    (λ c. scan_scanned n bytes c.next other c.pattern)
