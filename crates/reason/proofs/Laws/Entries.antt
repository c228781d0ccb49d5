-- Entries as bytes. In order: which entry a byte is; the bytes that stand are those of the entries; their numbers rise; their total.
-- Not here: which edges are listed (`Reason` of `ground`). Assumes nothing.
use mathlib.Core.Path.{◌≡◌, refl, sym, ap, ap₂}
use mathlib.Core.Bool.{cond}
use mathlib.Core.List.{List, [], ◌∷◌, ◌++◌, map, Memᴰ}
use Prim.Native.Nat.{ℕ, zero, suc, ◌+◌, ◌*◌, ◌/◌, ◌%◌, ◌≤◌, ◌<◌}
use native.Mathlib.Omega.{arith}
use lib.Dec.{eqb}
use lib.IntN.{ℤ, pos, negsuc, ◌+ℤ◌}
use lib.ListN.{length, get_or}
use borrow.Author.Tests.{eq-eqb, ne_eqb}
use Rattle.ground.specs.Reason.{Turn, up, down, Entry, entry, RiseFrom, turn_number, total_listed}
use Rattle.reason.specs.Why.{turn_code, code}
use Rattle.reason.specs.Reasons.{Stands, total_coded}

-- ---- which entry a byte is
pub code_up : (x : Entry) (k : ℕ) → code x ≡ 2 * k → x ≡ entry k up
code_up x k e = go x.turn e
  where
    go : (t : Turn) → 2 * x.edge + turn_code t ≡ 2 * k → entry x.edge t ≡ entry k up
    go up e = let same : x.edge ≡ k = omega arith in ap (λ (n : ℕ). entry n up) same
    go down e = let z : ⊥ = omega arith in absurd z

pub code_down : (x : Entry) (k : ℕ) → code x ≡ 2 * k + 1 → x ≡ entry k down
code_down x k e = go x.turn e
  where
    go : (t : Turn) → 2 * x.edge + turn_code t ≡ 2 * k + 1 → entry x.edge t ≡ entry k down
    go up e = let z : ⊥ = omega arith in absurd z
    go down e = let same : x.edge ≡ k = omega arith in ap (λ (n : ℕ). entry n down) same

-- the edge of a byte
pub code_edge : (x : Entry) → code x / 2 ≡ x.edge
code_edge x = go x.turn
  where
    go : (t : Turn) → (2 * x.edge + turn_code t) / 2 ≡ x.edge
    go up = omega arith
    go down = omega arith

-- ---- the bytes that stand are those of the entries
pub stands_listed : (xs : List Entry) (rest : List ℕ) (v : ℕ) → Stands (map code xs ++ rest) (length xs) v → (x : Entry) × Memᴰ x xs × (code x ≡ v)
stands_listed xs rest v s = go xs s.at s.within s.is
  where
    go : (xs : List Entry) (i : ℕ) → i < length xs → get_or (map code xs ++ rest) i 0 ≡ v → (x : Entry) × Memᴰ x xs × (code x ≡ v)
    go [] i h e = let z : ⊥ = omega arith in absurd z
    go (x ∷ xs) zero h e = (x, Memᴰ.head refl, e)
    go (x ∷ xs) (suc i) h e = let (y, m, c) = go xs i (omega arith) e in (y, Memᴰ.tail m, c)

pub listed_stands : (xs : List Entry) (rest : List ℕ) (x : Entry) → Memᴰ x xs → Stands (map code xs ++ rest) (length xs) (code x)
listed_stands xs rest x m = go x xs m
  where
    go : (x : Entry) (xs : List Entry) → Memᴰ x xs → Stands (map code xs ++ rest) (length xs) (code x)
    go x xs (Memᴰ.head {x = y} {xs = ys} e) = record { at = 0; within = omega arith; is = ap code (sym e) }
    go x xs (Memᴰ.tail {x = y} {xs = ys} m) = let s = go x ys m in record { at = suc s.at; within = omega (arith, s.within); is = s.is }

-- ---- their numbers rise
module _ (rest : List ℕ) where
  rise_least : (k : ℕ) (xs : List Entry) (j : ℕ) → RiseFrom k xs → j < length xs → k ≤ get_or (map code xs ++ rest) j 0 / 2
  rise_least k [] j r h = let z : ⊥ = omega arith in absurd z
  rise_least k (x ∷ xs) zero r h = omega (arith, code_edge x, r.0)
  rise_least k (x ∷ xs) (suc j) r h = omega (arith, rise_least (suc x.edge) xs j r.1 (omega arith), r.0)

  pub bytes_rise : (k : ℕ) (xs : List Entry) (i j : ℕ) → RiseFrom k xs → i < j → j < length xs
      → get_or (map code xs ++ rest) i 0 / 2 < get_or (map code xs ++ rest) j 0 / 2
  bytes_rise k [] i j r l h = let z : ⊥ = omega arith in absurd z
  bytes_rise k (x ∷ xs) i zero r l h = let z : ⊥ = omega arith in absurd z
  bytes_rise k (x ∷ xs) zero (suc j) r l h = omega (arith, code_edge x, rise_least (suc x.edge) xs j r.1 (omega arith))
  bytes_rise k (x ∷ xs) (suc i) (suc j) r l h = bytes_rise (suc x.edge) xs i j r.1 (omega arith) (omega arith)

-- ---- their total
pub total_coded_lem : (xs : List Entry) → total_coded (map code xs) ≡ total_listed xs
unfolding total_listed
total_coded_lem [] = refl
total_coded_lem (x ∷ xs) = ap₂ (λ (y z : ℤ). y +ℤ z) (go x.turn) (total_coded_lem xs)
  where
    go : (t : Turn) → cond (eqb ((2 * x.edge + turn_code t) % 2) 0) (pos 1) (negsuc 0) ≡ turn_number t
    go up = rw (eq-eqb ((2 * x.edge + 0) % 2) 0 (omega arith))
    go down = rw (ne_eqb ((2 * x.edge + 1) % 2) 0 (λ e. let z : ⊥ = omega arith in z))
