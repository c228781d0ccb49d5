-- What holds of every entry of a list, and a number taken of each and added. In order: `All`; read off at an index, gathered from the
-- indices; after a `set`; lists of doubles, and what is finite; `sum_of`, at an index and after a `set`.
-- Not here: any particular entry (`Extremes`); the total in ℤ (`Total`). Assumes nothing.
use mathlib.Core.Path.{◌≡◌}
use mathlib.Core.List.{List, [], ◌∷◌}
use Prim.Native.Nat.{ℕ, zero, suc, ◌+◌, ◌≤◌, ◌<◌}
use native.Mathlib.Nat.{zero-lt-suc}
use native.Mathlib.Omega.{arith}
use lib.Dec.{T}
use lib.ListN.{length, get_or, set}
use lib.Ieee.{Float, binary64, fits}
use Rattle.double.proofs.Laws.Units.{Real}
use Rattle.sum.specs.Refused.{AllFinite}

-- P holds of every entry
abbrev pub All : (Float → Type 0) → List Float → Type 0
All P [] = Unit
All P (x ∷ xs) = P x × All P xs

module _ (P : Float → Type 0) where
  pub all_at : (xs : List Float) (i : ℕ) (d : Float) → All P xs → i < length xs → P (get_or xs i d)
  all_at [] i d a h = absurd (omega arith)
  all_at (x ∷ xs) zero d a h = a.0
  all_at (x ∷ xs) (suc i) d a h = all_at xs i d a.1 (omega arith)

  pub all_of : (xs : List Float) (d : Float) → ((i : ℕ) → i < length xs → P (get_or xs i d)) → All P xs
  all_of [] d f = tt
  all_of (x ∷ xs) d f = (f 0 (zero-lt-suc (length xs)), all_of xs d (λ i h. f (suc i) (omega arith)))

  pub all_set : (xs : List Float) (i : ℕ) (u : Float) → All P xs → P u → All P (set xs i u)
  all_set [] i u a p = tt
  all_set (x ∷ xs) zero u a p = (p, a.1)
  all_set (x ∷ xs) (suc i) u a p = (a.0, all_set xs i u a.1 p)

pub all_map : {P Q : Float → Type 0} → ((x : Float) → P x → Q x) → (xs : List Float) → All P xs → All Q xs
all_map f [] a = tt
all_map f (x ∷ xs) a = (f x a.0, all_map f xs a.1)

-- ---- lists of doubles

-- every entry is a finite double
abbrev pub AllReal : List Float → Type 0
AllReal xs = All (Real binary64) xs

pub real_of : (xs : List Float) → AllFinite xs → All (λ x. T (fits binary64 x)) xs → AllReal xs
real_of [] a b = tt
real_of (x ∷ xs) a b = (record { fin = a.0; fit = b.0 }, real_of xs a.1 b.1)

pub real_finite : (xs : List Float) → AllReal xs → AllFinite xs
real_finite [] a = tt
real_finite (x ∷ xs) a = (a.0.fin, real_finite xs a.1)

-- ---- a number of each entry, added

unfoldable pub sum_of : (Float → ℕ) → List Float → ℕ
sum_of g [] = 0
sum_of g (x ∷ xs) = g x + sum_of g xs

module _ (g : Float → ℕ) where
  pub sum_at : (xs : List Float) (i : ℕ) (d : Float) → i < length xs → g (get_or xs i d) ≤ sum_of g xs
  unfolding sum_of
  sum_at [] i d h = absurd (omega arith)
  sum_at (x ∷ xs) zero d h = omega arith
  sum_at (x ∷ xs) (suc i) d h =
      let r : g (get_or xs i d) ≤ sum_of g xs = sum_at xs i d (omega arith) in
      omega arith

  pub sum_set : (xs : List Float) (i : ℕ) (u d : Float) → i < length xs → sum_of g (set xs i u) + g (get_or xs i d) ≡ sum_of g xs + g u
  unfolding sum_of
  sum_set [] i u d h = absurd (omega arith)
  sum_set (x ∷ xs) zero u d h = omega arith
  sum_set (x ∷ xs) (suc i) u d h =
      let r : sum_of g (set xs i u) + g (get_or xs i d) ≡ sum_of g xs + g u = sum_set xs i u d (omega arith) in
      omega arith
