-- The points of a list x, y, x, y ..: how many they are, and each by its number. Not here: edges (`Edges`). Assumes nothing.
use mathlib.Core.Path.{◌≡◌, refl, ap₂, ◌∙◌}
use mathlib.Core.List.{List, [], ◌∷◌}
use Prim.Native.Nat.{ℕ, zero, suc, ◌+◌, ◌*◌, ◌/◌, ◌<◌}
use native.Mathlib.Omega.{arith}
use lib.ListN.{length, get_or}
use lib.Ieee.{Float, nan}
use Rattle.point.specs.declared.Point.{Point}
use Rattle.geometry.specs.Zone.{points_of, corner_at}

pub corners_count : (xs : List Float) → length (points_of xs) ≡ length xs / 2
unfolding points_of
corners_count [] = refl
corners_count (x ∷ []) = refl
corners_count (x ∷ y ∷ xs) = omega (arith, corners_count xs)

-- corner k is the next after two coordinates more
pub corner_later : (x y : Float) (xs : List Float) (k : ℕ) → corner_at xs k ≡ corner_at (x ∷ y ∷ xs) (suc k)
corner_later x y xs k =
    ap₂ (λ (a b : ℕ). let p : Point = record { x = get_or (x ∷ y ∷ xs) a nan; y = get_or (x ∷ y ∷ xs) b nan } in p) even odd
  where
    even : suc (suc (2 * k)) ≡ 2 * suc k
    even = omega arith

    odd : suc (suc (2 * k + 1)) ≡ 2 * suc k + 1
    odd = omega arith

pub corners_entry : (xs : List Float) (k : ℕ) (other : Point) → k < length xs / 2 → get_or (points_of xs) k other ≡ corner_at xs k
unfolding points_of
corners_entry [] k other h = let z : ⊥ = omega arith in absurd z
corners_entry (x ∷ []) k other h = let z : ⊥ = omega arith in absurd z
corners_entry (x ∷ y ∷ xs) zero other h = refl
corners_entry (x ∷ y ∷ xs) (suc k) other h = corners_entry xs k other (omega arith) ∙ corner_later x y xs k
