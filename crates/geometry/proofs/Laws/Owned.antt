-- What owning a point, or a list of corners, tells: the format holds the coordinates. So an accepted point is within the reach and of finite
-- doubles. Assumes nothing.
use mathlib.Core.Path.{◌≡◌, sym, subst}
use mathlib.Core.Bool.{true}
use mathlib.Core.List.{List}
use Prim.Native.Nat.{ℕ, ◌+◌, ◌*◌}
use lib.Dec.{T}
use lib.ListN.{get_or}
use lib.Ieee.{Float, nan, binary64, fits}
use Rattle.point.specs.Accepted.{reach, Accepted, OfDoubles}
use Rattle.point.specs.declared.Point.{Point}
use Rattle.point.proofs.Laws.Within.{Within, accepted_within_lem}
use Rattle.point.proofs.Laws.Worths.{RealPoint, accepted_point}
use Rattle.geometry.specs.Zone.{corner_at}

module _ (p : Point) (x : fits binary64 p.x ≡ true) (y : fits binary64 p.y ≡ true) where
  pub owned_doubles : OfDoubles p
  owned_doubles = record { x = subst T (sym x) tt; y = subst T (sym y) tt }

  pub owned_within : Accepted p → Within reach p
  owned_within h = accepted_within_lem p (subst T (sym x) tt) (subst T (sym y) tt) h

  pub owned_real : Accepted p → RealPoint p
  owned_real h = accepted_point p owned_doubles h

-- of a list of doubles: a corner that is accepted is a real point
pub corner_real : (xs : List Float) → ((i : ℕ) → T (fits binary64 (get_or xs i nan))) → (k : ℕ) → Accepted (corner_at xs k)
    → RealPoint (corner_at xs k)
corner_real xs d k h = accepted_point (corner_at xs k) (record { x = d (2 * k); y = d (2 * k + 1) }) h
