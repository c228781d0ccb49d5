-- Comparisons of finite doubles are those of what they are worth. In order: points of finite doubles; at most, less, and equal.
-- Assumes nothing.
use mathlib.Core.Path.{◌≡◌, sym, ◌∙◌}
use Prim.Native.Nat.{ℕ}
use lib.Ieee.{Float, binary64, lt, le, eq}
use Rattle.ground.specs.Compare.{at_most, below, equal}
use Rattle.ground.proofs.Laws.Compare.{at_most_parts, below_parts, equal_parts}
use Rattle.double.specs.Worth.{worth}
use Rattle.double.proofs.Laws.Units.{Real}
use Rattle.double.proofs.Laws.Compare.{lt_is, le_is, eq_is}
use Rattle.double.proofs.Laws.Worth.{worth_up, worth_dn}
use Rattle.point.specs.declared.Point.{Point}
use Rattle.point.specs.Accepted.{reach, Accepted, OfDoubles}
use Rattle.point.proofs.Laws.Accepted.{accepted_real}
use Rattle.point.proofs.Laws.Within.{Within}

-- ---- points of finite doubles
pub record RealPoint (p : Point) : Type 0 where
  pub x : Real binary64 p.x
  pub y : Real binary64 p.y

pub accepted_point : (p : Point) → OfDoubles p → Accepted p → RealPoint p
accepted_point p d a = record { x = accepted_real reach p.x d.x a.x; y = accepted_real reach p.y d.y a.y }

pub within_point : (k : ℕ) (p : Point) → Within k p → RealPoint p
within_point k p w = record { x = w.x.real; y = w.y.real }

-- ---- comparisons
pub le_worth : (x y : Float) → Real binary64 x → Real binary64 y → le x y ≡ at_most (worth x) (worth y)
le_worth x y rx ry = le_is binary64 x y rx ry ∙ sym (at_most_parts (worth x) (worth y) ∙ rw (worth_up x, worth_dn y, worth_up y, worth_dn x))

pub lt_worth : (x y : Float) → Real binary64 x → Real binary64 y → lt x y ≡ below (worth x) (worth y)
lt_worth x y rx ry = lt_is binary64 x y rx ry ∙ sym (below_parts (worth x) (worth y) ∙ rw (worth_up x, worth_dn y, worth_up y, worth_dn x))

pub eq_worth : (x y : Float) → Real binary64 x → Real binary64 y → eq x y ≡ equal (worth x) (worth y)
eq_worth x y rx ry = eq_is binary64 x y rx ry ∙ sym (equal_parts (worth x) (worth y) ∙ rw (worth_up x, worth_dn y, worth_up y, worth_dn x))
