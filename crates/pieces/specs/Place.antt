-- Fractions of whole numbers, and the places of the plane whose coordinates are such fractions.
use Rattle.std.specs.Prelude.{◌≡◌, ℤ, pos, ◌*ℤ◌}
use Rattle.whole.specs.Order.{◌<ᶻ◌}
use Rattle.ground.specs.Plane.{Spot}

-- Meeting 2: a fraction of two whole numbers, the lower one above 0
pub record Fraction : Type 0 where
  pub top : ℤ
  pub bottom : ℤ
  pub positive : pos 0 <ᶻ bottom

-- Meeting 2: a place has two coordinates, each a fraction
pub record Place : Type 0 where
  pub x : Fraction
  pub y : Fraction

-- Meeting 2: equal fractions, however they are written: a/b and c/d where a·d is c·b
infix 4 ◌≈◌
abbrev pub ◌≈◌ : Fraction → Fraction → Type 0
f ≈ g = f.top *ℤ g.bottom ≡ g.top *ℤ f.bottom

-- Meeting 2: one place, however it is written
pub record Same (r s : Place) : Type 0 where
  pub x : r.x ≈ s.x
  pub y : r.y ≈ s.y

-- Meeting 2: a whole number is a fraction over 1, and a point is a place
abbrev pub over1 : ℤ → Fraction
over1 n = record { top = n; bottom = pos 1; positive = record { lt = tt } }

abbrev pub at : Spot → Place
at p = record { x = over1 p.x; y = over1 p.y }
