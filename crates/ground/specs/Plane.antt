-- Points of whole numbers, and the determinant of three.
use Rattle.std.specs.Prelude.{ℤ, ◌-ℤ◌, ◌*ℤ◌}

-- Numbers 7: a point, here of whole numbers
pub record Spot : Type 0 where
  pub x : ℤ
  pub y : ℤ

-- Side 1: the exact determinant, whose sign is the side
abbrev pub determinant : Spot → Spot → Spot → ℤ
determinant p q r = (q.x -ℤ p.x) *ℤ (r.y -ℤ p.y) -ℤ (q.y -ℤ p.y) *ℤ (r.x -ℤ p.x)
