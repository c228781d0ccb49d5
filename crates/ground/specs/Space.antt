-- Points of whole numbers with a height. In order: the point, and the one below it; the determinant of four; four points with two of them
-- exchanged, and four of which two are equal.
use Rattle.std.specs.Prelude.{◌≡◌, ℤ, pos, ◌+ℤ◌, ◌-ℤ◌, ◌*ℤ◌}
use Rattle.ground.specs.Plane.{Spot}

-- Plane 1: a point with a height, here of whole numbers
pub record HighSpot : Type 0 where
  pub x : ℤ
  pub y : ℤ
  pub height : ℤ

-- Plane 9: the point below it on the ground plan
abbrev pub shadow : HighSpot → Spot
shadow p = record { x = p.x; y = p.y }

-- the determinant of the rows a b c, d e f and g h i, by its first row
abbrev pub three_rows : ℤ → ℤ → ℤ → ℤ → ℤ → ℤ → ℤ → ℤ → ℤ → ℤ
three_rows a b c d e f g h i = a *ℤ (e *ℤ i -ℤ f *ℤ h) -ℤ b *ℤ (d *ℤ i -ℤ f *ℤ g) +ℤ c *ℤ (d *ℤ h -ℤ e *ℤ g)

-- Plane 1: the determinant of the four rows x, y, height, 1, by its first row
abbrev pub determinant : HighSpot → HighSpot → HighSpot → HighSpot → ℤ
determinant p q r s =
    p.x *ℤ three_rows q.y q.height (pos 1) r.y r.height (pos 1) s.y s.height (pos 1)
    -ℤ p.y *ℤ three_rows q.x q.height (pos 1) r.x r.height (pos 1) s.x s.height (pos 1)
    +ℤ p.height *ℤ three_rows q.x q.y (pos 1) r.x r.y (pos 1) s.x s.y (pos 1)
    -ℤ pos 1 *ℤ three_rows q.x q.y q.height r.x r.y r.height s.x s.y s.height

-- Plane 8: p, q, r, s with two of them exchanged
pub data Exchanged {A : Type 0} (p q r s : A) : A → A → A → A → Type 0 where
  swap_pq : Exchanged p q r s q p r s
  swap_pr : Exchanged p q r s r q p s
  swap_ps : Exchanged p q r s s q r p
  swap_qr : Exchanged p q r s p r q s
  swap_qs : Exchanged p q r s p s r q
  swap_rs : Exchanged p q r s p q s r

-- Plane 8: two of p, q, r, s are equal
pub data TwoEqual {A : Type 0} (p q r s : A) : Type 0 where
  equal_pq : p ≡ q → TwoEqual p q r s
  equal_pr : p ≡ r → TwoEqual p q r s
  equal_ps : p ≡ s → TwoEqual p q r s
  equal_qr : q ≡ r → TwoEqual p q r s
  equal_qs : q ≡ s → TwoEqual p q r s
  equal_rs : r ≡ s → TwoEqual p q r s
