-- Corners as they are lent.
use Rattle.std.specs.Prelude.{List, [], ◌∷◌, Float}
use Rattle.point.specs.declared.Point.{Point}

-- Zone 1: the doubles of the corners, x and y by turns
abbrev pub flat_of : List Point → List Float
flat_of [] = []
flat_of (c ∷ cs) = c.x ∷ c.y ∷ flat_of cs
