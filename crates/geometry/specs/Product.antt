-- The exact product of two doubles, and the twelve summands of stage 3.
use Rattle.std.specs.Prelude.{List, [], ◌∷◌, ◌++◌, ◌-ℤ◌, ◌*ℤ◌, Float}
use Rattle.std.specs.Int.Signed.{quot_z}
use Rattle.std.specs.Float.{binary64}
use Rattle.std.specs.Float.Ieee.{mul, neg}
use Rattle.double.specs.Worth.{worth, double_of}
use Rattle.point.specs.declared.Point.{Point}
use Rattle.point.specs.Spot.{unit}

-- Side 10: the roundoff: the double of what the rounded product lacks of the exact one; +0 where that is nothing
unfoldable pub roundoff_of : Float → Float → Float
unfolding worth double_of
roundoff_of x y = double_of (quot_z (worth x *ℤ worth y) unit -ℤ worth (mul binary64 x y))

-- Side 10: the pair of a product: rounded, and its roundoff
abbrev pub pair_of : Float → Float → List Float
pair_of x y = mul binary64 x y ∷ roundoff_of x y ∷ []

-- Side 9 and 11: the twelve summands: pair after pair, the six products in their order and each before its roundoff
unfoldable pub summands_of : Point → Point → Point → List Float
unfolding roundoff_of
summands_of p q r =
    pair_of q.x r.y
    ++ pair_of (neg q.x) p.y
    ++ pair_of (neg p.x) r.y
    ++ pair_of (neg q.y) r.x
    ++ pair_of q.y p.x
    ++ pair_of p.y r.x
