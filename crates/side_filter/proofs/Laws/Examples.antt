-- The filter on real doubles, worked through: each is a computation. In order: a triangle, the same turned round, three points of a line.
-- Not here: the laws. Assumes nothing.
use mathlib.Core.Path.{◌≡◌, refl}
use mathlib.Core.Bool.{true, false}
use lib.IntN.{pos}
use lib.Ieee.{Float, fin, of_bits, add, sub, neg, mul, lt, eq}
use Rattle.double.proofs.Laws.Zero.{plus_zero}
use Rattle.point.specs.declared.Point.{Point}
use Rattle.side_filter.specs.Filter.{filter_constant, x_span_of, threshold_of, difference_of, filter_of}
use Rattle.side_filter.specs.declared.answer.Early.TheVariants.{Plus, Minus, Open}

one : Float
one = fin false 1 (pos 0)

two : Float
two = fin false 1 (pos 1)

abbrev at : Float → Float → Point
at x y = record { x = x; y = y }

-- (0, 0), (1, 0), (0, 1): X is 1, E the constant, D is 1 and above E
filter_triangle : (x_span_of (at plus_zero plus_zero) (at one plus_zero) (at plus_zero one) ≡ one)
    × (threshold_of one one ≡ filter_constant)
    × (difference_of (at plus_zero plus_zero) (at one plus_zero) (at plus_zero one) ≡ one)
    × (filter_of (at plus_zero plus_zero) (at one plus_zero) (at plus_zero one) ≡ Plus)
unfolding filter_of of_bits one add sub mul neg lt eq
filter_triangle = (refl, refl, refl, refl)

-- the same turned round, (0, 0), (0, 1), (1, 0): D is -1, below -E
filter_turned : (difference_of (at plus_zero plus_zero) (at plus_zero one) (at one plus_zero) ≡ fin true 1 (pos 0))
    × (filter_of (at plus_zero plus_zero) (at plus_zero one) (at one plus_zero) ≡ Minus)
unfolding filter_of of_bits one add sub mul neg lt eq
filter_turned = (refl, refl)

-- (0, 0), (1, 1), (2, 2): D is +0, and neither above E nor below -E
filter_line : (difference_of (at plus_zero plus_zero) (at one one) (at two two) ≡ plus_zero)
    × (filter_of (at plus_zero plus_zero) (at one one) (at two two) ≡ Open)
unfolding filter_of of_bits one two add sub mul neg lt eq
filter_line = (refl, refl)
