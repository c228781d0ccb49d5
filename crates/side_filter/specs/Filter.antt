-- Stages 1 and 2 of a side: doubles alone, each operation rounded once.
use Rattle.std.specs.Prelude.{◌*◌, ◌^◌, ◌≡◌, ◌||◌, cond, Float, ℤ, pos, ◌+ℤ◌, ◌-ℤ◌, ◌*ℤ◌}
use Rattle.std.specs.Float.{binary64}
use Rattle.std.specs.Float.Ieee.{sub, mul, neg, lt, eq, of_bits}
use Rattle.double.specs.Worth.{plus0, worth}
use Rattle.point.specs.declared.Point.{Point}
use Rattle.point.specs.Accepted.{magnitude_of, Accepted}
use Rattle.point.specs.Spot.{determinant, unit}
use Rattle.whole.specs.Order.{◌≤ᶻ◌, ◌<ᶻ◌}
use Rattle.side_filter.specs.declared.answer.Early.{Early}
use Rattle.side_filter.specs.declared.answer.Early.TheVariants.{Level, Plus, Minus, Open}

-- Side 5: the double nearest to 8.8872057372592758e-16
abbrev pub filter_constant : Float
filter_constant = of_bits binary64 0x3CD0_0280_1000_0002

-- Side 3: X and Y: the greater magnitude of two differences, of u and v, each less w, rounded once
abbrev pub greater : Float → Float → Float
greater a b = cond (lt a b) b a

abbrev pub span_of : Float → Float → Float → Float
span_of u v w = greater (magnitude_of (sub binary64 u w)) (magnitude_of (sub binary64 v w))

abbrev pub x_span_of : Point → Point → Point → Float
x_span_of p q r = span_of q.x r.x p.x

abbrev pub y_span_of : Point → Point → Point → Float
y_span_of p q r = span_of q.y r.y p.y

-- Side 6: E: the constant times X, rounded, and that times Y, rounded
abbrev pub threshold_of : Float → Float → Float
threshold_of X Y = mul binary64 (mul binary64 filter_constant X) Y

-- Side 7: the two products of rounded differences, each rounded
abbrev pub first_product_of : Point → Point → Point → Float
first_product_of p q r = mul binary64 (sub binary64 q.x p.x) (sub binary64 r.y p.y)

abbrev pub second_product_of : Point → Point → Point → Float
second_product_of p q r = mul binary64 (sub binary64 q.y p.y) (sub binary64 r.x p.x)

-- Side 7: D: the first product less the second, rounded
abbrev pub difference_of : Point → Point → Point → Float
difference_of p q r = sub binary64 (first_product_of p q r) (second_product_of p q r)

-- Side 8: a D above E is +1, one below -E is -1, and any other tells nothing
abbrev pub clear_by : Float → Float → Early
clear_by D E = cond (lt E D) Plus (cond (lt D (neg E)) Minus Open)

-- Side 4: in stage 1 the sign is 0 where X or Y is zero
abbrev pub filter_by : Float → Float → Float → Early
filter_by D X Y = cond (eq X plus0 || eq Y plus0) Level (clear_by D (threshold_of X Y))

unfoldable pub filter_of : Point → Point → Point → Early
unfolding magnitude_of
filter_of p q r = filter_by (difference_of p q r) (x_span_of p q r) (y_span_of p q r)

-- ---- what the function of the two stages promises

-- the two rounded products' exact difference, in squares of units
abbrev pub product_difference : Point → Point → Point → ℤ
product_difference p q r = (worth (first_product_of p q r) -ℤ worth (second_product_of p q r)) *ℤ unit

-- X times Y, in squares of units
abbrev pub span_product : Point → Point → Point → ℤ
span_product p q r = worth (x_span_of p q r) *ℤ worth (y_span_of p q r)

-- a and b differ by at most e
abbrev pub Near : ℤ → ℤ → ℤ → Type 0
Near a b e = (a ≤ᶻ b +ℤ e) × (b ≤ᶻ a +ℤ e)

-- the filter's error bound, and so that the answer is never wrong
pub record Sure (p q r : Point) (f : Early) : Type 0 where
  -- the difference of the two rounded products is within 7 / 2^53 of X times Y of the exact determinant
  pub near : Near (pos (2 ^ 53) *ℤ product_difference p q r) (pos (2 ^ 53) *ℤ determinant p q r) (pos 7 *ℤ span_product p q r)
  -- E is at least 7.9 / 2^53 of X times Y
  pub enough : pos 79 *ℤ span_product p q r ≤ᶻ pos (10 * 2 ^ 53) *ℤ (worth (threshold_of (x_span_of p q r) (y_span_of p q r)) *ℤ unit)
  -- so a D above E has the exact determinant positive, one below -E negative; and it is 0 where X or Y is
  pub level : f ≡ Level → determinant p q r ≡ pos 0
  pub plus : f ≡ Plus → pos 0 <ᶻ determinant p q r
  pub minus : f ≡ Minus → determinant p q r <ᶻ pos 0

-- the promise of `filtered`: the rule's answer for all doubles, of which accepted points can be sure
pub record FilteredSays (p q r : Point) (f : Early) : Type 0 where
  pub answer : f ≡ filter_of p q r
  pub sure : Accepted p → Accepted q → Accepted r → Sure p q r f
