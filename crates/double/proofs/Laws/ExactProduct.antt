-- The exact product. Of two doubles whose product is a whole number of units and far from the format's end, what the rounded product lacks
-- is a double: it has at most 53 digits. Small factors may be subnormal, and zeros are allowed. In order: what is asked of the factors; the
-- product and the rounded one in units; what is lacking, in ℤ, and the double of it. Not here: for whom the condition holds, and how large
-- the roundoff is (`Roundoff`); the same in whole numbers (`Lacking`). Assumes nothing.
use mathlib.Core.Path.{◌≡◌, refl, sym, ap, ap₂, ◌∙◌, subst}
use mathlib.Core.Bool.{Bool, true, false}
use Prim.Native.Nat.{ℕ, suc, ◌+◌, ◌-◌, ◌*◌, ◌^◌, ◌≤◌, ◌<◌, ◌∣◌}
use native.Mathlib.Nat.{le_of_eq, le_of_lt, lt_of_le_of_lt, lt_of_lt_of_le, lt_of_mul-lt-mul_right, mul-le-mul, mul-mul-mul_comm}
use native.Mathlib.Omega.{arith}
use lib.Dec.{lit≤}
use lib.Pow.{pow-add, pow-lt}
use lib.IntN.{ℤ, pos, negsuc, nat_abs, ◌+ℤ◌, ◌-ℤ◌, ◌*ℤ◌}
use lib.Ieee.{Float, binary64, mul, unlike}
use lib.Ieee.Scale.{overflow}
use Rattle.whole.proofs.Laws.Parts.{up, dn, difference_parts}
use Rattle.whole.proofs.Laws.Ring.{◌:+◌, ◌:-◌, ◌:*◌, opp, solve}
use Rattle.double.specs.Worth.{sign_bit, mag, worth, of_units, double_of}
use Rattle.double.specs.Apart.{exponent_of, significand_of}
use Rattle.double.proofs.Laws.Digits.{Rep, gap}
use Rattle.double.proofs.Laws.Rounding.{rn}
use Rattle.double.proofs.Laws.Units.{Real, Known, mag_rep, value_known, of_units_fits, of_units_value}
use Rattle.double.proofs.Laws.Worth.{signed, double_of_real, worth_double_of}
use Rattle.double.proofs.Laws.Multiply.{product_whole, mul_whole}
use Rattle.double.proofs.Laws.Sized.{units_of, rn_pow}
use Rattle.double.proofs.Laws.Apart.{significand_below, significand_exact}
use Rattle.double.proofs.Laws.Lacking.{lack_digits}

-- ---- what is asked
-- a factor is at most 2 ^ factor_most units, which is 2 ^ 990
abbrev pub factor_most : ℕ
factor_most = 2064

-- the product is below 2 ^ product_most squares of units, which is 2 ^ 1023
abbrev pub product_most : ℕ
product_most = 3171

-- 2 ^ i divides x, 2 ^ j divides y, and they make up a unit; neither is too large, nor is the product. Any power of two divides a zero.
pub record Factors (x y : Float) : Type 0 where
  pub x_real : Real binary64 x
  pub y_real : Real binary64 y
  pub i : ℕ
  pub j : ℕ
  pub x_grain : 2 ^ i ∣ mag binary64 x
  pub y_grain : 2 ^ j ∣ mag binary64 y
  pub whole : 1074 ≤ i + j
  pub x_small : mag binary64 x ≤ 2 ^ factor_most
  pub y_small : mag binary64 y ≤ 2 ^ factor_most
  pub small : mag binary64 x * mag binary64 y < 2 ^ product_most

-- ---- the product and the rounded one, in units
-- the product's sign bit, and its units
abbrev pub sign_of : Float → Float → Bool
sign_of x y = unlike (sign_bit x) (sign_bit y)

abbrev pub product_of : Float → Float → ℕ
product_of x y = units_of (mag binary64 x) (mag binary64 y)

-- the product of the significands, and where its last digit stands, in squares of units
abbrev pub significands_of : Float → Float → ℕ
significands_of x y = significand_of (mag binary64 x) * significand_of (mag binary64 y)

abbrev pub last_of : Float → Float → ℕ
last_of x y = exponent_of (mag binary64 x) + exponent_of (mag binary64 y)

pub significands_below : (x y : Float) → significands_of x y < 2 ^ 106
significands_below x y =
    lt_of_le_of_lt
    (mul-le-mul (less (significand_of (mag binary64 x)) (significand_below (mag binary64 x))) (le_of_lt (significand_below (mag binary64 y))))
    (lit≤ tt)
  where
    less : (m : ℕ) → m < 2 ^ 53 → m ≤ 2 ^ 53 - 1
    less m h = omega arith

module _ {x y : Float} (F : Factors x y) where
  product_units : mag binary64 x * mag binary64 y ≡ product_of x y * 2 ^ 1074
  product_units =
      product_whole (mag binary64 x) (mag binary64 y) F.i F.j (F.i + F.j - 1074) 1074 F.x_grain F.y_grain
      (omega (arith, F.whole))

  pub significands_units : significands_of x y * 2 ^ last_of x y ≡ product_of x y * 2 ^ 1074
  significands_units =
      let X : ℕ = mag binary64 x in
      let Y : ℕ = mag binary64 y in
      ap (λ (n : ℕ). significands_of x y * n) (pow-add 2 (exponent_of X) (exponent_of Y))
      ∙ mul-mul-mul_comm (significand_of X) (significand_of Y) (2 ^ exponent_of X) (2 ^ exponent_of Y)
      ∙ ap₂ (λ (m n : ℕ). m * n) (significand_exact X (mag_rep binary64 x F.x_real)) (significand_exact Y (mag_rep binary64 y F.y_real))
      ∙ product_units

  product_below : product_of x y < 2 ^ 2097
  product_below =
      lt_of_mul-lt-mul_right (2 ^ 1074)
      (lt_of_le_of_lt (le_of_eq (sym product_units)) (lt_of_lt_of_le F.small (le_of_eq (pow-add 2 2097 1074))))

  rounded_below : rn 53 (product_of x y) < overflow binary64
  rounded_below = lt_of_le_of_lt (rn_pow (product_of x y) 2097 (le_of_lt product_below)) (pow-lt {i = 2097} {j = 2098} (lit≤ tt))

  -- the rounded product: finite, its sign bit and its units
  pub rounded_known : Known binary64 (mul binary64 x y) (sign_of x y) (rn 53 (product_of x y))
  rounded_known =
      subst (λ (z : Float). Known binary64 z (sign_of x y) (rn 53 (product_of x y)))
      (sym (mul_whole binary64 x y (product_of x y) F.x_real F.y_real product_units))
      (value_known binary64 (of_units binary64 (sign_of x y) (product_of x y)) (sign_of x y) (rn 53 (product_of x y))
      (of_units_fits binary64 (sign_of x y) (product_of x y)) (of_units_value binary64 (sign_of x y) (product_of x y) rounded_below))

-- ---- what the rounded product lacks, in units
abbrev pub lack : Float → Float → ℤ
lack x y = signed (sign_of x y) (product_of x y) -ℤ signed (sign_of x y) (rn 53 (product_of x y))

-- products and differences of signed numbers
signed_product : (s t : Bool) (m n : ℕ) → signed s m *ℤ signed t n ≡ signed (unlike s t) (m * n)
signed_product true true m n = solve 2 (λ m n. (opp m :* opp n, m :* n)) refl (pos m) (pos n)
signed_product true false m n = solve 2 (λ m n. (opp m :* n, opp (m :* n))) refl (pos m) (pos n)
signed_product false true m n = solve 2 (λ m n. (m :* opp n, opp (m :* n))) refl (pos m) (pos n)
signed_product false false m n = refl

pub signed_scale : (s : Bool) (m n : ℕ) → signed s (m * n) ≡ signed s m *ℤ pos n
signed_scale true m n = solve 2 (λ m n. (opp (m :* n), opp m :* n)) refl (pos m) (pos n)
signed_scale false m n = refl

pub difference_size : (m n : ℕ) → nat_abs (pos m -ℤ pos n) ≡ gap n m
unfolding up dn
difference_size m n = by_parts (pos m -ℤ pos n) (difference_parts m n)
  where
    above : (k m n : ℕ) → k + n ≡ 0 + m → k ≡ gap n m
    above k m n e = omega arith

    under : (k m n : ℕ) → 0 + n ≡ k + m → k ≡ gap n m
    under k m n e = omega arith

    by_parts : (z : ℤ) → up z + n ≡ dn z + m → nat_abs z ≡ gap n m
    by_parts (pos k) e = above k m n e
    by_parts (negsuc k) e = under (suc k) m n e

signed_size : (s : Bool) (m n : ℕ) → nat_abs (signed s m -ℤ signed s n) ≡ gap n m
signed_size false m n = difference_size m n
signed_size true m n = ap nat_abs (solve 2 (λ m n. (opp m :- opp n, n :- m)) refl (pos m) (pos n)) ∙ difference_size n m ∙ turn m n
  where
    turn : (m n : ℕ) → gap m n ≡ gap n m
    turn m n = omega arith

module _ {x y : Float} (F : Factors x y) where
  -- nothing is lost: in squares of units, the rounded product and what it lacks are the product
  pub lack_exact : (worth (mul binary64 x y) +ℤ lack x y) *ℤ pos (2 ^ 1074) ≡ worth x *ℤ worth y
  unfolding worth
  lack_exact =
      ap (λ (r : ℤ). (r +ℤ lack x y) *ℤ pos (2 ^ 1074)) (ap₂ signed (rounded_known F).sign_is (rounded_known F).mag_is)
      ∙ ap (λ (z : ℤ). z *ℤ pos (2 ^ 1074))
      (both (signed (sign_of x y) (rn 53 (product_of x y))) (signed (sign_of x y) (product_of x y)))
      ∙ sym (signed_scale (sign_of x y) (product_of x y) (2 ^ 1074)) ∙ ap (signed (sign_of x y)) (sym (product_units F))
      ∙ sym (signed_product (sign_bit x) (sign_bit y) (mag binary64 x) (mag binary64 y))
    where
      both : (r q : ℤ) → r +ℤ (q -ℤ r) ≡ q
      both = solve 2 (λ r q. (r :+ (q :- r), q)) refl

  pub lack_size : nat_abs (lack x y) ≡ gap (rn 53 (product_of x y)) (product_of x y)
  lack_size = signed_size (sign_of x y) (product_of x y) (rn 53 (product_of x y))

  lack_digits_few : Rep 53 (nat_abs (lack x y))
  lack_digits_few =
      subst (λ (n : ℕ). Rep 53 n) (sym lack_size)
      (lack_digits (significands_of x y) (last_of x y) (product_of x y) (significands_below x y) (significands_units F))

  lack_fits : nat_abs (lack x y) < overflow binary64
  lack_fits =
      lt_of_le_of_lt (le_of_eq lack_size)
      (near (rn 53 (product_of x y)) (product_of x y) (overflow binary64) (rounded_below F)
      (lt_of_lt_of_le (product_below F) (le_of_lt (pow-lt {i = 2097} {j = 2098} (lit≤ tt)))))
    where
      near : (r q b : ℕ) → r < b → q < b → gap r q < b
      near r q b h k = omega arith

  -- so it is a double
  pub roundoff_real : Real binary64 (double_of (lack x y))
  roundoff_real = double_of_real (lack x y) lack_digits_few lack_fits

  pub roundoff_worth : worth (double_of (lack x y)) ≡ lack x y
  roundoff_worth = worth_double_of (lack x y) lack_digits_few lack_fits
