-- What callers of the exact product cite. In order: the condition from grains and bounds, and for coordinates; how large the roundoff is,
-- and of what it is a multiple. Not here: the exact product itself (`ExactProduct`). Assumes nothing.
use mathlib.Core.Path.{◌≡◌, sym, ap, ◌∙◌, subst}
use Prim.Native.Nat.{ℕ, ◌+◌, ◌-◌, ◌*◌, ◌^◌, ◌≤◌, ◌<◌, ◌∣◌}
use native.Mathlib.Nat.{le_trans, le_of_eq, lt_of_le_of_lt, mul-le-mul, zero-lt-suc, dvd-add, dvd-sub}
use native.Mathlib.Omega.{arith}
use lib.Pow.{pow-add, pow_mono, pow-lt}
use lib.IntN.{nat_abs}
use lib.Ieee.{Float, binary64, mul}
use Rattle.double.specs.Worth.{sign_bit, mag, double_of}
use Rattle.double.proofs.Laws.Digits.{gap}
use Rattle.double.proofs.Laws.Rounding.{rn, rn_dvd, rn_error_of}
use Rattle.double.proofs.Laws.Worth.{worth_nat_abs}
use Rattle.double.proofs.Laws.ExactProduct.{factor_most, product_most, Factors, product_of, rounded_known}
use Rattle.double.proofs.Laws.ExactProduct.{lack, lack_size, roundoff_real, roundoff_worth}
use Rattle.double.proofs.Laws.Sized.{Sized, Reach, sized_of, sided_own, units_grain, mul_sided}

-- ---- the condition
pub factors_of : (g1 b1 g2 b2 : ℕ) {x y : Float} → Sized g1 b1 x → Sized g2 b2 y
    → 1074 ≤ g1 + g2 → b1 ≤ factor_most → b2 ≤ factor_most → b1 + b2 < product_most → Factors x y
factors_of g1 b1 g2 b2 rx ry w h k l = record {
  x_real = rx.real;
  y_real = ry.real;
  i = g1;
  j = g2;
  x_grain = rx.grain;
  y_grain = ry.grain;
  whole = w;
  x_small = le_trans rx.most (pow_mono h);
  y_small = le_trans ry.most (pow_mono k);
  small = lt_of_le_of_lt (mul-le-mul rx.most ry.most) (lt_of_le_of_lt (le_of_eq (sym (pow-add 2 b1 b2))) (pow-lt l));
}

-- of coordinates from 2 ^ -k to 2 ^ k: k may be 400, or 470
pub factors_reach : (k : ℕ) {x y : Float} → k ≤ 485 → Reach k x → Reach k y → Factors x y
factors_reach k h rx ry =
    factors_of (1022 - k) (1074 + k) (1022 - k) (1074 + k) rx ry (omega arith) (omega arith) (omega arith) (omega arith)

-- ---- the roundoff
module _ (g1 b1 g2 b2 g b : ℕ) (x y : Float) (rx : Sized g1 b1 x) (ry : Sized g2 b2 y) (eg : g1 + g2 ≡ g + 1074) (eb : b1 + b2 ≡ b + 1074)
    (room : b < 2098) (F : Factors x y) where
  -- what the rounded product is off
  roundoff_units : mag binary64 (double_of (lack x y)) ≡ gap (rn 53 (product_of x y)) (product_of x y)
  roundoff_units = sym (worth_nat_abs (double_of (lack x y))) ∙ ap nat_abs (roundoff_worth F) ∙ lack_size F

  -- at most one part in 2 ^ 53 of the rounded product
  roundoff_small : mag binary64 (double_of (lack x y)) * 2 ^ 53 ≤ mag binary64 (mul binary64 x y)
  roundoff_small =
      le_trans (le_of_eq (ap (λ (n : ℕ). n * 2 ^ 53) roundoff_units))
      (le_trans (rn_error_of 53 (product_of x y) (zero-lt-suc 52)) (le_of_eq (sym (rounded_known F).mag_is)))

  pub roundoff_sized : Sized g b (double_of (lack x y))
  roundoff_sized =
      let d = units_grain (sign_bit x) (sign_bit y) g1 b1 g2 b2 g x y (mag binary64 x) (mag binary64 y) (sided_own rx) (sided_own ry) eg in
      let u = rn_dvd 53 g d in
      record {
        real = roundoff_real F;
        grain = subst (λ (n : ℕ). 2 ^ g ∣ n) (sym roundoff_units) (dvd-add (2 ^ g) (dvd-sub (2 ^ g) u d) (dvd-sub (2 ^ g) d u));
        most = le_trans (less (mag binary64 (double_of (lack x y))) (mag binary64 (mul binary64 x y)) roundoff_small)
            (sized_of (mul_sided (sign_bit x) (sign_bit y) g1 b1 g2 b2 g x y (mag binary64 x) (mag binary64 y) (sided_own rx) (sided_own ry) eg
            b eb room)).most;
      }
    where
      less : (e r : ℕ) → e * 2 ^ 53 ≤ r → e ≤ r
      less e r h = omega arith
