-- The exact product of two doubles, and of two coordinates. In order: a quotient without remainder; the promised roundoff is the double of
-- what is lacking, and the promise; the pair of two doubles of known grain and size: how large, what its total is, and what it is with a
-- factor negated; the same for two coordinates.
-- Not here: what is lacking (double's `ExactProduct`); lists of pairs (`Summands`, `Opened`). Assumes nothing.
use mathlib.Core.Path.{◌≡◌, refl, sym, ap, ◌∙◌, subst}
use Prim.Native.Nat.{ℕ, zero, suc, ◌+◌, ◌-◌, ◌*◌, ◌/◌, ◌^◌, ◌≤◌, ◌<◌}
use native.Mathlib.Nat.{lt_irrefl, zero-lt-suc, mul-pos, mul-div_cancel}
use native.Mathlib.Omega.{arith}
use lib.IntN.{ℤ, pos, negsuc, neg_ℤ, ◌+ℤ◌, ◌-ℤ◌, ◌*ℤ◌}
use lib.Signed.{quot_z}
use lib.Pow.{pow_pos}
use lib.Ieee.{Float, binary64, of_bits, sub, mul, neg}
use Rattle.whole.proofs.Laws.Ring.{◌:+◌, ◌:-◌, ◌:*◌, opp, solve}
use Rattle.double.specs.Worth.{sign_bit, mag, worth, double_of}
use Rattle.double.proofs.Laws.Worth.{double_of_zero}
use Rattle.double.proofs.Laws.Zero.{plus_zero}
use Rattle.double.proofs.Laws.ExactProduct.{factor_most, Factors, lack, lack_exact, roundoff_worth}
use Rattle.double.proofs.Laws.Sized.{Sized, Reach, sized_of, sided_own, mul_sided}
use Rattle.double.proofs.Laws.Roundoff.{factors_of, roundoff_sized}
use Rattle.double.proofs.Laws.Negated.{worth_neg, mul_neg, zero_less}
use Rattle.point.specs.Spot.{unit}
use Rattle.geometry.specs.Product.{roundoff_of}
use Rattle.geometry.specs.Parts.{ExactProduct}

-- ---- a quotient without remainder
quot_negative : (a n : ℕ) → 0 < a → quot_z (neg_ℤ (pos a)) (pos n) ≡ neg_ℤ (pos (a / n))
quot_negative zero n h = absurd (lt_irrefl 0 h)
quot_negative (suc a) n h = refl

quot_multiple : (w : ℤ) (n : ℕ) → 0 < n → quot_z (w *ℤ pos n) (pos n) ≡ w
quot_multiple (pos m) n h = ap pos (mul-div_cancel m h)
quot_multiple (negsuc m) n h =
    quot_negative (suc m * n) n (mul-pos (zero-lt-suc m) h) ∙ ap (λ (k : ℕ). neg_ℤ (pos k)) (mul-div_cancel (suc m) h)

-- what (r + e) n is, divided by n, more than r
quot_rest : (r e z : ℤ) (n : ℕ) → 0 < n → (r +ℤ e) *ℤ pos n ≡ z → quot_z z (pos n) -ℤ r ≡ e
quot_rest r e z n h p =
    ap (λ (w : ℤ). quot_z w (pos n) -ℤ r) (sym p) ∙ ap (λ (w : ℤ). w -ℤ r) (quot_multiple (r +ℤ e) n h) ∙ rest r e
  where
    rest : (r e : ℤ) → r +ℤ e -ℤ r ≡ e
    rest = solve 2 (λ r e. (r :+ e :- r, e)) refl

-- ---- the roundoff
-- the code's constant, by its pattern
pub zero_pattern : of_bits binary64 0 ≡ plus_zero
unfolding of_bits
zero_pattern = refl

module _ {x y : Float} (F : Factors x y) where
  pub roundoff_is : roundoff_of x y ≡ double_of (lack x y)
  unfolding roundoff_of
  roundoff_is =
      ap double_of (quot_rest (worth (mul binary64 x y)) (lack x y) (worth x *ℤ worth y) (2 ^ 1074) (pow_pos 1074) (lack_exact F))

  pub roundoff_none : lack x y ≡ pos 0 → of_bits binary64 0 ≡ roundoff_of x y
  roundoff_none e = zero_pattern ∙ sym double_of_zero ∙ ap double_of (sym e) ∙ sym roundoff_is

  roundoff_exact : (worth (mul binary64 x y) +ℤ worth (roundoff_of x y)) *ℤ unit ≡ worth x *ℤ worth y
  roundoff_exact =
      ap (λ (e : ℤ). (worth (mul binary64 x y) +ℤ e) *ℤ unit) (ap worth roundoff_is ∙ roundoff_worth F) ∙ lack_exact F

  -- what the code returns is what it promises
  pub product_promised : {e : Float} → e ≡ roundoff_of x y → ExactProduct x y (record { rounded = mul binary64 x y; roundoff = e })
  product_promised e = record { rounded = refl; roundoff = e; exact = roundoff_exact }

-- ---- the pair of two doubles of known grain and size: each a multiple of 2 ^ g and at most 2 ^ b units, and in squares of units the product
pub record Paired (g b : ℕ) (x y : Float) : Type 0 where
  pub rounded : Sized g b (mul binary64 x y)
  pub rest : Sized g b (roundoff_of x y)
  pub exact : (worth (mul binary64 x y) +ℤ worth (roundoff_of x y)) *ℤ unit ≡ worth x *ℤ worth y

-- grains and sizes of two factors, and of their pair
pub record Meets (g1 b1 g2 b2 g b : ℕ) : Type 0 where
  pub grains : g1 + g2 ≡ g + 1074
  pub mosts : b1 + b2 ≡ b + 1074
  pub first : b1 ≤ factor_most
  pub second : b2 ≤ factor_most
  pub below : b < 2097

module _ {g1 b1 g2 b2 g b : ℕ} (m : Meets g1 b1 g2 b2 g b) (x y : Float) (X : Sized g1 b1 x) (Y : Sized g2 b2 y) where
  pub sized_factors : Factors x y
  sized_factors =
      factors_of g1 b1 g2 b2 X Y (omega (arith, m.grains)) m.first m.second (omega (arith, m.mosts, m.below))

  room : b < 2098
  room = omega (arith, m.below)

  pub sized_paired : Paired g b x y
  sized_paired = record {
    rounded = sized_of (mul_sided (sign_bit x) (sign_bit y) g1 b1 g2 b2 g x y (mag binary64 x) (mag binary64 y) (sided_own X) (sided_own Y)
        m.grains b m.mosts room);
    rest = subst (λ (e : Float). Sized g b e) (sym (roundoff_is sized_factors))
        (roundoff_sized g1 b1 g2 b2 g b x y X Y m.grains m.mosts room sized_factors);
    exact = roundoff_exact sized_factors;
  }

  -- with x negated, 0.0 less the roundoff: +0 where that is nothing
  pub roundoff_neg : roundoff_of (neg x) y ≡ sub binary64 plus_zero (roundoff_of x y)
  unfolding roundoff_of
  roundoff_neg =
      let r : ℤ = worth (mul binary64 x y) in
      let e : ℤ = worth (roundoff_of x y) in
      let turned : (worth (mul binary64 (neg x) y) +ℤ neg_ℤ e) *ℤ unit ≡ worth (neg x) *ℤ worth y =
      ap (λ (z : ℤ). (z +ℤ neg_ℤ e) *ℤ unit) (ap worth (mul_neg binary64 x y) ∙ worth_neg (mul binary64 x y) sized_paired.rounded.real)
      ∙ both r e unit ∙ ap neg_ℤ sized_paired.exact ∙ first (worth x) (worth y)
      ∙ ap (λ (z : ℤ). z *ℤ worth y) (sym (worth_neg x X.real)) in
      ap double_of (quot_rest (worth (mul binary64 (neg x) y)) (neg_ℤ e) (worth (neg x) *ℤ worth y) (2 ^ 1074) (pow_pos 1074) turned)
      ∙ zero_less (roundoff_of x y) sized_paired.rest.real
    where
      both : (r e u : ℤ) → (neg_ℤ r +ℤ neg_ℤ e) *ℤ u ≡ neg_ℤ ((r +ℤ e) *ℤ u)
      both = solve 3 (λ r e u. ((opp r :+ opp e) :* u, opp ((r :+ e) :* u))) refl

      first : (x y : ℤ) → neg_ℤ (x *ℤ y) ≡ neg_ℤ x *ℤ y
      first = solve 2 (λ x y. (opp (x :* y), opp x :* y)) refl

-- ---- the pair of two coordinates of the reach k
abbrev pub pair_grain : ℕ → ℕ
pair_grain k = 970 - (k + k)

abbrev pub pair_most : ℕ → ℕ
pair_most k = 1074 + (k + k)

pub reach_meets : (k : ℕ) → k ≤ 485 → Meets (1022 - k) (1074 + k) (1022 - k) (1074 + k) (pair_grain k) (pair_most k)
reach_meets k h = record {
  grains = omega arith;
  mosts = omega arith;
  first = omega arith;
  second = omega arith;
  below = omega arith;
}

pub reach_paired : (k : ℕ) (h : k ≤ 485) (x y : Float) → Reach k x → Reach k y → Paired (pair_grain k) (pair_most k) x y
reach_paired k h x y X Y = sized_paired (reach_meets k h) x y X Y
