-- What a rounded product lacks, from the significands and exponents of two factors and of the rounded product. In order: where it lacks
-- nothing; elsewhere its last place stands c digits above that of the product of the significands, and their difference there tells what is
-- lacking, with the sign turned where the rounded product is negative. Not here: that this is a double (`ExactProduct`). Assumes nothing.
use mathlib.Core.Path.{◌≡◌, refl, sym, ap, ap₂, ◌∙◌, subst}
use mathlib.Core.Bool.{Bool, true, false, cond}
use Prim.Native.Nat.{ℕ, zero, suc, ◌+◌, ◌*◌, ◌^◌, ◌≤◌, ◌<◌}
use native.Mathlib.Nat.{zero-lt-suc, one-mul}
use lib.Dec.{T, ltb, lt→ltb}
use lib.IntN.{ℤ, pos, neg_ℤ, ◌-ℤ◌, ◌*ℤ◌}
use lib.Ieee.{Float, binary64, mul, lt, size}
use Rattle.whole.proofs.Laws.Ring.{num, ◌:-◌, ◌:*◌, opp, solve}
use Rattle.double.specs.Worth.{sign_bit, mag}
use Rattle.double.specs.Apart.{exponent_of, significand_of}
use Rattle.double.proofs.Laws.Digits.{gap}
use Rattle.double.proofs.Laws.Rounding.{rn}
use Rattle.double.proofs.Laws.Worth.{signed}
use Rattle.double.proofs.Laws.Zero.{plus_zero, lt_negative}
use Rattle.double.proofs.Laws.Lacking.{none_below, none_above, lack_below, product_there, rounded_there, cut_most}
use Rattle.double.proofs.Laws.ExactProduct.{Factors, sign_of, product_of, significands_of, last_of, significands_below, significands_units}
use Rattle.double.proofs.Laws.ExactProduct.{rounded_known, signed_scale, lack}

-- nothing is lacking where the rounded product is the product
signed_none : (s : Bool) (m n : ℕ) → n ≡ m → signed s m -ℤ signed s n ≡ pos 0
signed_none s m n e = ap (λ (k : ℕ). signed s m -ℤ signed s k) e ∙ gone (signed s m)
  where
    gone : (z : ℤ) → z -ℤ z ≡ pos 0
    gone = solve 1 (λ z. (z :- z, num 0)) refl

-- two pairs of numbers, the same but for a scale, and so their differences
scaled_difference : (s : Bool) (q r n m c e : ℕ) → q * c ≡ n * e → r * c ≡ m * e
    → (signed s q -ℤ signed s r) *ℤ pos c ≡ signed s 1 *ℤ (pos n -ℤ pos m) *ℤ pos e
scaled_difference s q r n m c e h k =
    ap₂ (λ (v w : ℤ). (v -ℤ w) *ℤ pos c) (one s q) (one s r)
    ∙ spread (signed s 1) (pos q) (pos r) (pos c) ∙ ap₂ (λ (v w : ℕ). signed s 1 *ℤ (pos v -ℤ pos w)) h k
    ∙ gather (signed s 1) (pos n) (pos m) (pos e)
  where
    one : (s : Bool) (n : ℕ) → signed s n ≡ signed s 1 *ℤ pos n
    one s n = ap (signed s) (sym (one-mul n)) ∙ signed_scale s 1 n

    spread : (s q r c : ℤ) → (s *ℤ q -ℤ s *ℤ r) *ℤ c ≡ s *ℤ (q *ℤ c -ℤ r *ℤ c)
    spread = solve 4 (λ s q r c. ((s :* q :- s :* r) :* c, s :* (q :* c :- r :* c))) refl

    gather : (s n m e : ℤ) → s *ℤ (n *ℤ e -ℤ m *ℤ e) ≡ s *ℤ (n -ℤ m) *ℤ e
    gather = solve 4 (λ s n m e. (s :* (n :* e :- m :* e), s :* (n :- m) :* e)) refl

-- the rounded product's significand and exponent
abbrev pub rounded_exponent : Float → Float → ℕ
rounded_exponent x y = exponent_of (mag binary64 (mul binary64 x y))

abbrev pub rounded_significand : Float → Float → ℕ
rounded_significand x y = significand_of (mag binary64 (mul binary64 x y))

module _ {x y : Float} (F : Factors x y) where
  rounded : mag binary64 (mul binary64 x y) ≡ rn 53 (product_of x y)
  rounded = (rounded_known F).mag_is

  -- its last place is one unit, and the product is a whole number of units
  pub lack_none_below : rounded_exponent x y ≡ 0 → lack x y ≡ pos 0
  lack_none_below e =
      signed_none (sign_of x y) (product_of x y) (rn 53 (product_of x y))
      (none_below (significands_of x y) (last_of x y) (product_of x y) (significands_below x y) (significands_units F)
      (ap exponent_of (sym rounded) ∙ e))

  -- its last place is not above that of the product of the significands
  pub lack_none_above : rounded_exponent x y + 1074 ≤ last_of x y → lack x y ≡ pos 0
  lack_none_above h =
      signed_none (sign_of x y) (product_of x y) (rn 53 (product_of x y))
      (none_above (significands_of x y) (last_of x y) (product_of x y) (significands_below x y) (significands_units F)
      (subst (λ (n : ℕ). exponent_of n + 1074 ≤ last_of x y) rounded h))

  -- ---- c digits above it
  module _ (c : ℕ) (high : rounded_exponent x y + 1074 ≡ last_of x y + c) where
    -- the product of the significands, and the rounded product's there
    abbrev N : ℕ
    N = significands_of x y

    abbrev R : ℕ
    R = rounded_significand x y * 2 ^ c

    high_rounded : exponent_of (rn 53 (product_of x y)) + 1074 ≡ last_of x y + c
    high_rounded = ap (λ (n : ℕ). exponent_of n + 1074) (sym rounded) ∙ high

    pub difference_below : gap R N < 2 ^ 53
    difference_below =
        subst (λ (n : ℕ). gap (significand_of n * 2 ^ c) N < 2 ^ 53) (sym rounded)
        (lack_below N (last_of x y) (product_of x y) (significands_below x y) (significands_units F) c high_rounded)

    pub cut_few : (rounded_exponent x y ≡ 0 → ⊥) → c ≤ 54
    cut_few u =
        cut_most N (last_of x y) (product_of x y) (significands_below x y) (significands_units F) c high_rounded
        (λ e. u (ap exponent_of rounded ∙ e))

    there : lack x y *ℤ pos (2 ^ c) ≡ signed (sign_of x y) 1 *ℤ (pos N -ℤ pos R) *ℤ pos (2 ^ rounded_exponent x y)
    there =
        scaled_difference (sign_of x y) (product_of x y) (rn 53 (product_of x y)) N R (2 ^ c) (2 ^ rounded_exponent x y)
        (subst (λ (n : ℕ). product_of x y * 2 ^ c ≡ N * 2 ^ exponent_of n) (sym rounded)
        (product_there N (last_of x y) (product_of x y) (significands_below x y) (significands_units F) c high_rounded))
        (subst (λ (n : ℕ). rn 53 (product_of x y) * 2 ^ c ≡ significand_of n * 2 ^ c * 2 ^ exponent_of n) (sym rounded)
        (rounded_there N (last_of x y) (product_of x y) (significands_below x y) (significands_units F) c high_rounded))

    -- a rounded product below 0 lacks as much the other way
    pub lack_negative : lt (mul binary64 x y) plus_zero ≡ true
        → lack x y *ℤ pos (2 ^ c) ≡ neg_ℤ (pos N -ℤ pos R) *ℤ pos (2 ^ rounded_exponent x y)
    lack_negative h =
        there
        ∙ ap (λ (s : Bool). signed s 1 *ℤ (pos N -ℤ pos R) *ℤ pos (2 ^ rounded_exponent x y))
        (sym (rounded_known F).sign_is ∙ below_zero (sign_bit (mul binary64 x y)) (mag binary64 (mul binary64 x y))
        (sym (lt_negative binary64 (mul binary64 x y) (rounded_known F).real) ∙ h))
        ∙ turned (pos N -ℤ pos R) (pos (2 ^ rounded_exponent x y))
      where
        below_zero : (s : Bool) (n : ℕ) → ltb 0 (cond s n 0) ≡ true → s ≡ true
        below_zero true n e = refl
        below_zero false n e = e

        turned : (d e : ℤ) → neg_ℤ (pos 1) *ℤ d *ℤ e ≡ neg_ℤ d *ℤ e
        turned = solve 2 (λ d e. (opp (num 1) :* d :* e, opp d :* e)) refl

    pub lack_positive : (rounded_exponent x y ≡ 0 → ⊥) → lt (mul binary64 x y) plus_zero ≡ false
        → lack x y *ℤ pos (2 ^ c) ≡ (pos N -ℤ pos R) *ℤ pos (2 ^ rounded_exponent x y)
    unfolding exponent_of size
    lack_positive u h =
        there
        ∙ ap (λ (s : Bool). signed s 1 *ℤ (pos N -ℤ pos R) *ℤ pos (2 ^ rounded_exponent x y))
        (sym (rounded_known F).sign_is ∙ above_zero (sign_bit (mul binary64 x y)) (mag binary64 (mul binary64 x y)) u
        (sym (lt_negative binary64 (mul binary64 x y) (rounded_known F).real) ∙ h))
        ∙ once (pos N -ℤ pos R) (pos (2 ^ rounded_exponent x y))
      where
        above_zero : (s : Bool) (n : ℕ) → (exponent_of n ≡ 0 → ⊥) → ltb 0 (cond s n 0) ≡ false → s ≡ false
        above_zero false n u e = refl
        above_zero true zero u e = absurd (u refl)
        above_zero true (suc n) u e = absurd (subst T e (lt→ltb 0 (suc n) (zero-lt-suc n)))

        once : (d e : ℤ) → pos 1 *ℤ d *ℤ e ≡ d *ℤ e
        once = solve 2 (λ d e. (num 1 :* d :* e, d :* e)) refl
