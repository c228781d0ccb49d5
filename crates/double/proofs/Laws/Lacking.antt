-- What a rounded product lacks, in whole numbers. Two significands make N, which is below 2 ^ 106, and N * 2 ^ l squares of units are Q
-- units; Q rounded to 53 digits is R, with a significand and an exponent of its own. In order: what R is off has at most 53 digits; where
-- R is not off at all; elsewhere R's last digit stands c digits above N's, and N less R's significand there is below 2 ^ 53.
-- Assumes nothing.
use mathlib.Core.Path.{◌≡◌, sym, ap, ap₂, ◌∙◌, subst}
use mathlib.Core.Logic.{inl, inr}
use Prim.Native.Nat.{ℕ, ◌+◌, ◌-◌, ◌*◌, ◌^◌, ◌≤◌, ◌<◌, ◌∣◌}
use native.Mathlib.Nat.{le_trans, le_of_eq, le_of_lt, lt_of_le_of_lt, le_of_mul-le-mul_right, lt_of_mul-lt-mul_right}
use native.Mathlib.Nat.{lt_irrefl, zero-lt-suc, add_comm, mul_assoc, mul_right_comm, mul-le-mul_right}
use native.Mathlib.Nat.{mul-one, eq_of_mul-eq-mul_right, dvd-add, dvd-sub, dvd-mul_left}
use native.Mathlib.Omega.{arith}
use lib.Pow.{pow-add, pow_pos, pow_mono}
use lib.Ieee.{size}
use Rattle.whole.proofs.Laws.Order.{lt_or_le}
use Rattle.double.specs.Apart.{exponent_of, significand_of}
use Rattle.double.proofs.Laws.Digits.{Rep, gap, gap_mul, size_gt, rep_of, rep_small, rep_pow, rep_scale}
use Rattle.double.proofs.Laws.Rounding.{rn, rn_kept, rn_dvd, rn_rep, rn_ge, rn_error, rn_scaled, rep_unscale}
use Rattle.double.proofs.Laws.Apart.{significand_below, significand_exact, exponent_least}

digits : 0 < 53
digits = zero-lt-suc 52

module _ (N l Q : ℕ) (below : N < 2 ^ 106) (same : N * 2 ^ l ≡ Q * 2 ^ 1074) where
  -- what the rounding is off, in N's last places, is below 2 ^ 53
  off_below : (r : ℕ) → r * 2 ^ l ≡ rn 53 Q * 2 ^ 1074 → gap r N < 2 ^ 53
  off_below r e =
      lt_of_mul-lt-mul_right (2 ^ 53)
      (lt_of_le_of_lt (le_of_mul-le-mul_right
      (le_trans (le_of_eq
      (mul_right_comm (gap r N) (2 ^ 53) (2 ^ l)
      ∙ ap (λ (z : ℕ). z * 2 ^ 53) (gap_mul r N (2 ^ l) ∙ ap₂ gap e same ∙ sym (gap_mul (rn 53 Q) Q (2 ^ 1074)))
      ∙ mul_right_comm (gap (rn 53 Q) Q) (2 ^ 1074) (2 ^ 53)))
      (le_trans (mul-le-mul_right (2 ^ 1074) (rn_error 53 Q digits)) (le_of_eq (sym same)))) (pow_pos l)) below)

  -- and has at most 53 digits
  pub lack_digits : Rep 53 (gap (rn 53 Q) Q)
  lack_digits =
      let scaled : gap (rn 53 Q) Q * 2 ^ 1074 ≡ gap (rn 53 (N * 2 ^ l)) (N * 2 ^ l) =
      gap_mul (rn 53 Q) Q (2 ^ 1074) ∙ ap₂ gap (sym (rn_scaled 53 Q 1074 digits) ∙ ap (rn 53) (sym same)) (sym same) in
      let grain : 2 ^ l ∣ gap (rn 53 (N * 2 ^ l)) (N * 2 ^ l) =
      dvd-add (2 ^ l) (dvd-sub (2 ^ l) (rn_dvd 53 l own) own) (dvd-sub (2 ^ l) own (rn_dvd 53 l own)) in
      rep_unscale 53 (gap (rn 53 Q) Q) 1074 digits
      (subst (λ (z : ℕ). Rep 53 z) (sym scaled) (rep_of 53 l (gap (rn 53 (N * 2 ^ l)) (N * 2 ^ l)) digits grain few))
    where
      own : 2 ^ l ∣ N * 2 ^ l
      own = dvd-mul_left (2 ^ l) N

      few : gap (rn 53 (N * 2 ^ l)) (N * 2 ^ l) ≤ 2 ^ (53 + l)
      few =
          le_of_mul-le-mul_right
          (le_trans (rn_error 53 (N * 2 ^ l) digits) (le_trans (mul-le-mul_right (2 ^ l) (le_of_lt below))
          (le_of_eq (mul_right_comm (2 ^ 53) (2 ^ 53) (2 ^ l) ∙ ap (λ (z : ℕ). z * 2 ^ 53) (sym (pow-add 2 53 l)))))) (pow_pos 53)

  -- ---- where the rounded product is the product
  -- its last place is one unit
  pub none_below : exponent_of (rn 53 Q) ≡ 0 → rn 53 Q ≡ Q
  none_below e = elim (lt_or_le (2 ^ 53) Q) [
    | inr h ↦ rn_kept 53 (rep_small 53 Q digits h)
    | inl h ↦
        absurd (lt_irrefl (2 ^ 53) (lt_of_le_of_lt (rn_ge 53 Q (2 ^ 53) digits (rep_pow 53 53 digits) (le_of_lt h))
        (lt_of_le_of_lt (le_of_eq (sym (significand_exact (rn 53 Q) (rn_rep 53 Q digits)) ∙ ap (λ (k : ℕ). significand_of (rn 53 Q) * 2 ^ k) e
        ∙ mul-one (significand_of (rn 53 Q)))) (significand_below (rn 53 Q)))))
  ]

  -- its last place is not above N's
  pub none_above : exponent_of (rn 53 Q) + 1074 ≤ l → rn 53 Q ≡ Q
  unfolding exponent_of
  none_above h = elim (lt_or_le (2 ^ 53) N) [
    | inr k ↦ rn_kept 53 (subst (λ (z : ℕ). Rep 53 z) (sym whole) (rep_scale 53 N (l - 1074) digits (rep_small 53 N digits k)))
    | inl k ↦
        absurd (past (size (rn 53 Q)) (size_gt (rn 53 Q) (53 + (l - 1074))
        (rn_ge 53 Q (2 ^ (53 + (l - 1074))) digits (rep_pow 53 (53 + (l - 1074)) digits)
        (le_trans (le_of_eq (pow-add 2 53 (l - 1074))) (le_trans (mul-le-mul_right (2 ^ (l - 1074)) (le_of_lt k)) (le_of_eq (sym whole)))))) h)
  ]
    where
      split : (e : ℕ) → e + 1074 ≤ l → l ≡ l - 1074 + 1074
      split e h = omega arith

      whole : Q ≡ N * 2 ^ (l - 1074)
      whole =
          eq_of_mul-eq-mul_right (2 ^ 1074) (pow_pos 1074) Q (N * 2 ^ (l - 1074))
          (sym same ∙ ap (λ (z : ℕ). N * 2 ^ z) (split (exponent_of (rn 53 Q)) h) ∙ ap (λ (z : ℕ). N * z) (pow-add 2 (l - 1074) 1074)
          ∙ sym (mul_assoc N (2 ^ (l - 1074)) (2 ^ 1074)))

      past : (z : ℕ) → 53 + (l - 1074) < z → z - 53 + 1074 ≤ l → ⊥
      past z a b = omega arith

  -- ---- elsewhere its last digit stands c digits above N's
  module _ (c : ℕ) (high : exponent_of (rn 53 Q) + 1074 ≡ l + c) where
    -- R's significand at N's last place
    abbrev S : ℕ
    S = significand_of (rn 53 Q) * 2 ^ c

    level : S * 2 ^ l ≡ rn 53 Q * 2 ^ 1074
    level =
        mul_assoc (significand_of (rn 53 Q)) (2 ^ c) (2 ^ l)
        ∙ ap (λ (z : ℕ). significand_of (rn 53 Q) * z)
        (sym (pow-add 2 c l) ∙ ap (λ (z : ℕ). 2 ^ z) (add_comm c l ∙ sym high) ∙ pow-add 2 (exponent_of (rn 53 Q)) 1074)
        ∙ sym (mul_assoc (significand_of (rn 53 Q)) (2 ^ exponent_of (rn 53 Q)) (2 ^ 1074))
        ∙ ap (λ (z : ℕ). z * 2 ^ 1074) (significand_exact (rn 53 Q) (rn_rep 53 Q digits))

    pub lack_below : gap S N < 2 ^ 53
    lack_below = off_below S level

    -- both are units, times 2 ^ c and over 2 ^ the exponent
    pub product_there : Q * 2 ^ c ≡ N * 2 ^ exponent_of (rn 53 Q)
    product_there =
        eq_of_mul-eq-mul_right (2 ^ 1074) (pow_pos 1074) (Q * 2 ^ c) (N * 2 ^ exponent_of (rn 53 Q))
        (mul_right_comm Q (2 ^ c) (2 ^ 1074) ∙ ap (λ (z : ℕ). z * 2 ^ c) (sym same) ∙ mul_assoc N (2 ^ l) (2 ^ c)
        ∙ ap (λ (z : ℕ). N * z) (sym (pow-add 2 l c) ∙ ap (λ (z : ℕ). 2 ^ z) (sym high) ∙ pow-add 2 (exponent_of (rn 53 Q)) 1074)
        ∙ sym (mul_assoc N (2 ^ exponent_of (rn 53 Q)) (2 ^ 1074)))

    pub rounded_there : rn 53 Q * 2 ^ c ≡ S * 2 ^ exponent_of (rn 53 Q)
    rounded_there =
        ap (λ (z : ℕ). z * 2 ^ c) (sym (significand_exact (rn 53 Q) (rn_rep 53 Q digits)))
        ∙ mul_right_comm (significand_of (rn 53 Q)) (2 ^ exponent_of (rn 53 Q)) (2 ^ c)

    -- no more than 54 digits are cut off, unless the last place is one unit
    pub cut_most : (exponent_of (rn 53 Q) ≡ 0 → ⊥) → c ≤ 54
    cut_most u = elim (exponent_least (rn 53 Q)) [
      | inl e ↦ absurd (u e)
      | inr full ↦ elim (lt_or_le 54 c) [
        | inr h ↦ h
        | inl h ↦
            absurd (wide S N
            (le_trans (pow_mono {i = 107} {j = 52 + c} (omega arith)) (le_trans (le_of_eq (pow-add 2 52 c)) (mul-le-mul_right (2 ^ c) full)))
            lack_below below)
      ]
    ]
      where
        wide : (r n : ℕ) → 2 ^ 107 ≤ r → gap r n < 2 ^ 53 → n < 2 ^ 106 → ⊥
        wide r n a b d = omega arith
