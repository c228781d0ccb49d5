-- Laws of `sgn`.
--
-- In order: when it has each of its three values; of a negation, of a product, of a positive multiple; of a difference, where it says how
-- two numbers compare, whole ones and natural ones.
-- Not here: what the sign of a product says of the order (`Order`).
-- Assumes nothing.
use mathlib.Core.Path.{◌≡◌, refl, sym, ◌∙◌, ap}
use mathlib.Core.List.{[], ◌∷◌}
use mathlib.Core.Logic.Iff
use mathlib.Core.Logic.{◌↔◌}
use Prim.Native.Nat.{ℕ, zero, suc, ◌+◌, ◌*◌, ◌<◌}
use native.Mathlib.Omega.{arith}
use lib.IntN.{ℤ, pos, negsuc, neg_ℤ, ◌-ℤ◌, ◌*ℤ◌, zero-*ℤ, *ℤ-zero}
use lib.Signed.{lt_z_yes}
use Rattle.whole.specs.Order.{◌<ᶻ◌}
use Rattle.whole.specs.Sign.{sgn}
use Rattle.whole.proofs.Laws.Parts.{up, dn, pos-<, pos-≡}
use Rattle.whole.proofs.Laws.Linear.{ints, int_rules}

-- ---- the three values

pub sgn_positive : (z : ℤ) → (sgn z ≡ pos 1) ↔ (pos 0 <ᶻ z)
unfolding sgn up
sgn_positive (pos zero) = ((λ e. omega (arith, ap up e)), (λ h. absurd h.lt))
sgn_positive (pos (suc n)) = ((λ e. (pos-< 0 (suc n)).1 (omega arith)), (λ h. refl))
sgn_positive (negsuc n) = ((λ e. omega (arith, ap up e)), (λ h. absurd h.lt))

pub sgn_zero : (z : ℤ) → (sgn z ≡ pos 0) ↔ (z ≡ pos 0)
unfolding sgn
sgn_zero (pos zero) = ((λ e. refl), (λ e. refl))
sgn_zero (pos (suc n)) = ((λ e. cc), (λ e. cc))
sgn_zero (negsuc n) = ((λ e. cc), (λ e. cc))

pub sgn_negative : (z : ℤ) → (sgn z ≡ negsuc 0) ↔ (z <ᶻ pos 0)
unfolding sgn dn
sgn_negative (pos zero) = ((λ e. omega (arith, ap dn e)), (λ h. absurd h.lt))
sgn_negative (pos (suc n)) =
    ((λ e. (pos-< (suc n) 0).1 (omega (arith, ap dn e))), (λ h. let z : ⊥ = omega (arith, (pos-< (suc n) 0).0 h) in absurd z))
sgn_negative (negsuc n) = ((λ e. lt_z_yes tt), (λ h. refl))

-- signs into orders, for `simp`
pub ruleset sgn_rules = (sgn_positive, sgn_zero, sgn_negative)

-- ---- negations and products

pub sgn_neg : (z : ℤ) → sgn (neg_ℤ z) ≡ neg_ℤ (sgn z)
unfolding sgn
sgn_neg (pos zero) = refl
sgn_neg (pos (suc n)) = refl
sgn_neg (negsuc n) = refl

-- a product of successors is one
suc-* : (m n : ℕ) → suc m * suc n ≡ suc (m * n + m + n)
suc-* m n = omega arith

pub sgn_mul : (a b : ℤ) → sgn (a *ℤ b) ≡ sgn a *ℤ sgn b
unfolding sgn
sgn_mul (pos zero) b = ap sgn (zero-*ℤ b) ∙ sym (zero-*ℤ (sgn b))
sgn_mul (pos (suc m)) (pos zero) = ap sgn (*ℤ-zero (pos (suc m)))
sgn_mul (pos (suc m)) (pos (suc n)) = ap (λ (k : ℕ). sgn (pos k)) (suc-* m n)
sgn_mul (pos (suc m)) (negsuc n) = ap (λ (k : ℕ). sgn (neg_ℤ (pos k))) (suc-* m n)
sgn_mul (negsuc m) (pos zero) = ap sgn (*ℤ-zero (negsuc m))
sgn_mul (negsuc m) (pos (suc n)) = ap (λ (k : ℕ). sgn (neg_ℤ (pos k))) (suc-* m n)
sgn_mul (negsuc m) (negsuc n) = ap (λ (k : ℕ). sgn (pos k)) (suc-* m n)

pub sgn_scale : (c z : ℤ) → pos 0 <ᶻ c → sgn (c *ℤ z) ≡ sgn z
sgn_scale c z h = sgn_mul c z ∙ ap (λ (s : ℤ). s *ℤ sgn z) ((sgn_positive c).1 h) ∙ one_times (sgn z)
  where
    one_times : (s : ℤ) → pos 1 *ℤ s ≡ s
    one_times s = ints (s ∷ []) (λ ρ v n m. simp (int_rules, n, v 0) (omega arith))

-- ---- differences

module _ (a b : ℤ) where
  pub sgn_sub_positive : (sgn (a -ℤ b) ≡ pos 1) ↔ (b <ᶻ a)
  sgn_sub_positive = simp sgn_positive (ints (a ∷ b ∷ []) (λ ρ v n m. simp (int_rules, n, v 0, v 1) (omega arith)))

  pub sgn_sub_zero : (sgn (a -ℤ b) ≡ pos 0) ↔ (a ≡ b)
  sgn_sub_zero = simp sgn_zero (ints (a ∷ b ∷ []) (λ ρ v n m. simp (int_rules, n, v 0, v 1) (omega arith)))

  pub sgn_sub_negative : (sgn (a -ℤ b) ≡ negsuc 0) ↔ (a <ᶻ b)
  sgn_sub_negative = simp sgn_negative (ints (a ∷ b ∷ []) (λ ρ v n m. simp (int_rules, n, v 0, v 1) (omega arith)))

module _ (a b : ℕ) where
  pub sgn_nat_positive : (sgn (pos a -ℤ pos b) ≡ pos 1) ↔ (b < a)
  sgn_nat_positive = Iff.trans (sgn_sub_positive (pos a) (pos b)) (pos-< b a)

  pub sgn_nat_zero : (sgn (pos a -ℤ pos b) ≡ pos 0) ↔ (a ≡ b)
  sgn_nat_zero = Iff.trans (sgn_sub_zero (pos a) (pos b)) (pos-≡ a b)

  pub sgn_nat_negative : (sgn (pos a -ℤ pos b) ≡ negsuc 0) ↔ (a < b)
  sgn_nat_negative = Iff.trans (sgn_sub_negative (pos a) (pos b)) (pos-< a b)
