-- Whole numbers that are odd, odd or 0, and from -1 to 1. In order: how far a number is from 0, by its parts; from -1 to 1 is odd or 0; the negative
-- of what is odd or 0; two odd numbers do not add up to an odd one. Assumes nothing.
use mathlib.Core.Path.{◌≡◌, refl, sym, ap, ◌∙◌}
use mathlib.Core.Logic.{inl, inr, ⊎_map}
use Prim.Native.Nat.{ℕ, zero, suc, ◌+◌, ◌%◌}
use native.Mathlib.Omega.{arith}
use lib.IntN.{ℤ, pos, negsuc, neg_ℤ, nat_abs, ◌+ℤ◌}
use Rattle.whole.proofs.Laws.Parts.{up, dn, add_parts, nat_abs_neg, ≤_parts}
use Rattle.ground.specs.Parity.{Odd, Agreed, Small}

pub distance : (z : ℤ) → nat_abs z ≡ up z + dn z
unfolding up dn
distance (pos n) = omega arith
distance (negsuc n) = omega arith

-- ---- from -1 to 1
pub small_agreed : (z : ℤ) → Small z → Agreed z
unfolding up dn
small_agreed (pos zero) s = inr refl
small_agreed (pos (suc zero)) s = inl refl
small_agreed (pos (suc (suc n))) s = let w : ⊥ = omega (arith, (≤_parts (pos (suc (suc n))) (pos 1)).0 s.1) in absurd w
small_agreed (negsuc zero) s = inl refl
small_agreed (negsuc (suc n)) s = let w : ⊥ = omega (arith, (≤_parts (negsuc 0) (negsuc (suc n))).0 s.0) in absurd w

-- ---- the negative
pub agreed_turned : (z : ℤ) → Agreed z → Agreed (neg_ℤ z)
agreed_turned z = ⊎_map (λ o. ap (λ (n : ℕ). n % 2) (nat_abs_neg z) ∙ o) (λ e. ap neg_ℤ e)

-- ---- a sum
pub odd_sum : (y z : ℤ) → Odd y → Odd z → Odd (y +ℤ z) → ⊥
odd_sum y z h k o =
    even (up y) (dn y) (up z) (dn z) (up (y +ℤ z)) (dn (y +ℤ z)) (add_parts y z)
    (ap rest (sym (distance y)) ∙ h) (ap rest (sym (distance z)) ∙ k) (ap rest (sym (distance (y +ℤ z))) ∙ o)
  where
    rest : ℕ → ℕ
    rest n = n % 2

    even : (a b c d e f : ℕ) → e + (b + d) ≡ f + (a + c) → (a + b) % 2 ≡ 1 → (c + d) % 2 ≡ 1 → (e + f) % 2 ≡ 1 → ⊥
    even a b c d e f i h k o = omega arith
