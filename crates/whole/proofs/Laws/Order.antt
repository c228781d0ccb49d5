-- The order of whole numbers, where it turns on a choice or on a product.
--
-- In order: one of two numbers is less, or the other is at most it, of naturals too; less, equal or greater; products of positive numbers, and of
-- numbers not below 0; a positive factor on both sides, which can be left out.
-- Not here: chains of orders, sums, numerals as factors (`ints` of `Linear`).
-- Assumes nothing.
use mathlib.Core.Path.{◌≡◌, ◌∙◌, sym}
use mathlib.Core.List.{[], ◌∷◌}
use mathlib.Core.Logic.{◌⊎◌, inl, inr}
use Prim.Native.Nat.{ℕ, ◌+◌, ◌-◌, ◌*◌, ◌≤◌, ◌<◌}
use native.Mathlib.Nat.{eq-zero-or-pos}
use native.Mathlib.Decide.{dec_lt}
use native.Mathlib.Omega.{arith}
use lib.IntN.{ℤ, pos, negsuc, ◌-ℤ◌, ◌*ℤ◌}
use Rattle.whole.specs.Order.{◌≤ᶻ◌, ◌<ᶻ◌}
use Rattle.whole.proofs.Laws.Parts.{up, dn, ≤_parts, <_parts, pos-≤}
use Rattle.whole.proofs.Laws.Linear.{ints, int_rules}
use Rattle.whole.proofs.Laws.Sign.{sgn_positive, sgn_scale, sgn_zero, sgn_sub_zero}

-- ---- the order is total

pub <-or-≤ : (a b : ℤ) → (a <ᶻ b) ⊎ (b ≤ᶻ a)
<-or-≤ a b = split (dec_lt (up a + dn b) (up b + dn a))
  where
    split : Dec (up a + dn b < up b + dn a) → (a <ᶻ b) ⊎ (b ≤ᶻ a)
    split (yes h) = inl ((<_parts a b).1 h)
    split (no h) = inr ((≤_parts b a).1 (omega arith))

-- of naturals too
pub lt_or_le : (m n : ℕ) → (m < n) ⊎ (n ≤ m)
lt_or_le m n = elim (eq-zero-or-pos (n - m)) [ inl e ↦ inr (omega arith) | inr h ↦ inl (omega arith) ]

-- less, equal or greater
pub data Compared (a b : ℤ) : Type 0 where
  less : a <ᶻ b → Compared a b
  equal : a ≡ b → Compared a b
  more : b <ᶻ a → Compared a b

pub compared : (a b : ℤ) → Compared a b
compared a b = elim (<-or-≤ a b) [
  | inl h ↦ less h
  | inr h ↦ elim (<-or-≤ b a) [ inl k ↦ more k | inr k ↦ equal (both h k) ]
]
  where
    both : b ≤ᶻ a → a ≤ᶻ b → a ≡ b
    both = ints (a ∷ b ∷ []) (λ ρ v n m. simp (int_rules, v 0, v 1) (omega arith))

-- ---- products

pub mul_positive : (a b : ℤ) → pos 0 <ᶻ a → pos 0 <ᶻ b → pos 0 <ᶻ a *ℤ b
mul_positive a b h k = (sgn_positive (a *ℤ b)).0 (sgn_scale a b h ∙ (sgn_positive b).1 k)

pub mul_nonneg : (a b : ℤ) → pos 0 ≤ᶻ a → pos 0 ≤ᶻ b → pos 0 ≤ᶻ a *ℤ b
mul_nonneg (pos m) (pos n) h k = (pos-≤ 0 (m * n)).1 (omega arith)
mul_nonneg (pos m) (negsuc n) h k = absurd k.le
mul_nonneg (negsuc m) b h k = absurd h.le

-- ---- a positive factor on both sides

module _ (c a b : ℤ) (h : pos 0 <ᶻ c) where
  pub cancel-≡ : c *ℤ a ≡ c *ℤ b → a ≡ b
  cancel-≡ e = (sgn_sub_zero a b).0 (sym (sgn_scale c (a -ℤ b) h) ∙ (sgn_zero (c *ℤ (a -ℤ b))).1 (gone e))
    where
      gone : c *ℤ a ≡ c *ℤ b → c *ℤ (a -ℤ b) ≡ pos 0
      gone = ints (c ∷ a ∷ b ∷ []) (λ ρ v n m. simp (int_rules, n, v 0, v 1, v 2) (omega arith))

  pub cancel-≤ : c *ℤ a ≤ᶻ c *ℤ b → a ≤ᶻ b
  cancel-≤ l = elim (<-or-≤ b a) [ inl k ↦ absurd (no_way (mul_positive c (a -ℤ b) h (apart k)) l) | inr k ↦ k ]
    where
      apart : b <ᶻ a → pos 0 <ᶻ a -ℤ b
      apart = ints (a ∷ b ∷ []) (λ ρ v n m. simp (int_rules, n, v 0, v 1) (omega arith))

      no_way : pos 0 <ᶻ c *ℤ (a -ℤ b) → c *ℤ a ≤ᶻ c *ℤ b → ⊥
      no_way = ints (c ∷ a ∷ b ∷ []) (λ ρ v n m. simp (int_rules, n, v 0, v 1, v 2) (omega arith))
