-- Signed arithmetic of the machine. In order: what fits; the negative of any number; a number below 0 without its sign, and the
-- promise of `magnitude`. An operation reads each operand from its bits, which tell it as long as it fits. Assumes nothing.
use Rattle.std.proofs.Common.{◌≡◌, ℕ, zero, suc, ◌^◌, ◌<◌, ℤ, pos, negsuc, ◌+ℤ◌, ◌-ℤ◌, neg_ℤ, nat_abs, sym, refl, ap, ◌∙◌, subst, le_of_eq, lt_of_le_of_lt, arith, w64, SFits, to_z, of_z}
use lib.IntN.{+ℤ_idl, +ℤ_idr, +ℤ_assoc, -ℤ_one, neg_ℤ-neg_ℤ}
use mir.ValLaws.{to_z-of_z}
use Rattle.refusal.specs.Outcome.{Fixes}
use Rattle.whole.proofs.Laws.Parts.{nat_abs_neg}
use Rattle.word64.specs.Word.{MagnitudeSays}

pub signed_fits : (z : ℤ) → nat_abs z < 2 ^ 63 → SFits w64 z
signed_fits (pos n) h = record { sfits = h }
signed_fits (negsuc n) h = record { sfits = omega arith }

-- a result as it is read again
abbrev pub again : ℤ → ℤ
again z = to_z w64 (of_z w64 z)

-- ---- the negative of z, which is computed as 0 less what is read of it
module _ (read z : ℤ) (is : read ≡ z) (fits : SFits w64 (neg_ℤ z)) where
  negated : pos 0 -ℤ read ≡ neg_ℤ z
  negated = ap (λ (y : ℤ). pos 0 -ℤ y) is ∙ +ℤ_idl (neg_ℤ z)

  pub negated_fits : SFits w64 (pos 0 -ℤ read)
  negated_fits = subst (SFits w64) (sym negated) fits

  pub negated_again : again (pos 0 -ℤ read) ≡ neg_ℤ z
  negated_again = to_z-of_z w64 _ negated_fits ∙ negated

-- ---- one less than that
one_below : (k : ℕ) → neg_ℤ (pos k) -ℤ pos 1 ≡ negsuc k
one_below zero = refl
one_below (suc k) = -ℤ_one (negsuc k)

module _ (k : ℕ) (h : k < 2 ^ 63) where
  negative_fits : SFits w64 (neg_ℤ (pos k))
  negative_fits = signed_fits (neg_ℤ (pos k)) (lt_of_le_of_lt (le_of_eq (nat_abs_neg (pos k))) h)

-- ---- a number below 0 without its sign: one more, negated, and one more again
-- as it is read, and k of it besides one
module _ (z : ℤ) (k : ℕ) (is : z ≡ negsuc k) (h : k < 2 ^ 63) where
  one_more : z +ℤ pos 1 ≡ neg_ℤ (pos k)
  one_more = ap (λ (y : ℤ). y +ℤ pos 1) (is ∙ sym (one_below k)) ∙ back (neg_ℤ (pos k))
    where
      back : (y : ℤ) → (y -ℤ pos 1) +ℤ pos 1 ≡ y
      back y = +ℤ_assoc y (neg_ℤ (pos 1)) (pos 1) ∙ +ℤ_idr y

  pub one_more_fits : SFits w64 (z +ℤ pos 1)
  one_more_fits = subst (SFits w64) (sym one_more) (negative_fits k h)

  one_more_again : again (z +ℤ pos 1) ≡ neg_ℤ (pos k)
  one_more_again = to_z-of_z w64 _ one_more_fits ∙ one_more

  opposite : SFits w64 (neg_ℤ (neg_ℤ (pos k)))
  opposite = subst (SFits w64) (sym (neg_ℤ-neg_ℤ (pos k))) (record { sfits = h })

  pub turned_fits : SFits w64 (pos 0 -ℤ again (z +ℤ pos 1))
  turned_fits = negated_fits _ (neg_ℤ (pos k)) one_more_again opposite

  pub turned_again : again (pos 0 -ℤ again (z +ℤ pos 1)) ≡ pos k
  turned_again = negated_again _ (neg_ℤ (pos k)) one_more_again opposite ∙ neg_ℤ-neg_ℤ (pos k)

-- ---- the promise leaves nothing open
pub magnitude_fixed : (z : ℤ) → Fixes (MagnitudeSays z)
magnitude_fixed z a b h k = h ∙ sym k
