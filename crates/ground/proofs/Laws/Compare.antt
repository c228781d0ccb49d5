-- The tests of order and of sign against the order of `whole`. In order: what `at_most`, `below` and `equal` say; of the first two each is not the
-- other, turned round; all as tests of the two parts of a difference, naturals; the test of a sign is that of its number, and of an opposite
-- the other one.
-- Not here: tests of points (`Edges`). Assumes nothing.
use mathlib.Core.Path.{◌≡◌, refl, sym, ap, subst}
use mathlib.Core.Bool.{Bool, true, false, not}
use mathlib.Core.Logic.Iff
use mathlib.Core.Logic.{◌↔◌}
use Prim.Native.Nat.{ℕ, zero, suc, ◌+◌, ◌≤◌, ◌<◌}
use lib.Dec.{T, leb, ltb, eqb}
use lib.IntN.{ℤ, pos, negsuc, neg_ℤ}
use borrow.Author.Tests.{ltb-true, leb-true, leb-false, lt-ltb, le-ltb, le-leb, eqb-true, eq-eqb}
use Rattle.whole.specs.Order.{◌≤ᶻ◌, ◌<ᶻ◌}
use Rattle.whole.specs.Sign.{sgn}
use Rattle.whole.proofs.Laws.Parts.{up, dn, ≤_parts, <_parts, ≡_parts}
use Rattle.ground.specs.Compare.{at_most, below, equal, is_zero, is_positive, is_negative}

-- ---- what the tests say

pub true_told : (t : Bool) → (t ≡ true) ↔ T t
true_told true = ((λ e. tt), (λ h. refl))
true_told false = ((λ e. subst T (sym e) tt), (λ h. absurd h))

pub at_most_says : (a b : ℤ) → (at_most a b ≡ true) ↔ (a ≤ᶻ b)
unfolding at_most
at_most_says (pos m) (pos n) = ((λ e. record { le = (true_told (leb m n)).0 e }), (λ h. (true_told (leb m n)).1 h.le))
at_most_says (pos m) (negsuc n) = ((λ e. record { le = (true_told false).0 e }), (λ h. absurd h.le))
at_most_says (negsuc m) (pos n) = ((λ e. record { le = tt }), (λ h. refl))
at_most_says (negsuc m) (negsuc n) = ((λ e. record { le = (true_told (leb n m)).0 e }), (λ h. (true_told (leb n m)).1 h.le))

pub below_says : (a b : ℤ) → (below a b ≡ true) ↔ (a <ᶻ b)
unfolding below
below_says (pos m) (pos n) = ((λ e. record { lt = (true_told (ltb m n)).0 e }), (λ h. (true_told (ltb m n)).1 h.lt))
below_says (pos m) (negsuc n) = ((λ e. record { lt = (true_told false).0 e }), (λ h. absurd h.lt))
below_says (negsuc m) (pos n) = ((λ e. record { lt = tt }), (λ h. refl))
below_says (negsuc m) (negsuc n) = ((λ e. record { lt = (true_told (ltb n m)).0 e }), (λ h. (true_told (ltb n m)).1 h.lt))

eqb_says : (m n : ℕ) → (eqb m n ≡ true) ↔ (m ≡ n)
eqb_says m n = (eqb-true m n, eq-eqb m n)

pub equal_says : (a b : ℤ) → (equal a b ≡ true) ↔ (a ≡ b)
unfolding equal
equal_says (pos m) (pos n) = ((λ e. ap pos (eqb-true m n e)), (λ e. eq-eqb m n (cc)))
equal_says (pos m) (negsuc n) = ((λ e. absurd ((true_told false).0 e)), (λ e. cc))
equal_says (negsuc m) (pos n) = ((λ e. absurd ((true_told false).0 e)), (λ e. cc))
equal_says (negsuc m) (negsuc n) = ((λ e. ap negsuc (eqb-true m n e)), (λ e. eq-eqb m n (cc)))

-- ---- each is not the other, turned round

less_not : (m n : ℕ) → ltb n m ≡ not (leb m n)
less_not m n = go (leb m n) refl
  where
    go : (t : Bool) → leb m n ≡ t → ltb n m ≡ not t
    go true e = le-ltb n m (leb-true m n e)
    go false e = lt-ltb n m (leb-false m n e)

pub below_not : (a b : ℤ) → below b a ≡ not (at_most a b)
unfolding at_most below
below_not (pos m) (pos n) = less_not m n
below_not (pos m) (negsuc n) = refl
below_not (negsuc m) (pos n) = refl
below_not (negsuc m) (negsuc n) = less_not n m

-- ---- by the parts of a difference

same_test : (s t : Bool) → (s ≡ true) ↔ (t ≡ true) → s ≡ t
same_test true t h = sym (h.0 refl)
same_test false true h = h.1 refl
same_test false false h = refl

leb_says : (m n : ℕ) → (leb m n ≡ true) ↔ (m ≤ n)
leb_says m n = (leb-true m n, le-leb m n)

ltb_says : (m n : ℕ) → (ltb m n ≡ true) ↔ (m < n)
ltb_says m n = (ltb-true m n, lt-ltb m n)

module _ (a b : ℤ) where
  pub at_most_parts : at_most a b ≡ leb (up a + dn b) (up b + dn a)
  at_most_parts = same_test (at_most a b) (leb (up a + dn b) (up b + dn a)) (simp (at_most_says, ≤_parts, leb_says) Iff.rfl)

  pub below_parts : below a b ≡ ltb (up a + dn b) (up b + dn a)
  below_parts = same_test (below a b) (ltb (up a + dn b) (up b + dn a)) (simp (below_says, <_parts, ltb_says) Iff.rfl)

  pub equal_parts : equal a b ≡ eqb (up a + dn b) (up b + dn a)
  equal_parts = same_test (equal a b) (eqb (up a + dn b) (up b + dn a)) (simp (equal_says, ≡_parts, eqb_says) Iff.rfl)

-- ---- signs

pub sgn_is_zero : (z : ℤ) → is_zero (sgn z) ≡ is_zero z
unfolding sgn
sgn_is_zero (pos zero) = refl
sgn_is_zero (pos (suc n)) = refl
sgn_is_zero (negsuc n) = refl

pub sgn_is_positive : (z : ℤ) → is_positive (sgn z) ≡ is_positive z
unfolding sgn
sgn_is_positive (pos zero) = refl
sgn_is_positive (pos (suc n)) = refl
sgn_is_positive (negsuc n) = refl

pub sgn_is_negative : (z : ℤ) → is_negative (sgn z) ≡ is_negative z
unfolding sgn
sgn_is_negative (pos zero) = refl
sgn_is_negative (pos (suc n)) = refl
sgn_is_negative (negsuc n) = refl

pub negated_zero : (z : ℤ) → is_zero (neg_ℤ z) ≡ is_zero z
negated_zero (pos zero) = refl
negated_zero (pos (suc n)) = refl
negated_zero (negsuc n) = refl

pub negated_positive : (z : ℤ) → is_positive (neg_ℤ z) ≡ is_negative z
negated_positive (pos zero) = refl
negated_positive (pos (suc n)) = refl
negated_positive (negsuc n) = refl

pub negated_negative : (z : ℤ) → is_negative (neg_ℤ z) ≡ is_positive z
negated_negative (pos zero) = refl
negated_negative (pos (suc n)) = refl
negated_negative (negsuc n) = refl

-- no number has both signs
pub one_sign : (z : ℤ) → is_positive z ≡ true → is_negative z ≡ false
one_sign (pos n) e = refl
one_sign (negsuc n) e = sym e
