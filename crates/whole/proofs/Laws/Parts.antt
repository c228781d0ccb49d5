-- A whole number as a difference: z is `up z` - `dn z`, two naturals of which one is 0. So a fact of ℤ is one of ℕ, for `omega` to prove.
--
-- In order: the two parts; sums, negations, differences of naturals and products by parts; the order and equality by parts, and those of
-- naturals; the laws of `*ℤ` that `lib.IntN` lacks.
-- Not here: facts of several sums and products (`Linear`).
-- Assumes nothing.
use mathlib.Core.Path.{◌≡◌, refl, ap}
use mathlib.Core.Bool.{Bool, true, false, not, cond}
use mathlib.Core.Logic.{◌↔◌}
use Prim.Native.Nat.{ℕ, zero, suc, ◌+◌, ◌*◌, ◌-◌, ◌<◌, ◌≤◌}
use native.Mathlib.Omega.{arith}
use lib.Dec.{T, ltb, ltb→lt, nltb→le, leb→le, le→leb, lt→ltb}
use lib.IntN.{ℤ, pos, negsuc, neg_ℤ, nat_abs, sub_ℕ, ◌+ℤ◌, ◌-ℤ◌, ◌*ℤ◌}
use Rattle.whole.specs.Order.{◌≤ᶻ◌, ◌<ᶻ◌}

-- what is above 0
unfoldable pub up : ℤ → ℕ
up (pos n) = n
up (negsuc n) = 0

-- what is below 0
unfoldable pub dn : ℤ → ℕ
dn (pos n) = 0
dn (negsuc n) = suc n

-- ---- sums, negations, products

cond_either : (c : Bool) (x y : ℤ) (P : ℤ → Type 0) → (T c → P x) → (T (not c) → P y) → P (cond c x y)
cond_either true x y P f g = f tt
cond_either false x y P f g = g tt

sub_parts : (a b : ℕ) → up (sub_ℕ a b) + b ≡ dn (sub_ℕ a b) + a
unfolding up dn
sub_parts a b =
    cond_either (ltb a b) (negsuc (b - suc a)) (pos (a - b)) (λ z. up z + b ≡ dn z + a)
    (λ t. omega (arith, ltb→lt a b t)) (λ t. omega (arith, nltb→le a b t))

pub add_parts : (z w : ℤ) → up (z +ℤ w) + (dn z + dn w) ≡ dn (z +ℤ w) + (up z + up w)
unfolding up dn
add_parts (pos m) (pos n) = omega arith
add_parts (pos m) (negsuc n) = omega (arith, sub_parts m (suc n))
add_parts (negsuc m) (pos n) = omega (arith, sub_parts n (suc m))
add_parts (negsuc m) (negsuc n) = omega arith

pub up_neg : (z : ℤ) → up (neg_ℤ z) ≡ dn z
unfolding up dn
up_neg (pos zero) = refl
up_neg (pos (suc n)) = refl
up_neg (negsuc n) = refl

pub dn_neg : (z : ℤ) → dn (neg_ℤ z) ≡ up z
unfolding up dn
dn_neg (pos zero) = refl
dn_neg (pos (suc n)) = refl
dn_neg (negsuc n) = refl

-- of the difference of two natural numbers
pub difference_parts : (m n : ℕ) → up (pos m -ℤ pos n) + n ≡ dn (pos m -ℤ pos n) + m
unfolding up dn
difference_parts m n = omega (arith, add_parts (pos m) (neg_ℤ (pos n)), up_neg (pos n), dn_neg (pos n))

-- a number and its negative are as far from 0
pub nat_abs_neg : (z : ℤ) → nat_abs (neg_ℤ z) ≡ nat_abs z
nat_abs_neg (pos zero) = refl
nat_abs_neg (pos (suc n)) = refl
nat_abs_neg (negsuc n) = refl

pub mul_parts : (z w : ℤ) → up (z *ℤ w) + (up z * dn w + dn z * up w) ≡ dn (z *ℤ w) + (up z * up w + dn z * dn w)
unfolding up dn
mul_parts (pos m) (pos n) = omega arith
mul_parts (pos m) (negsuc n) = omega (arith, up_neg (pos (m * suc n)), dn_neg (pos (m * suc n)))
mul_parts (negsuc m) (pos n) = omega (arith, up_neg (pos (suc m * n)), dn_neg (pos (suc m * n)))
mul_parts (negsuc m) (negsuc n) = omega arith

-- ---- the order and equality

pub ≤_parts : (a b : ℤ) → (a ≤ᶻ b) ↔ (up a + dn b ≤ up b + dn a)
unfolding up dn
≤_parts (pos m) (pos n) = omega (arith, leb→le, le→leb)
≤_parts (pos m) (negsuc n) = omega arith
≤_parts (negsuc m) (pos n) = omega arith
≤_parts (negsuc m) (negsuc n) = omega (arith, leb→le, le→leb)

pub <_parts : (a b : ℤ) → (a <ᶻ b) ↔ (up a + dn b < up b + dn a)
unfolding up dn
<_parts (pos m) (pos n) = omega (arith, ltb→lt, lt→ltb)
<_parts (pos m) (negsuc n) = omega arith
<_parts (negsuc m) (pos n) = omega arith
<_parts (negsuc m) (negsuc n) = omega (arith, ltb→lt, lt→ltb)

from_parts : (a b : ℤ) → up a + dn b ≡ up b + dn a → a ≡ b
unfolding up dn
from_parts (pos m) (pos n) e = let k : m ≡ n = omega arith in ap pos k
from_parts (pos m) (negsuc n) e = let z : ⊥ = omega arith in absurd z
from_parts (negsuc m) (pos n) e = let z : ⊥ = omega arith in absurd z
from_parts (negsuc m) (negsuc n) e = let k : m ≡ n = omega arith in ap negsuc k

pub ≡_parts : (a b : ℤ) → (a ≡ b) ↔ (up a + dn b ≡ up b + dn a)
≡_parts a b = ((λ e. omega (arith, ap up e, ap dn e)), from_parts a b)

-- of naturals they are those of ℕ
pub pos-≤ : (a b : ℕ) → (pos a ≤ᶻ pos b) ↔ (a ≤ b)
pos-≤ a b = omega (arith, leb→le, le→leb)

pub pos-< : (a b : ℕ) → (pos a <ᶻ pos b) ↔ (a < b)
pos-< a b = omega (arith, ltb→lt, lt→ltb)

pub pos-≡ : (a b : ℕ) → (pos a ≡ pos b) ↔ (a ≡ b)
unfolding up
pos-≡ a b = ((λ e. ap up e), (λ e. ap pos e))

-- ---- the laws of `*ℤ` that `lib.IntN` lacks

-- both parts of a factor on both sides: `omega` multiplies out, and never multiplies by
times : (z : ℤ) {m n : ℕ} → m ≡ n → (m * up z ≡ n * up z) × (m * dn z ≡ n * dn z)
times z e = (ap (λ (s : ℕ). s * up z) e, ap (λ (s : ℕ). s * dn z) e)

pub *ℤ_assoc : (a b c : ℤ) → (a *ℤ b) *ℤ c ≡ a *ℤ (b *ℤ c)
*ℤ_assoc a b c =
    from_parts _ _ (omega (arith, mul_parts (a *ℤ b) c, mul_parts a (b *ℤ c), times c (mul_parts a b), times a (mul_parts b c)))

pub *ℤ-+ℤ : (a b c : ℤ) → a *ℤ (b +ℤ c) ≡ a *ℤ b +ℤ a *ℤ c
*ℤ-+ℤ a b c =
    from_parts _ _ (omega (arith, mul_parts a (b +ℤ c), add_parts (a *ℤ b) (a *ℤ c), mul_parts a b, mul_parts a c, times a (add_parts b c)))

pub neg_ℤ-*ℤ : (a b : ℤ) → neg_ℤ a *ℤ b ≡ neg_ℤ (a *ℤ b)
neg_ℤ-*ℤ a b = from_parts _ _ (simp (up_neg, dn_neg) (omega (arith, simp (up_neg, dn_neg) at (mul_parts (neg_ℤ a) b), mul_parts a b)))
