-- What a double is worth, in ℤ, and back. In order: its parts above and below 0 are `plus` and `minus`; the zeros are worth 0, and only
-- they; sums of worths by their parts; the double of its own worth, +0 for both zeros; the worth of the double made of w, for a w of
-- `prec` digits below overflow, and that it is finite. Not here: the same over any format and in ℕ (`Units`). Assumes nothing.
use mathlib.Core.Path.{◌≡◌, refl, sym, ap, ap₂, ◌∙◌, subst}
use mathlib.Core.Bool.{Bool, true, false, cond}
use mathlib.Core.Logic.{◌↔◌, inl, inr}
use Prim.Native.Nat.{ℕ, zero, suc, ◌+◌, ◌^◌, ◌<◌}
use native.Mathlib.Nat.{eq-zero-or-pos, lt_irrefl, lt_of_le_of_lt, le_of_eq}
use native.Mathlib.Omega.{arith}
use lib.IntN.{ℤ, pos, negsuc, neg_ℤ, nat_abs, ◌+ℤ◌}
use lib.Ieee.{Float, fin, Format, binary64, prec, low, round, size, units, odd}
use lib.Ieee.Exact.{HasValue}
use lib.Ieee.Scale.{overflow}
use Rattle.whole.proofs.Laws.Parts.{up, dn, add_parts, ≡_parts}
use Rattle.double.specs.Worth.{sign_bit, mag, plus, minus, worth, of_units, double_of}
use Rattle.double.proofs.Laws.Digits.{Rep}
use Rattle.double.proofs.Laws.Rounding.{rn, rn_kept}
use Rattle.double.proofs.Laws.Units.{Real, value_mag, value_sign_bit}
use Rattle.double.proofs.Laws.Units.{of_units_value, of_units_parts, of_units_own}

-- a sign and a magnitude
abbrev pub signed : Bool → ℕ → ℤ
signed s n = cond s (neg_ℤ (pos n)) (pos n)

-- ---- its parts above and below 0
signed_up : (s : Bool) (n : ℕ) → up (signed s n) ≡ cond s 0 n
unfolding up
signed_up false n = refl
signed_up true zero = refl
signed_up true (suc n) = refl

signed_dn : (s : Bool) (n : ℕ) → dn (signed s n) ≡ cond s n 0
unfolding dn
signed_dn false n = refl
signed_dn true zero = refl
signed_dn true (suc n) = refl

pub worth_up : (x : Float) → up (worth x) ≡ plus binary64 x
unfolding worth
worth_up x = signed_up (sign_bit x) (mag binary64 x)

pub worth_dn : (x : Float) → dn (worth x) ≡ minus binary64 x
unfolding worth
worth_dn x = signed_dn (sign_bit x) (mag binary64 x)

-- ---- zero
signed_zero : (s : Bool) (n : ℕ) → signed s n ≡ pos 0 → n ≡ 0
signed_zero false n e = cc
signed_zero true zero e = refl
signed_zero true (suc n) e = cc

pub worth_zero : (x : Float) → (worth x ≡ pos 0) ↔ (mag binary64 x ≡ 0)
unfolding worth
worth_zero x = (signed_zero (sign_bit x) (mag binary64 x), λ e. ap (signed (sign_bit x)) e ∙ either (sign_bit x))
  where
    either : (s : Bool) → signed s 0 ≡ pos 0
    either false = refl
    either true = refl

-- the magnitude without the sign
signed_nat_abs : (s : Bool) (n : ℕ) → nat_abs (signed s n) ≡ n
signed_nat_abs false n = refl
signed_nat_abs true zero = refl
signed_nat_abs true (suc n) = refl

pub worth_nat_abs : (x : Float) → nat_abs (worth x) ≡ mag binary64 x
unfolding worth
worth_nat_abs x = signed_nat_abs (sign_bit x) (mag binary64 x)

-- ---- sums of worths by their parts
sums : (z w u v : ℤ) → up z + up w + (dn u + dn v) ≡ up u + up v + (dn z + dn w) → z +ℤ w ≡ u +ℤ v
sums z w u v e = (≡_parts (z +ℤ w) (u +ℤ v)).1 (omega (arith, add_parts z w, add_parts u v))

pub worth_sums : (a b x y : Float)
    → plus binary64 x + plus binary64 y + (minus binary64 a + minus binary64 b)
    ≡ plus binary64 a + plus binary64 b + (minus binary64 x + minus binary64 y)
    → worth x +ℤ worth y ≡ worth a +ℤ worth b
worth_sums a b x y e =
    sums (worth x) (worth y) (worth a) (worth b)
    (rw (worth_up x, worth_up y, worth_dn a, worth_dn b, worth_up a, worth_up b, worth_dn x, worth_dn y) e)

-- ---- the double of a given worth, over any format
abbrev from : Format → ℤ → Float
from f (pos n) = of_units f false n
from f (negsuc n) = of_units f true (suc n)

double_of_is : (w : ℤ) → double_of w ≡ from binary64 w
unfolding double_of
double_of_is (pos n) = refl
double_of_is (negsuc n) = refl

-- ---- of its own worth: itself, but for -0
from_signed : (f : Format) (s : Bool) (n : ℕ) → 0 < n → from f (signed s n) ≡ of_units f s n
from_signed f false n h = refl
from_signed f true zero h = absurd (lt_irrefl 0 h)
from_signed f true (suc n) h = refl

pub double_of_worth : (x : Float) → Real binary64 x → 0 < mag binary64 x → double_of (worth x) ≡ x
unfolding worth
double_of_worth x r h =
    double_of_is (signed (sign_bit x) (mag binary64 x)) ∙ from_signed binary64 (sign_bit x) (mag binary64 x) h ∙ of_units_own binary64 x r

pub double_of_zero : double_of (pos 0) ≡ fin false 0 (pos 0)
unfolding double_of of_units round size units odd
double_of_zero = refl

pub double_of_worth_zero : (x : Float) → mag binary64 x ≡ 0 → double_of (worth x) ≡ fin false 0 (pos 0)
double_of_worth_zero x e = ap double_of ((worth_zero x).1 e) ∙ double_of_zero

-- so itself, for every double but -0
pub double_of_worth_own : (x : Float) → Real binary64 x → (mag binary64 x ≡ 0 → x ≡ fin false 0 (pos 0)) → double_of (worth x) ≡ x
double_of_worth_own x r z = elim (eq-zero-or-pos (mag binary64 x)) [
  | inl e ↦ double_of_worth_zero x e ∙ sym (z e)
  | inr h ↦ double_of_worth x r h
]

-- ---- the worth of the double made of w
made : (f : Format) (s : Bool) (n : ℕ) → rn (prec f) n ≡ n → n < overflow f
    → signed (sign_bit (of_units f s n)) (mag f (of_units f s n)) ≡ signed s n
made f s n e h =
    let x = of_units f s n in
    let l = 2 ^ low f in
    let v : HasValue x s (rn (prec f) n) l = of_units_value f s n (lt_of_le_of_lt (le_of_eq e) h) in
    ap₂ signed (value_sign_bit x s (rn (prec f) n) l v) (value_mag f x s (rn (prec f) n) v ∙ e)

from_made : (f : Format) (w : ℤ) → Rep (prec f) (nat_abs w) → nat_abs w < overflow f
    → signed (sign_bit (from f w)) (mag f (from f w)) ≡ w
from_made f (pos n) r h = made f false n (rn_kept (prec f) r) h
from_made f (negsuc n) r h = made f true (suc n) (rn_kept (prec f) r) h

from_real : (f : Format) (w : ℤ) → Rep (prec f) (nat_abs w) → nat_abs w < overflow f → Real f (from f w)
from_real f (pos n) r h = (of_units_parts f false n (lt_of_le_of_lt (le_of_eq (rn_kept (prec f) r)) h)).real
from_real f (negsuc n) r h = (of_units_parts f true (suc n) (lt_of_le_of_lt (le_of_eq (rn_kept (prec f) r)) h)).real

pub double_of_real : (w : ℤ) → Rep (prec binary64) (nat_abs w) → nat_abs w < overflow binary64 → Real binary64 (double_of w)
double_of_real w r h = subst (λ (x : Float). Real binary64 x) (sym (double_of_is w)) (from_real binary64 w r h)

pub worth_double_of : (w : ℤ) → Rep (prec binary64) (nat_abs w) → nat_abs w < overflow binary64 → worth (double_of w) ≡ w
unfolding worth
worth_double_of w r h = ap worth (double_of_is w) ∙ from_made binary64 w r h
