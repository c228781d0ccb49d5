-- A double and its bit pattern. In order: the patterns above infinity's are NaNs', the others are not; a NaN's pattern, and which doubles are
-- numbers; no two results satisfy either promise. Assumes nothing.
use mathlib.Core.Path.{◌≡◌, refl, sym, ap, ◌∙◌, subst}
use mathlib.Core.Bool.{Bool, true, false, not}
use Prim.Native.Nat.{ℕ, ◌*◌, ◌%◌, ◌≤◌, ◌<◌}
use lib.Dec.{T}
use lib.Ieee.{Float, nan, inf, fin, binary64, is_nan, of_bits, to_bits, nan_bits, ones, hid, top}
use lib.Ieee.Scale.{finite}
use lib.Ieee.Bits.{nan_bits_is, nan_bits_above}
use borrow.Author.Tests.{lt-ltb, le-ltb}
use Rattle.std.specs.Float.{float_is_finite}
use Rattle.refusal.specs.Outcome.{Fixes}
use Rattle.double.specs.Pattern.{FromPatternSays, ToPatternSays}

is_nan_lem : (x : Float) → is_nan x ≡ true → x ≡ nan
unfolding is_nan
is_nan_lem nan e = refl
is_nan_lem (inf s) e = absurd (subst T (sym e) tt)
is_nan_lem (fin s m d) e = absurd (subst T (sym e) tt)

pub nan_pattern : (b : ℕ) → ones binary64 * hid binary64 < b % top binary64 → nan ≡ of_bits binary64 b
nan_pattern b h =
    let above : nan_bits binary64 b ≡ true = nan_bits_above binary64 b ∙ lt-ltb (ones binary64 * hid binary64) (b % top binary64) h in
    sym (is_nan_lem (of_bits binary64 b) (sym (nan_bits_is binary64 b) ∙ above))

pub number_pattern : (b : ℕ) → b % top binary64 ≤ ones binary64 * hid binary64 → T (not (nan_bits binary64 b))
number_pattern b h =
    let not_above : nan_bits binary64 b ≡ false = nan_bits_above binary64 b ∙ le-ltb (ones binary64 * hid binary64) (b % top binary64) h in
    subst (λ (t : Bool). T (not t)) (sym not_above) tt

-- ---- the pattern of a double
pub nan_bits_lem : (x : Float) → is_nan x ≡ true → 0x7FF8_0000_0000_0000 ≡ to_bits binary64 x
unfolding to_bits
nan_bits_lem x h = ap (λ (x : Float). to_bits binary64 x) (sym (is_nan_lem x h))

-- finite, as std says it
pub finite_std : (x : Float) → float_is_finite x ≡ finite x
unfolding float_is_finite
finite_std nan = refl
finite_std (inf s) = refl
finite_std (fin s m e) = refl

pub number_finite : (x : Float) → T (finite x) → T (not (is_nan x))
unfolding is_nan
number_finite nan h = h
number_finite (inf s) h = tt
number_finite (fin s m e) h = tt

-- ---- no two results satisfy either promise
pub from_pattern_fixed : (b : ℕ) → Fixes (FromPatternSays b)
from_pattern_fixed b x y p q = p ∙ sym q

pub to_pattern_fixed : (x : Float) → Fixes (ToPatternSays x)
to_pattern_fixed x a b p q = p ∙ sym q
