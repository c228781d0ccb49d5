-- The roundoff of a product as the code finds it, from four numbers: N, the product of the significands; l, where its last digit stands, in
-- squares of units; s and e, significand and exponent of the rounded product. In order: what they tell; that they do. Not here: that the
-- numbers tell what is lacking (double's `LastPlace`); what the roundoff is worth (`Product`). Assumes nothing.
use mathlib.Core.Path.{◌≡◌, sym, ap, ◌∙◌}
use mathlib.Core.Bool.{true, false}
use Prim.Native.Nat.{ℕ, ◌+◌, ◌-◌, ◌*◌, ◌^◌, ◌≤◌, ◌<◌}
use native.Mathlib.Omega.{arith}
use lib.IntN.{ℤ, pos, neg_ℤ, ◌-ℤ◌, ◌*ℤ◌}
use lib.Ieee.{Float, binary64, of_bits, mul, lt}
use Rattle.double.specs.Worth.{mag, double_of}
use Rattle.double.specs.Apart.{exponent_of}
use Rattle.double.proofs.Laws.Digits.{gap}
use Rattle.double.proofs.Laws.Units.{Real, mag_lt}
use Rattle.double.proofs.Laws.Zero.{plus_zero}
use Rattle.double.proofs.Laws.Apart.{exponent_most}
use Rattle.double.proofs.Laws.ExactProduct.{Factors, significands_of, last_of, lack}
use Rattle.double.proofs.Laws.LastPlace.{rounded_significand, rounded_exponent, lack_none_below, lack_none_above}
use Rattle.double.proofs.Laws.LastPlace.{difference_below, cut_few, lack_positive, lack_negative}
use Rattle.geometry.specs.Product.{roundoff_of}
use Rattle.geometry.proofs.Laws.Product.{roundoff_is, roundoff_none}

-- the exponent of a finite double is at most 2,045
pub exponent_few : (x : Float) → Real binary64 x → exponent_of (mag binary64 x) ≤ 2045
exponent_few x r = exponent_most (mag binary64 x) (mag_lt binary64 x r)

-- the double of n * 2 ^ e / 2 ^ c units
abbrev pub MadeOf : ℤ → ℕ → ℕ → Float → Type 0
MadeOf n e c d = (z : ℤ) → z *ℤ pos (2 ^ c) ≡ n *ℤ pos (2 ^ e) → d ≡ double_of z

pub record Cut (x y : Float) (N l s e : ℕ) : Type 0 where
  -- the last place is one unit, or all digits are kept: nothing is lacking
  pub at_unit : e ≡ 0 → of_bits binary64 0 ≡ roundoff_of x y
  pub all_kept : e + 1074 ≤ l → of_bits binary64 0 ≡ roundoff_of x y
  -- elsewhere few digits are cut off, and what is lacking is the difference at the last place: of a product above 0, and of one below
  pub few : (e ≡ 0 → ⊥) → l < e + 1074 → e + 1074 - l ≤ 54
  pub near : l < e + 1074 → gap (s * 2 ^ (e + 1074 - l)) N < 2 ^ 53
  pub above : (e ≡ 0 → ⊥) → l < e + 1074 → lt (mul binary64 x y) plus_zero ≡ false → (d : Float) (n : ℤ)
      → n ≡ pos N -ℤ pos (s * 2 ^ (e + 1074 - l)) → MadeOf n e (e + 1074 - l) d → d ≡ roundoff_of x y
  pub below : l < e + 1074 → lt (mul binary64 x y) plus_zero ≡ true → (d : Float) (n : ℤ)
      → n ≡ neg_ℤ (pos N -ℤ pos (s * 2 ^ (e + 1074 - l))) → MadeOf n e (e + 1074 - l) d → d ≡ roundoff_of x y

over : (e l : ℕ) → l < e + 1074 → e + 1074 ≡ l + (e + 1074 - l)
over e l h = omega arith

own : {x y : Float} → Factors x y → Cut x y (significands_of x y) (last_of x y) (rounded_significand x y) (rounded_exponent x y)
own {x} {y} F = record {
  at_unit = λ z. roundoff_none F (lack_none_below F z);
  all_kept = λ h. roundoff_none F (lack_none_above F h);
  few = λ u h. cut_few F (rounded_exponent x y + 1074 - last_of x y) (over (rounded_exponent x y) (last_of x y) h) u;
  near = λ h. difference_below F (rounded_exponent x y + 1074 - last_of x y) (over (rounded_exponent x y) (last_of x y) h);
  above = λ u h t d n i made.
      made (lack x y) (lack_positive F (rounded_exponent x y + 1074 - last_of x y) (over (rounded_exponent x y) (last_of x y) h) u t
      ∙ ap (λ (m : ℤ). m *ℤ pos (2 ^ rounded_exponent x y)) (sym i)) ∙ sym (roundoff_is F);
  below = λ h t d n i made.
      made (lack x y) (lack_negative F (rounded_exponent x y + 1074 - last_of x y) (over (rounded_exponent x y) (last_of x y) h) t
      ∙ ap (λ (m : ℤ). m *ℤ pos (2 ^ rounded_exponent x y)) (sym i)) ∙ sym (roundoff_is F);
}

pub cut_of : {x y : Float} {N l s e : ℕ} → Factors x y → N ≡ significands_of x y → l ≡ last_of x y → s ≡ rounded_significand x y
    → e ≡ rounded_exponent x y → Cut x y N l s e
cut_of {x} {y} {N} {l} {s} {e} F p q u v = rw (p, q, u, v) (own F)
