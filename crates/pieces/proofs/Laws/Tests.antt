-- What tests say. In order: a choice by a test; a test that is false and true; both of two tests; a number that is 0.
-- Assumes nothing.
use mathlib.Core.Path.{◌≡◌, refl, sym, ap, ◌∙◌}
use mathlib.Core.Bool.{Bool, true, false, cond, ◌&&◌}
use Prim.Native.Nat.{zero, suc}
use lib.IntN.{ℤ, pos, negsuc}
use Rattle.ground.specs.Compare.{is_zero}
use Rattle.ground.proofs.Laws.Compare.{true_told}

-- what holds of both outcomes holds of the choice
pub tested : {A : Type 0} (P : A → Type 0) (t : Bool) (x y : A) → (t ≡ true → P x) → (t ≡ false → P y) → P (cond t x y)
tested P true x y h k = h refl
tested P false x y h k = k refl

pub not_true : {A : Type 0} {t : Bool} → t ≡ false → t ≡ true → A
not_true e f = absurd ((true_told false).0 (sym e ∙ f))

pub both_true : (s t : Bool) → (s && t) ≡ true → (s ≡ true) × (t ≡ true)
both_true true t e = (refl, e)
both_true false t e = not_true refl e

pub zero_says : (z : ℤ) → is_zero z ≡ true → z ≡ pos 0
zero_says (pos zero) e = refl
zero_says (pos (suc n)) e = not_true refl e
zero_says (negsuc n) e = not_true refl e

pub says_zero : (z : ℤ) → z ≡ pos 0 → is_zero z ≡ true
says_zero z e = ap is_zero e
