-- A look's verdict. In order: a sign is known by its number; what a look decides, one law to a case. Not here: that the extremes are what
-- their names say, and that the sign is the total's. Assumes nothing.
use mathlib.Core.Path.{◌≡◌, refl, sym, ap, ◌∙◌}
use mathlib.Core.Bool.{true, false}
use Prim.Native.Nat.{ℕ}
use lib.Ieee.{Float, lt, neg}
use Rattle.sum.specs.Total.{sign_number}
use Rattle.sum.specs.Look.{times, verdict_by}
use Rattle.sum.specs.declared.answer.Sign.{Sign}
use Rattle.sum.specs.declared.answer.Sign.TheVariants.{Minus, Zero, Plus}
use Rattle.sum.specs.declared.look.Look.{Look}
use Rattle.sum.specs.declared.look.Look.TheVariants.{Neither, Positive, Negative, Both}
use Rattle.std.specs.Prelude.{None, Some}

-- ---- a sign is known by its number
pub sign_once : (a b : Sign) → sign_number a ≡ sign_number b → a ≡ b
sign_once Minus Minus e = refl
sign_once Minus Zero e = cc
sign_once Minus Plus e = cc
sign_once Zero Minus e = cc
sign_once Zero Zero e = refl
sign_once Zero Plus e = cc
sign_once Plus Minus e = cc
sign_once Plus Zero e = cc
sign_once Plus Plus e = refl

-- ---- what a look decides
module _ (m n : ℕ) {found : Look} where
  pub verdict_neither : found ≡ Neither → Some Zero ≡ verdict_by m n found
  unfolding verdict_by
  verdict_neither e = sym (ap (verdict_by m n) e)

  pub verdict_positive : {a : Float} → found ≡ Positive a → Some Plus ≡ verdict_by m n found
  unfolding verdict_by
  verdict_positive e = sym (ap (verdict_by m n) e)

  pub verdict_negative : {b : Float} → found ≡ Negative b → Some Minus ≡ verdict_by m n found
  unfolding verdict_by
  verdict_negative e = sym (ap (verdict_by m n) e)

  pub verdict_plus : {a b : Float} → found ≡ Both a b → lt (times n (neg b)) a ≡ true → Some Plus ≡ verdict_by m n found
  unfolding verdict_by
  verdict_plus e h = sym (ap (verdict_by m n) e ∙ rw h)

  pub verdict_minus : {a b : Float} → found ≡ Both a b → lt (times n (neg b)) a ≡ false → lt (times m a) (neg b) ≡ true
      → Some Minus ≡ verdict_by m n found
  unfolding verdict_by
  verdict_minus e h k = sym (ap (verdict_by m n) e ∙ rw (h, k))

  pub verdict_undecided : {a b : Float} → found ≡ Both a b → lt (times n (neg b)) a ≡ false → lt (times m a) (neg b) ≡ false
      → None ≡ verdict_by m n found
  unfolding verdict_by
  verdict_undecided e h k = sym (ap (verdict_by m n) e ∙ rw (h, k))
