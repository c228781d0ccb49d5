-- What inner functions promise of one fault, one sum of two and the run on a list that is not refused: believed by no reader.
use Rattle.std.specs.Prelude.{ℕ, ◌≤◌, ◌<◌, ◌≡◌, List, T, Float, not, ◌+ℤ◌, Result}
use Rattle.std.specs.Float.{binary64}
use Rattle.std.specs.Float.Ieee.Scale.{finite}
use Rattle.refusal.specs.Outcome.{Outcome, outcome}
use Rattle.double.specs.Worth.{worth, sign_bit, mag}
use Rattle.sum.specs.Refused.{checked}
use Rattle.sum.specs.declared.answer.Ran.{Ran}
use Rattle.sum.specs.Step.{rounded, roundoff}
use Rattle.sum.specs.Run.{ran_from}
use Rattle.refusal.specs.declared.Refusal.{Refusal}

-- where there is nothing else to answer
abbrev pub fault_of : List Float → Outcome Unit
fault_of xs = checked xs tt

-- what the search for a fault says
unfoldable pub found : Result Unit Refusal → Outcome Unit
found r = outcome (λ u. u) r

-- finite, of unlike sign, neither 0, and a no smaller in magnitude than b
pub record Opposed (a b : Float) : Type 0 where
  pub a_finite : T (finite a)
  pub b_finite : T (finite b)
  pub unlike : sign_bit b ≡ not (sign_bit a)
  pub nonzero : 0 < mag binary64 b
  pub larger : mag binary64 b ≤ mag binary64 a

-- Sum 9: x is the rounded sum, nothing is lost in units of 2^-1074, and y is the double of what x lacks
pub record ExactSum (a b x y : Float) : Type 0 where
  pub x_is : x ≡ rounded a b
  pub exact : worth x +ℤ worth y ≡ worth a +ℤ worth b
  pub y_is : y ≡ roundoff a b

-- what the inner run promises, on a list that is not refused: verdict, steps and every entry
pub record RanSays (xs : List Float) (budget : ℕ) (r : Ran) (after : List Float) : Type 0 where
  pub verdict : r.verdict ≡ (ran_from budget 0 xs).verdict
  pub steps : r.steps ≡ (ran_from budget 0 xs).steps
  pub left : after ≡ (ran_from budget 0 xs).left
