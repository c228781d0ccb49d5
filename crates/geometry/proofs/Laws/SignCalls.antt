-- The demands, of whatever keeps the promise of `sign`: nothing here speaks of how it works, but for the first. In order: from what a side answers;
-- which calls are refused, with what place; an answered call: its sign; no two results satisfy the promise; a side and the sign alone agree.
-- Assumes nothing.
use mathlib.Core.Path.{◌≡◌, refl, sym, ap, ◌∙◌}
use mathlib.Core.Logic.{◌↔◌}
use lib.IntN.{ℤ}
use lib.Ieee.{nan}
use Rattle.whole.specs.Sign.{sgn}
use Rattle.refusal.specs.Outcome.{answers, not_accepted, Fixes, kind_number}
use Rattle.refusal.specs.Search.{passing_from}
use Rattle.refusal.specs.declared.Refusal.{Refusal}
use Rattle.refusal.proofs.Laws.Outcome.{no_refusal, outcome_once, outcome_refused}
use Rattle.refusal.proofs.Laws.Search.{passing_answered, passing_other, failing_other, passing_iff}
use Rattle.point.specs.declared.Point.{Point}
use Rattle.point.specs.Accepted.{accepted_of, Accepted, OfDoubles}
use Rattle.point.specs.Spot.{determinant}
use Rattle.sum.specs.Total.{sign_number}
use Rattle.sum.specs.declared.answer.Sign.{Sign}
use Rattle.sum.proofs.Laws.Look.{sign_once}
use Rattle.geometry.specs.Side.{turn_of, said, six_of, side_of, SideSays, sign_said, sign_of, SignSays}
use Rattle.geometry.specs.Reasons.{SideRefusedAs}
use Rattle.geometry.specs.declared.answer.Turn.{Turn}
use Rattle.geometry.proofs.Laws.Calls.{side_sign}
use Rattle.std.specs.Prelude.{Err, Ok, Result}

-- ---- from what a side answers
module _ (p q r : Point) where
  pub sign_of_turn : (t : Turn) → OfDoubles p → OfDoubles q → OfDoubles r → SideSays p q r (Ok t) → SignSays p q r (Ok t.sign)
  unfolding said side_of sign_said sign_of
  sign_of_turn t P Q R h =
      ap (λ (z : ℤ). answers z) (side_sign p q r t P Q R h)
      ∙ sym (passing_other accepted_of not_accepted 0 nan (six_of p q r) (turn_of p q r) (sgn (determinant p q r)) (sym h))

  pub sign_of_refused : (f : Refusal) → SideSays p q r (Err f) → SignSays p q r (Err f)
  unfolding said side_of sign_said sign_of
  sign_of_refused f h = sym (failing_other accepted_of not_accepted 0 nan (six_of p q r) (turn_of p q r) (sgn (determinant p q r)) (sym h))

-- ---- which calls are refused: 3, at the first of the six coordinates that is not accepted
pub sign_refused : (p q r : Point) (s : Result Sign Refusal) → SignSays p q r s
    → (f : Refusal) → (s ≡ Err f) ↔ SideRefusedAs p q r (kind_number f.kind) f.place
unfolding sign_said sign_of
sign_refused p q r s h f =
    let at = passing_iff accepted_of not_accepted nan (six_of p q r) (sgn (determinant p q r)) (kind_number f.kind) f.place in
    (λ e. at.0 (sym h ∙ ap sign_said e), λ w. outcome_refused sign_number s f (h ∙ at.1 w))

-- accepted points are answered
pub sign_answers : (p q r : Point) (s : Result Sign Refusal) → Accepted p → Accepted q → Accepted r → SignSays p q r s → (z : Sign) × (s ≡ Ok z)
unfolding sign_said sign_of passing_from
sign_answers p q r (Ok z) P Q R h = (z, refl)
sign_answers p q r (Err f) P Q R h = no_refusal (h ∙ answered)
  where
    answered : sign_of p q r ≡ answers (sgn (determinant p q r))
    answered = rw (P.x, P.y, Q.x, Q.y, R.x, R.y)

-- ---- an answered call: the sign is that of the exact determinant
pub sign_told : (p q r : Point) (z : Sign) → SignSays p q r (Ok z) → sign_number z ≡ sgn (determinant p q r)
unfolding sign_said sign_of
sign_told p q r z h = sym (passing_answered accepted_of not_accepted nan (sgn (determinant p q r)) 0 (six_of p q r) (sign_number z) (sym h)).1

-- ---- no two results satisfy the promise
pub sign_fixed : (p q r : Point) → Fixes (λ (s : Result Sign Refusal). SignSays p q r s)
unfolding sign_said
sign_fixed p q r a b e f = outcome_once sign_number sign_once a b (e ∙ sym f)

-- ---- a side that is answered has this sign
pub sign_side : (p q r : Point) (t : Turn) (s : Result Sign Refusal) → OfDoubles p → OfDoubles q → OfDoubles r
    → SideSays p q r (Ok t) → SignSays p q r s → s ≡ Ok t.sign
sign_side p q r t s P Q R h k = sign_fixed p q r s (Ok t.sign) k (sign_of_turn p q r t P Q R h)
