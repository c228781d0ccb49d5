-- The plain sum: docs/RULES.md, section Plain. Here the sign that it answers; how words hold it is in Words.
use Rattle.std.specs.Prelude.{◌≡◌, List, ℤ, Float, Result}
use Rattle.whole.specs.Sign.{sgn}
use Rattle.refusal.specs.Outcome.{Outcome, outcome}
use Rattle.sum.specs.Refused.{checked}
use Rattle.sum.specs.Total.{total_of, sign_number}
use Rattle.refusal.specs.declared.Refusal.{Refusal}
use Rattle.sum.specs.declared.answer.Sign.{Sign}

-- Answer 4: the rules' values, or number and place, for each case of the code's answer
unfoldable pub plain_said : Result Sign Refusal → Outcome ℤ
plain_said r = outcome sign_number r

-- Plain 1: what `plain` answers: the sign of the exact total, unless the list is refused
unfoldable pub plain_of : List Float → Outcome ℤ
unfolding checked total_of sgn
plain_of xs = checked xs (sgn (total_of xs))

-- the promise of `plain`. Plain 2: the list is only read, so that no list after the call is spoken of
abbrev pub PlainSays : List Float → Result Sign Refusal → Type 0
PlainSays xs r = plain_said r ≡ plain_of xs
