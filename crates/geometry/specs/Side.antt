-- The side of r against the line from p to q: three stages, and the refusals of `side`; and its sign alone.
use Rattle.std.specs.Prelude.{ℕ, ◌≡◌, List, [], ◌∷◌, ℤ, pos, negsuc, Float, Result}
use Rattle.refusal.specs.Outcome.{Outcome, answers, refuses, outcome}
use Rattle.refusal.specs.Search.{passing_from}
use Rattle.point.specs.declared.Point.{Point}
use Rattle.whole.specs.Sign.{sgn}
use Rattle.point.specs.Accepted.{accepted_within, accepting_from}
use Rattle.point.specs.Spot.{determinant}
use Rattle.sum.specs.Total.{sign_number}
use Rattle.sum.specs.Run.{Decision, sign, undecided, Told, run_of, most_budget}
use Rattle.side_filter.specs.declared.answer.Early.{Early}
use Rattle.side_filter.specs.declared.answer.Early.TheVariants.{Level, Plus, Minus, Open}
use Rattle.side_filter.specs.Filter.{filter_of}
use Rattle.geometry.specs.Product.{summands_of}
use Rattle.geometry.specs.declared.answer.Turn.{Turn}
use Rattle.refusal.specs.declared.Refusal.{Refusal}
use Rattle.sum.specs.declared.answer.Sign.{Sign}

-- Side 2: the sign, the stage that found it, and the steps: 0 in stages 1 and 2
pub record Turned : Type 0 where
  pub sign : ℤ
  pub stage : ℕ
  pub steps : ℕ

abbrev pub turned : ℤ → ℕ → ℕ → Turned
turned s n k = record { sign = s; stage = n; steps = k }

-- Side 11: the sign of a run that is over
abbrev pub sign_decided : Decision → ℤ
sign_decided (sign z) = z
sign_decided undecided = pos 0

-- stage 3, by what a run answers; that it never refuses and always decides is a law (Laws.ToTheEnd)
abbrev pub by_run : Outcome Told → Turned
by_run (answers t) = turned (sign_decided t.decided) 3 t.steps
by_run (refuses number place) = turned (pos 0) 3 0

-- Side 11: the run goes to its end: it has the greatest budget
unfoldable pub exact_of : Point → Point → Point → Turned
unfolding summands_of run_of
exact_of p q r = by_run (run_of (summands_of p q r) most_budget)

abbrev pub by_stage : Early → Turned → Turned
by_stage Level exact = turned (pos 0) 1 0
by_stage Plus exact = turned (pos 1) 2 0
by_stage Minus exact = turned (negsuc 0) 2 0
by_stage Open exact = exact

unfoldable pub turn_of : Point → Point → Point → Turned
unfolding filter_of exact_of
turn_of p q r = by_stage (filter_of p q r) (exact_of p q r)

-- ---- the answer

-- Answer 4: the rules' values, or number and place, for each case of the code's answer
abbrev pub turn_said : Turn → Turned
turn_said t = turned (sign_number t.sign) t.stage t.steps

unfoldable pub said : Result Turn Refusal → Outcome Turned
said r = outcome turn_said r

-- the six coordinates in the order of their places
abbrev pub six_of : Point → Point → Point → List Float
six_of p q r = p.x ∷ p.y ∷ q.x ∷ q.y ∷ r.x ∷ r.y ∷ []

-- Order 5: 3 only, at the place of the first coordinate that is not accepted
unfoldable pub side_of : Point → Point → Point → Outcome Turned
unfolding passing_from accepted_within turn_of
side_of p q r = accepting_from 0 (six_of p q r) (turn_of p q r)

-- the promise of `side`
abbrev pub SideSays : Point → Point → Point → Result Turn Refusal → Type 0
SideSays p q r s = said s ≡ side_of p q r

-- Side 14: the most steps of a side; that they are never more is a law (Laws.Calls)
abbrev pub most_steps : ℕ
most_steps = 480

-- ---- the sign alone

unfoldable pub sign_said : Result Sign Refusal → Outcome ℤ
sign_said r = outcome sign_number r

-- Side 15: the sign of the exact determinant; refused as a side is (Order 5)
unfoldable pub sign_of : Point → Point → Point → Outcome ℤ
unfolding passing_from accepted_within
sign_of p q r = accepting_from 0 (six_of p q r) (sgn (determinant p q r))

-- the promise of `sign`
abbrev pub SignSays : Point → Point → Point → Result Sign Refusal → Type 0
SignSays p q r s = sign_said s ≡ sign_of p q r
