-- A run: looks and steps, as far as a budget goes; and what `run` promises: Sum 13 to 17 of docs/RULES.md.
use Rattle.std.specs.Prelude.{ℕ, zero, suc, ◌+◌, ◌-◌, ◌^◌, ◌<◌, ◌≡◌, List, ℤ, Float, None, Option, Result, Some}
use Rattle.refusal.specs.Outcome.{Outcome, outcome}
use Rattle.refusal.specs.Judged.{leaves}
use Rattle.sum.specs.Refused.{checked}
use Rattle.sum.specs.Total.{sign_number}
use Rattle.sum.specs.Look.{verdict_of}
use Rattle.sum.specs.Step.{step_of}
use Rattle.sum.specs.declared.answer.Sign.{Sign}
use Rattle.refusal.specs.declared.Refusal.{Refusal}
use Rattle.sum.specs.declared.answer.Ran.{Ran}

-- where a run ends: the verdict, the steps taken and the list
pub record Reached : Type 0 where
  pub verdict : Option Sign
  pub steps : ℕ
  pub left : List Float

abbrev pub reached : Option Sign → ℕ → List Float → Reached
reached v k xs = record { verdict = v; steps = k; left = xs }

-- Sum 13: looks, and steps while the look is undecided and steps are left: `more` are left of the budget, k are taken
unfoldable pub ran_from : ℕ → ℕ → List Float → Reached
unfolding verdict_of step_of
ran_from zero k xs = reached (verdict_of xs) k xs
ran_from (suc more) k xs = elim (verdict_of xs) [ Some s ↦ reached (Some s) k xs | None ↦ ran_from more (k + 1) (step_of xs) ]

-- the list after n steps, whatever a look at it decides
unfoldable pub after : ℕ → List Float → List Float
unfolding step_of
after zero xs = xs
after (suc n) xs = after n (step_of xs)

-- Sum 17: the steps that settle a list, whatever the budget: a look decides after n of them, and after no fewer
pub record Settles (xs : List Float) (n : ℕ) : Type 0 where
  pub decides : (s : Sign) × (verdict_of (after n xs) ≡ Some s)
  pub before : (i : ℕ) → i < n → verdict_of (after i xs) ≡ None

-- Sum 13: the greatest budget, a count of 32 bits
abbrev pub most_budget : ℕ
most_budget = 2 ^ 32 - 1

-- ---- the answer

-- Sum 14: the sign, or undecided; and with it the steps
pub data Decision : Type 0 where
  sign : ℤ → Decision
  undecided : Decision

abbrev pub decision : Option Sign → Decision
decision (Some s) = sign (sign_number s)
decision None = undecided

pub record Told : Type 0 where
  pub decided : Decision
  pub steps : ℕ

abbrev pub told : Option Sign → ℕ → Told
told v k = record { decided = decision v; steps = k }

-- Answer 4: the rules' values, or number and place, for each case of the code's answer
unfoldable pub said : Result Ran Refusal → Outcome Told
said r = outcome (λ r. told r.verdict r.steps) r

-- Sum 14: what `run` answers. Sum 16: undecided if and only if the look after all steps of the budget is; with Sum 17 a law (Laws.Calls)
unfoldable pub run_of : List Float → ℕ → Outcome Told
unfolding checked ran_from
run_of xs budget = checked xs (told (ran_from budget 0 xs).verdict (ran_from budget 0 xs).steps)

-- Sum 15: the list as the steps leave it; a refused call leaves it as it was
unfoldable pub left_of : List Float → ℕ → List Float
unfolding run_of ran_from
left_of xs budget = leaves (run_of xs budget) (λ _. (ran_from budget 0 xs).left) xs

-- the promise of `run`: the answer, and every entry of the list
pub record RunSays (xs : List Float) (budget : ℕ) (r : Result Ran Refusal) (after : List Float) : Type 0 where
  pub answer : said r ≡ run_of xs budget
  pub left : after ≡ left_of xs budget
