-- The ceiling of a list: docs/RULES.md, section Ceiling. The grain u is 2 ^ grain units of 2^-1074.
use Rattle.std.specs.Prelude.{ℕ, ◌+◌, ◌-◌, ◌/◌, ◌^◌, min, ◌≡◌, cond, List, [], ◌∷◌, eqb, Float, Result}
use Rattle.std.specs.Int.Count.{count_trailing_zeros}
use Rattle.std.specs.Float.{binary64}
use Rattle.std.specs.Float.Ieee.{size}
use Rattle.double.specs.Worth.{mag}
use Rattle.refusal.specs.Outcome.{Outcome, outcome}
use Rattle.sum.specs.Limit.{divisor}
use Rattle.sum.specs.Refused.{checked}
use Rattle.refusal.specs.declared.Refusal.{Refusal}

-- a magnitude is below 2 ^ digits units
abbrev pub digits : ℕ
digits = 2098

-- Ceiling 1: the exponent of the largest power of two that divides every entry other than a zero: the fewest zeros that a magnitude in
-- units ends with (Laws.Grain: that power divides, and no larger one); where every entry is a zero, any will do
unfoldable pub grain_of : List Float → ℕ
unfolding count_trailing_zeros
grain_of [] = digits
grain_of (x ∷ xs) = cond (eqb (mag binary64 x) 0) (grain_of xs) (min (count_trailing_zeros digits (mag binary64 x)) (grain_of xs))

-- Ceiling 2: n divided by d and rounded up
abbrev pub round_up : ℕ → ℕ → ℕ
round_up d n = (n + (d - 1)) / d

-- Ceiling 2: all shares: the length of each magnitude over the grain, divided by d and rounded up. Ceiling 3: a zero adds 0
unfoldable pub weight_of : ℕ → ℕ → List Float → ℕ
unfolding size
weight_of d j [] = 0
weight_of d j (x ∷ xs) = round_up d (size (mag binary64 x / 2 ^ j)) + weight_of d j xs

-- Ceiling 2 and 5: the ceiling of the list as handed in, with 43 for d
unfoldable pub ceiling_of : List Float → ℕ
unfolding grain_of weight_of
ceiling_of xs = weight_of divisor (grain_of xs) xs

-- Answer 4: the rules' values, or number and place, for each case of the code's answer
unfoldable pub ceiling_said : Result ℕ Refusal → Outcome ℕ
ceiling_said r = outcome (λ n. n) r

-- what `ceiling` answers. Ceiling 4, that a run with this budget decides and none takes more steps, is a law (Laws.Calls)
unfoldable pub ceiling_answer : List Float → Outcome ℕ
unfolding checked ceiling_of
ceiling_answer xs = checked xs (ceiling_of xs)

-- the promise of `ceiling`
abbrev pub CeilingSays : List Float → Result ℕ Refusal → Type 0
CeilingSays xs r = ceiling_said r ≡ ceiling_answer xs
