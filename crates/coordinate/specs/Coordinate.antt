-- One coordinate of a track file: Track 5, 6 and 9 of docs/RULES.md, with its refusals.
use Rattle.std.specs.Prelude.{◌≡◌, ℕ, List, from_bits, Result}
use Rattle.std.specs.Float.{binary64}
use Rattle.refusal.specs.declared.Refusal.{Refusal}
use Rattle.refusal.specs.Outcome.{Outcome, answers, not_accepted, outcome}
use Rattle.refusal.specs.Judged.{require, also}
use Rattle.point.specs.Accepted.{accepted_of}
use Rattle.number.specs.Number.{number_of}
use Rattle.coordinate.specs.declared.answer.Coordinate.{Coordinate}
use Rattle.coordinate.specs.Difference.{restored_of}

-- Track 9: the coordinate of a pattern whose number begins at `start`; refused 3 there where it is not accepted
unfoldable pub judged_of : ℕ → ℕ → ℕ → Outcome Coordinate
judged_of pattern start next =
    also (require (accepted_of (from_bits binary64 pattern)) not_accepted start) (λ _.
    answers (record { value = from_bits binary64 pattern; pattern = pattern; next = next }))

-- Order 8: the coordinate whose number begins at `start`: 6 or 7 for the number, then 3
unfoldable pub coordinate_of : List ℕ → ℕ → ℕ → Outcome Coordinate
unfolding number_of restored_of judged_of
coordinate_of bytes start before = also (number_of bytes start) (λ n. judged_of (restored_of n.value before) start n.next)

-- Answer 4: the rules' values, or number and place, for each case of the code's answer
abbrev pub heard : Result Coordinate Refusal → Outcome Coordinate
heard r = outcome (λ c. c) r

-- Order 8, the promise: the coordinate at an offset, or the refusal
abbrev pub CoordinateSays : List ℕ → ℕ → ℕ → Result Coordinate Refusal → Type 0
CoordinateSays bytes start before r = heard r ≡ coordinate_of bytes start before
