-- The zone, judged from the bytes of its file: Desk 9 and Order 10 of docs/RULES.md.
use Rattle.std.specs.Prelude.{ℕ, ◌*◌, ◌/◌, ◌≡◌, List, leb, length, Float, Result}
use Rattle.refusal.specs.declared.Refusal.{Refusal}
use Rattle.refusal.specs.Outcome.{Outcome, answers, too_many, too_few_corners, outcome}
use Rattle.refusal.specs.Judged.{require, also}
use Rattle.geometry.specs.Zone.{fewest, most}
use Rattle.track.specs.File.{limit}
use Rattle.track.specs.Read.{read_of, points_said}

-- what a file holds, read into room for the most points, two entries for each (Track 11)
abbrev pub file_holds : List ℕ → Outcome (List Float)
file_holds bytes = read_of limit bytes (2 * limit)

-- Order 10: the corners of a zone's file, or its refusal: the reader's, then 4, then 1
unfoldable pub zone_file_of : List ℕ → Outcome (List Float)
zone_file_of bytes =
    also (file_holds bytes) (λ corners.
    also (require (leb fewest (length corners / 2)) too_few_corners 0) (λ _.
    also (require (leb (length corners / 2) most) too_many 0) (λ _.
    answers corners)))

-- Answer 4: the rules' values, or number and place, for each case of the code's answer
abbrev pub judged_said : Result ℕ Refusal → Outcome ℕ
judged_said r = outcome (λ n. n) r

-- Desk 9, the promise: the number of corners, or the refusal
abbrev pub JudgeSays : List ℕ → Result ℕ Refusal → Type 0
JudgeSays zone r = judged_said r ≡ points_said (zone_file_of zone)
