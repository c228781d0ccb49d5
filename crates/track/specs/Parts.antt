-- What inner functions of the writer and the reader find: believed by no reader, since the laws of the calls say what both do.
use Rattle.std.specs.Prelude.{ℕ, ◌≡◌, List, length, Float, Result}
use Rattle.refusal.specs.declared.Refusal.{Refusal}
use Rattle.refusal.specs.Outcome.{Outcome, answers, outcome}
use Rattle.refusal.specs.Search.{passing_from}
use Rattle.refusal.specs.Judged.{also, filled}
use Rattle.point.specs.Accepted.{accepted_within}
use Rattle.number.specs.declared.answer.Number.{Number}
use Rattle.track.specs.File.{limit, coordinate_bytes}
use Rattle.track.specs.Write.{accepted_from}
use Rattle.track.specs.Read.{counted_of, points_said, said}

-- the length of the coordinates' bytes, or the first coordinate that is not accepted
unfoldable pub measure_of : List Float → Outcome ℕ
unfolding passing_from accepted_within coordinate_bytes
measure_of points = also (accepted_from 0 points) (λ _. answers (length (coordinate_bytes 0 0 points)))

-- Answer 4: the rules' values, or number and place, for each case of the code's answer
abbrev pub measured : Result ℕ Refusal → Outcome ℕ
measured r = outcome (λ n. n) r

-- the same promise of a part of the reader, whose outcome is o
pub record Promised (o : Outcome (List Float)) (lent : List Float) (r : Result ℕ Refusal) (left : List Float) : Type 0 where
  pub answer : said r ≡ points_said o
  pub entries : left ≡ filled o lent

-- of what follows the count
abbrev pub CountedSays : List ℕ → Number → List Float → Result ℕ Refusal → List Float → Type 0
CountedSays bytes count lent r left = Promised (counted_of limit bytes count (length lent)) lent r left

-- what decoding to a list comes to, by the code's answer and what stands in the list
abbrev pub decoded : Result Unit Refusal → List Float → Outcome (List Float)
decoded r list = outcome (λ _. list) r
