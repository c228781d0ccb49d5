-- What the writer answers: Track 10 and Order 7 of docs/RULES.md.
use Rattle.std.specs.Prelude.{ℕ, ◌*◌, ◌%◌, ◌<◌, ◌≡◌, true, List, eqb, leb, length, get_or, Float, Result}
use Rattle.std.specs.Float.{nan}
use Rattle.refusal.specs.declared.Refusal.{Refusal}
use Rattle.refusal.specs.Outcome.{Outcome, answers, odd_length, too_many, no_room, outcome}
use Rattle.refusal.specs.Search.{passing_from}
use Rattle.refusal.specs.Judged.{require, also, filled}
use Rattle.point.specs.Accepted.{accepted_within, accepted_of, accepting_from}
use Rattle.track.specs.File.{limit, file_of}

-- Refusals 3: a coordinate that is not accepted, at its index, for a list that begins at index i
abbrev pub accepted_from : ℕ → List Float → Outcome Unit
accepted_from i points = accepting_from i points tt

-- Order 7: the file's bytes, or the refusal: 5, 1, 3, 9, for at most `most` points and `room` lent bytes
unfoldable pub write_of : ℕ → List Float → ℕ → Outcome (List ℕ)
unfolding passing_from accepted_within file_of
write_of most points room =
    also (require (eqb (length points % 2) 0) odd_length 0) (λ _.
    also (require (leb (length points) (2 * most)) too_many 0) (λ _.
    also (accepted_from 0 points) (λ _.
    also (require (leb (length (file_of points)) room) no_room 0) (λ _.
    answers (file_of points)))))

-- Track 10: the length of the file is answered
abbrev pub length_said : Outcome (List ℕ) → Outcome ℕ
length_said o = also o (λ file. answers (length file))

-- Answer 4: the rules' values, or number and place, for each case of the code's answer
abbrev pub said : Result ℕ Refusal → Outcome ℕ
said r = outcome (λ n. n) r

-- Track 10, the promise: the answer, and every lent byte: the file at their start, and what is behind it as it was
pub record WriteSays (points : List Float) (lent : List ℕ) (r : Result ℕ Refusal) (left : List ℕ) : Type 0 where
  pub answer : said r ≡ length_said (write_of limit points (length lent))
  pub bytes : left ≡ filled (write_of limit points (length lent)) lent

-- every coordinate is accepted
abbrev pub AllAccepted : List Float → Type 0
AllAccepted points = (i : ℕ) → i < length points → accepted_of (get_or points i nan) ≡ true
