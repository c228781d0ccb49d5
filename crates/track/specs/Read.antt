-- What the reader answers for any bytes: Track 11 and Order 8 of docs/RULES.md.
use Rattle.std.specs.Prelude.{ℕ, ◌*◌, ◌/◌, ◌≡◌, List, leb, length, Float, Result}
use Rattle.refusal.specs.declared.Refusal.{Refusal}
use Rattle.refusal.specs.Outcome.{Outcome, answers, too_many, no_room, outcome}
use Rattle.refusal.specs.Judged.{require, also, filled}
use Rattle.number.specs.declared.answer.Number.{Number}
use Rattle.number.specs.Number.{number_of}
use Rattle.track.specs.Scan.{scan_from, values}
use Rattle.track.specs.File.{limit}

-- the values of the last n coordinates of a file, or the refusal that stopped the scan of them
unfoldable pub coordinates_of : List ℕ → ℕ → ℕ → ℕ → ℕ → Outcome (List Float)
unfolding scan_from
coordinates_of bytes start before other n =
    let s = scan_from bytes start before other n in
    also s.stop (λ _. answers (values s.coordinates))

-- Order 8: what follows the number of points: 1, then 9 where the list is shorter than two entries per point, then the coordinates
unfoldable pub counted_of : ℕ → List ℕ → Number → ℕ → Outcome (List Float)
unfolding coordinates_of
counted_of most bytes count room =
    also (require (leb count.value most) too_many 0) (λ _.
    also (require (leb (2 * count.value) room) no_room 0) (λ _.
    coordinates_of bytes count.next 0 0 (2 * count.value)))

-- Order 8: the points that a file holds, or the refusal, for at most `most` points and `room` lent entries: 6 or 7 of the count first
unfoldable pub read_of : ℕ → List ℕ → ℕ → Outcome (List Float)
unfolding number_of counted_of
read_of most bytes room = also (number_of bytes 0) (λ count. counted_of most bytes count room)

-- Track 11: the number of points is answered
abbrev pub points_said : Outcome (List Float) → Outcome ℕ
points_said o = also o (λ points. answers (length points / 2))

-- Answer 4: the rules' values, or number and place, for each case of the code's answer
abbrev pub said : Result ℕ Refusal → Outcome ℕ
said r = outcome (λ n. n) r

-- Track 11, the promise: the answer, and every lent entry: the first two for each point are filled, later ones stay
pub record ReadSays (bytes : List ℕ) (lent : List Float) (r : Result ℕ Refusal) (left : List Float) : Type 0 where
  pub answer : said r ≡ points_said (read_of limit bytes (length lent))
  pub entries : left ≡ filled (read_of limit bytes (length lent)) lent
