-- What a refusal says of the points alone: the words of the laws about the call (Laws.Calls).
use Rattle.std.specs.Prelude.{ℕ, ◌≡◌}
use Rattle.std.specs.Float.{nan}
use Rattle.refusal.specs.Outcome.{not_accepted}
use Rattle.refusal.specs.Search.{IsFirst}
use Rattle.point.specs.Accepted.{accepted_of}
use Rattle.meeting.specs.declared.answer.Piece.{Piece}
use Rattle.meeting.specs.Meet.{eight_of}

-- a meeting is refused with this number and place
abbrev pub MeetRefusedAs : Piece → Piece → ℕ → ℕ → Type 0
MeetRefusedAs path crease number place = (number ≡ not_accepted) × IsFirst accepted_of nan (eight_of path crease) place
