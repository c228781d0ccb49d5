-- How a path piece and a crease meet: the word that holds of what their points are worth, or a refusal.
use Rattle.std.specs.Prelude.{◌≡◌, List, [], ◌∷◌, Float, Err, Ok, Result}
use Rattle.ground.specs.Edge.{Edge, edge}
use Rattle.refusal.specs.Outcome.{Outcome, outcome}
use Rattle.refusal.specs.declared.Refusal.{Refusal}
use Rattle.point.specs.Accepted.{accepting_from}
use Rattle.point.specs.Spot.{spot_of}
use Rattle.pieces.specs.Meeting as words
use Rattle.meeting.specs.declared.answer.Piece.{Piece}
use Rattle.meeting.specs.declared.answer.Meeting.{Meeting}
use Rattle.meeting.specs.declared.answer.Meeting.TheVariants.{Apart, Touching, Crossing, Overlapping}

-- Meeting 1: a piece by what its ends are worth, in units
abbrev pub edge_of : Piece → Edge
edge_of a = edge (spot_of a.from) (spot_of a.to)

-- ---- the answer

-- Answer 4: the rules' word for each of the code's
abbrev pub meeting_said : Meeting → words.Meeting
meeting_said Apart = words.apart
meeting_said Touching = words.touching
meeting_said Crossing = words.crossing
meeting_said Overlapping = words.overlapping

-- the eight coordinates in the order of their places
abbrev pub eight_of : Piece → Piece → List Float
eight_of a b = a.from.x ∷ a.from.y ∷ a.to.x ∷ a.to.y ∷ b.from.x ∷ b.from.y ∷ b.to.x ∷ b.to.y ∷ []

-- Order 13: 3 only, at the place of the first coordinate that is not accepted
abbrev pub judging_of : Piece → Piece → Outcome Unit
judging_of a b = accepting_from 0 (eight_of a b) tt

-- Meeting 5 to 8: the word that is answered holds of the two pieces; a refusal says nothing of them
abbrev pub Tells : Result Meeting Refusal → Edge → Edge → Type 0
Tells (Ok m) a b = words.Holds (meeting_said m) a b
Tells (Err r) a b = Unit {0}

-- the promise of `meet`: it is refused as Order 13 says and not otherwise, and a word that is answered holds
pub record MeetSays (path crease : Piece) (m : Result Meeting Refusal) : Type 0 where
  pub judged : outcome (λ _. tt) m ≡ judging_of path crease
  pub word : Tells m (edge_of path) (edge_of crease)
