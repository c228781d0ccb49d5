-- What `meet` answers, for the replay desk: laws of whatever keeps its promise. Points count by what they are worth, so that -0 is +0. In order: where the
-- same word holds; pieces of the same worth; the path and the crease exchanged; either of them turned round.
-- Not here: which calls are refused, and what each word says (meeting's `Calls`). Assumes nothing.
use mathlib.Core.Path.{◌≡◌, ap, ◌∙◌, subst}
use Rattle.ground.specs.Edge.{Edge}
use Rattle.pieces.specs.Meeting.{Holds}
use Rattle.pieces.proofs.Laws.Words.{holds_exchanged, holds_turned, holds_second_turned}
use Rattle.point.specs.Accepted.{Accepted}
use Rattle.meeting.specs.Meet.{edge_of, meeting_said, MeetSays}
use Rattle.meeting.specs.declared.answer.Piece.{Piece}
use Rattle.meeting.specs.declared.answer.Meeting.{Meeting}
use Rattle.meeting.proofs.Laws.Calls.{meet_answers, meet_accepted, meet_holds, meet_iff}
use Rattle.laws.specs.Pieces.{turned_piece}
use Rattle.refusal.specs.declared.Refusal.{Refusal}
use Rattle.std.specs.Prelude.{Ok, Result}

-- another question of accepted points, of which the same word holds, is answered the same
same_word : (c d : Piece) (v : Meeting) (n : Result Meeting Refusal) → Accepted c.from × Accepted c.to × Accepted d.from × Accepted d.to
    → Holds (meeting_said v) (edge_of c) (edge_of d) → MeetSays c d n → n ≡ Ok v
same_word c d v n (P, Q, R, S) h k =
    let (w, e) = meet_answers c d n P Q R S k in
    e ∙ ap Ok ((meet_iff c d w (subst (MeetSays c d) e k) v).1 h)

module _ (a b : Piece) (v : Meeting) (h : MeetSays a b (Ok v)) where
  -- ---- accepted pieces of the same worth: the same answer, so that a -0 for a +0 changes none
  pub meet_by_value : (c d : Piece) (n : Result Meeting Refusal) → Accepted c.from × Accepted c.to × Accepted d.from × Accepted d.to
      → edge_of a ≡ edge_of c → edge_of b ≡ edge_of d → MeetSays c d n → n ≡ Ok v
  meet_by_value c d n accepted e f k =
      same_word c d v n accepted
      (subst (λ (i : Edge). Holds (meeting_said v) i (edge_of d)) e (subst (λ (i : Edge). Holds (meeting_said v) (edge_of a) i) f (meet_holds a b v h))) k

  -- ---- the two exchanged
  pub meet_exchanged : (n : Result Meeting Refusal) → MeetSays b a n → n ≡ Ok v
  meet_exchanged n k =
      let (P, Q, R, S) = meet_accepted a b v h in
      same_word b a v n (R, S, P, Q) (holds_exchanged (meeting_said v) (edge_of a) (edge_of b) (meet_holds a b v h)) k

  -- ---- the path from its other end
  pub meet_turned : (n : Result Meeting Refusal) → MeetSays (turned_piece a) b n → n ≡ Ok v
  meet_turned n k =
      let (P, Q, R, S) = meet_accepted a b v h in
      same_word (turned_piece a) b v n (Q, P, R, S) (holds_turned (meeting_said v) (edge_of a) (edge_of b) (meet_holds a b v h)) k

  -- the crease
  pub meet_crease_turned : (n : Result Meeting Refusal) → MeetSays a (turned_piece b) n → n ≡ Ok v
  meet_crease_turned n k =
      let (P, Q, R, S) = meet_accepted a b v h in
      same_word a (turned_piece b) v n (P, Q, S, R) (holds_second_turned (meeting_said v) (edge_of a) (edge_of b) (meet_holds a b v h)) k
