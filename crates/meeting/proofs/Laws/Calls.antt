-- The demands, of whatever keeps the promise of `meet`: nothing here speaks of how it works. In order: which calls are refused, with what place;
-- accepted points are answered; an answered call: the word holds, and no other does; no two results satisfy the promise. Assumes nothing.
use mathlib.Core.Path.{◌≡◌, refl, sym, ap, ◌∙◌, subst}
use mathlib.Core.Logic.{◌↔◌}
use native.Mathlib.Omega.{arith}
use Rattle.std.specs.Prelude.{Err, Ok, Result}
use Rattle.refusal.specs.Outcome.{answers, Fixes, kind_number, outcome}
use Rattle.refusal.specs.Search.{passing_from}
use Rattle.refusal.specs.declared.Refusal.{Refusal}
use Rattle.refusal.proofs.Laws.Outcome.{outcome_refused, no_refusal}
use Rattle.point.specs.Accepted.{Accepted}
use Rattle.geometry.proofs.Laws.Accepting.{accepting_refused, accepting_answered}
use Rattle.pieces.specs.Meeting as words
use Rattle.pieces.proofs.Laws.Words.{one_word}
use Rattle.meeting.specs.Meet.{edge_of, meeting_said, eight_of, judging_of, MeetSays}
use Rattle.meeting.specs.Reasons.{MeetRefusedAs}
use Rattle.meeting.specs.declared.answer.Piece.{Piece}
use Rattle.meeting.specs.declared.answer.Meeting.{Meeting}
use Rattle.meeting.specs.declared.answer.Meeting.TheVariants.{Apart, Touching, Crossing, Overlapping}

-- ---- which calls are refused: 3, at the first of the eight coordinates that is not accepted
pub meet_refused : (a b : Piece) (m : Result Meeting Refusal) → MeetSays a b m
    → (f : Refusal) → (m ≡ Err f) ↔ MeetRefusedAs a b (kind_number f.kind) f.place
meet_refused a b m h f =
    let law = accepting_refused (eight_of a b) tt (kind_number f.kind) f.place in (
      λ e. law.0 (sym h.judged ∙ ap (outcome (λ _. tt)) e),
      λ w. outcome_refused (λ _. tt) m f (h.judged ∙ law.1 w),
    )

-- accepted points are answered
pub meet_answers : (a b : Piece) (m : Result Meeting Refusal) → Accepted a.from → Accepted a.to → Accepted b.from → Accepted b.to
    → MeetSays a b m → (w : Meeting) × (m ≡ Ok w)
unfolding passing_from
meet_answers a b (Ok w) P Q R S h = (w, refl)
meet_answers a b (Err f) P Q R S h = no_refusal (h.judged ∙ answered)
  where
    answered : judging_of a b ≡ answers tt
    answered = rw (P.x, P.y, Q.x, Q.y, R.x, R.y, S.x, S.y)

-- and only they are
pub judged_accepted : (a b : Piece) → judging_of a b ≡ answers tt → Accepted a.from × Accepted a.to × Accepted b.from × Accepted b.to
judged_accepted a b e =
    let all = accepting_answered (eight_of a b) tt e in (
      record { x = all 0 (omega arith); y = all 1 (omega arith) },
      record { x = all 2 (omega arith); y = all 3 (omega arith) },
      record { x = all 4 (omega arith); y = all 5 (omega arith) },
      record { x = all 6 (omega arith); y = all 7 (omega arith) },
    )

-- ---- a word of the code by what it says
word_of : words.Meeting → Meeting
word_of words.apart = Apart
word_of words.touching = Touching
word_of words.crossing = Crossing
word_of words.overlapping = Overlapping

word_back : (m : Meeting) → word_of (meeting_said m) ≡ m
unfolding word_of
word_back Apart = refl
word_back Touching = refl
word_back Crossing = refl
word_back Overlapping = refl

word_once : (v m : Meeting) → meeting_said v ≡ meeting_said m → v ≡ m
word_once v m e = sym (word_back v) ∙ ap word_of e ∙ word_back m

-- ---- an answered call
module _ (a b : Piece) (w : Meeting) (h : MeetSays a b (Ok w)) where
  pub meet_accepted : Accepted a.from × Accepted a.to × Accepted b.from × Accepted b.to
  meet_accepted = judged_accepted a b (sym h.judged)

  -- the word holds of the shared places
  pub meet_holds : words.Holds (meeting_said w) (edge_of a) (edge_of b)
  meet_holds = h.word

  -- and is answered exactly where it holds
  pub meet_iff : (m : Meeting) → (w ≡ m) ↔ words.Holds (meeting_said m) (edge_of a) (edge_of b)
  meet_iff m = (
    (λ e. subst (λ (n : Meeting). words.Holds (meeting_said n) (edge_of a) (edge_of b)) e meet_holds),
    (λ k. word_once w m (one_word (edge_of a) (edge_of b) (meeting_said w) (meeting_said m) meet_holds k)),
  )

-- ---- no two results satisfy the promise
pub meet_fixed : (a b : Piece) → Fixes (λ (m : Result Meeting Refusal). MeetSays a b m)
meet_fixed a b (Ok v) (Ok w) h k =
    ap Ok (word_once v w (one_word (edge_of a) (edge_of b) (meeting_said v) (meeting_said w) h.word k.word))
meet_fixed a b (Ok v) (Err g) h k = no_refusal (k.judged ∙ sym h.judged)
meet_fixed a b (Err f) m h k = sym (outcome_refused (λ _. tt) m f (k.judged ∙ sym h.judged))
