-- `meetings::meet` meets its contract: the first coordinate that is not accepted is refused, and otherwise the word is found. Assumes nothing.
use mathlib.Core.Path.{sym, ap, subst, ◌∙◌}
use Rattle.std.proofs.lemmas.Result.{err_from_is_err_and}
use Rattle.refusal.specs.Outcome.{outcome}
use Rattle.geometry.proofs.Laws.Owned.{owned_doubles}
use Rattle.pieces.specs.Meeting.{Meeting, Holds}
use Rattle.pieces.proofs.Laws.Decided.{decided_holds}
use Rattle.meeting.specs.Meet.{edge_of}
use Rattle.meeting.proofs.Laws.Calls.{judged_accepted}
use Rattle.meeting.proofs.meetings.meet.Goals as goal

pub returns-in_err-all_accepted : goal.returns-in_err-all_accepted
returns-in_err-all_accepted c =
    let p = err_from_is_err_and c.from_residual.result c.from_residual.ensures.1 in
    rw (p.1, p.2) (record { judged = ap (outcome (λ u. u)) (sym c.in_err-all_accepted.was) ∙ c.all_accepted.ensures; word = tt })

pub decide-requires : goal.decide-requires
decide-requires c =
    let (p, q, r, s) = judged_accepted _ _ (sym c.all_accepted.ensures ∙ ap (outcome (λ u. u)) c.in_ok-all_accepted.was) in
    let path = c.well_formed.0.1.1 in
    let crease = c.well_formed.1.0.1.1 in
    let a = path.0.1.1 in
    let b = path.1.0.1.1 in
    let d = crease.0.1.1 in
    let e = crease.1.0.1.1 in (
      record { from = p; to = q; from_held = owned_doubles _ a.0.1 a.1.0.1; to_held = owned_doubles _ b.0.1 b.1.0.1 },
      record { from = r; to = s; from_held = owned_doubles _ d.0.1 d.1.0.1; to_held = owned_doubles _ e.0.1 e.1.0.1 },
    )

pub returns : goal.returns
returns c =
    record {
      judged = ap (outcome (λ u. u)) (sym c.in_ok-all_accepted.was) ∙ c.all_accepted.ensures;
      word = subst (λ (w : Meeting). Holds w (edge_of c.args.path) (edge_of c.args.crease)) (sym c.decide.ensures) (decided_holds _ _);
    }
