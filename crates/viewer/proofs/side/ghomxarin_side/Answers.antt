-- By what `geometry::side` promises.
use Rattle.std.proofs.Common.{◌∙◌}
use Rattle.viewer.proofs.Laws.Entries.{side_entry_turn, side_entry_refused}
use Rattle.viewer.proofs.side.ghomxarin_side.Goals as goal

pub returns-in-Ok : goal.returns-in-Ok
returns-in-Ok c =
    c.sign_answer.ensures
    ∙ side_entry_turn _ _ _ _ _ _ _ _ _ c.point_of-p.ensures c.point_of-q.ensures c.point_of-r.ensures _ c.in-Ok.ensures

pub returns-in-Err : goal.returns-in-Err
returns-in-Err c =
    c.refusal_answer.ensures
    ∙ side_entry_refused _ _ _ _ _ _ _ _ _ c.point_of-p.ensures c.point_of-q.ensures c.point_of-r.ensures _ c.in-Err.ensures
