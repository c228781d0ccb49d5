-- The length is judged first, and the rest is what `geometry::zone` promises.
use Rattle.std.proofs.Common.{◌∙◌}
use Rattle.viewer.proofs.Laws.Entries.{zone_entry_odd, zone_entry_few, zone_entry_many, zone_entry_place, zone_entry_refused}
use Rattle.viewer.proofs.zone.ghomxarin_zone.Goals as goal

pub returns-then-corners-ne0 : goal.returns-then-corners-ne0
returns-then-corners-ne0 c = c.refusal_answer.ensures ∙ zone_entry_odd _ _ _ c.if-corners-ne0.true

pub returns-then-n-lt-FEWEST : goal.returns-then-n-lt-FEWEST
returns-then-n-lt-FEWEST c = c.refusal_answer-then-n-lt-FEWEST.ensures ∙ zone_entry_few _ _ _ c.if-corners-ne0.false c.if-n-lt-FEWEST.true

pub returns-then-n-gt-MOST : goal.returns-then-n-gt-MOST
returns-then-n-gt-MOST c =
    c.refusal_answer-then-n-gt-MOST.ensures ∙ zone_entry_many _ _ _ c.if-corners-ne0.false c.if-n-lt-FEWEST.false c.if-n-gt-MOST.true

pub returns-in-Ok : goal.returns-in-Ok
returns-in-Ok c =
    c.place_answer.ensures
    ∙ zone_entry_place _ _ _ c.if-corners-ne0.false _ _ c.point_of.ensures c.decode.ensures _ c.in-Ok.ensures

pub returns-in-Err : goal.returns-in-Err
returns-in-Err c =
    c.refusal_answer-in-Err.ensures
    ∙ zone_entry_refused _ _ _ c.if-corners-ne0.false _ _ c.point_of.ensures c.decode.ensures _ c.in-Err.ensures
