-- By what the judge says.
use Rattle.std.proofs.Common.{◌∙◌}
use Rattle.serve.proofs.Laws.Printed.{corners_printed, refused_printed}
use Rattle.serve.proofs.text.text_without.Goals as goal

pub returns-in-Ok : goal.returns-in-Ok
returns-in-Ok c = c.set.ensures ∙ corners_printed _ _ c.judge.ensures _ c.in-Ok.is

pub returns-in-Err : goal.returns-in-Err
returns-in-Err c = c.set_refusal.ensures ∙ refused_printed _ _ c.judge.ensures _ c.in-Err.is _
