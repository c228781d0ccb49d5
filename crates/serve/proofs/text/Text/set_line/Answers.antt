-- The reason stands after the release.
use Rattle.std.proofs.Common.{◌∙◌}
use Rattle.serve.proofs.Laws.Reasons.{line_is}
use Rattle.serve.proofs.Laws.Text.{puts_then}
use Rattle.serve.proofs.text.Text.set_line.Goals as goal

pub returns : goal.returns
returns c =
    let all = puts_then c.put_decimal.ensures c.put_reason.ensures in
    rw c.clear.ensures at all.stands ∙ line_is _ _ _
