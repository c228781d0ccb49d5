-- Its three parts stand one after the other.
use Rattle.std.proofs.Common.{arith}
use Rattle.ground.specs.Reason.{on_border}
use Rattle.serve.specs.Reasons.{reason_text}
use Rattle.serve.proofs.Laws.Reasons.{border_corner, border_between}
use Rattle.serve.proofs.Laws.Text.{puts_as, puts_then}
use Rattle.serve.proofs.text.Text.put_border.Goals as goal

pub returns-then-m : goal.returns-then-m
returns-then-m c =
    let m = c.args.m in
    puts_as 58 (reason_text (on_border m.edge m.corner))
    (puts_then (puts_then c.put.ensures c.put_decimal.ensures) c.put-then-m.ensures)
    (omega arith) (border_corner m.edge m.corner c.if-m.true)

pub returns : goal.returns
returns c =
    let m = c.args.m in
    puts_as 58 (reason_text (on_border m.edge m.corner))
    (puts_then (puts_then c.put.ensures c.put_decimal.ensures) c.put-2.ensures)
    (omega arith) (border_between m.edge m.corner c.if-m.false)
