use Rattle.serve.proofs.Laws.Text.{writing_start, writing_turn, writing_done}
use Rattle.serve.proofs.text.Text.set_releases.Goals as goal

pub loop-i-init : goal.loop-i-init
loop-i-init c = writing_start _ _ c.set_header.ensures

pub loop-i-preserved : goal.loop-i-preserved
loop-i-preserved c = writing_turn _ _ _ c.loop-i.invariant c.loop-i-test.true _ c.put_line.ensures

pub returns : goal.returns
returns c = writing_done _ _ _ c.loop-i.invariant c.loop-i-test.false
