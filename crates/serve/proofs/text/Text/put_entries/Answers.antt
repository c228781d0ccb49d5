use Rattle.std.proofs.Common.{arith}
use Rattle.serve.proofs.Laws.Reasons.{entering_turn, entering_done}
use Rattle.serve.proofs.text.Text.put_entries.Goals as goal

pub loop-entry-preserved : goal.loop-entry-preserved
loop-entry-preserved c = entering_turn _ _ _ _ c.loop-entry.invariant c.loop-entry-test.true _ c.put_entry.ensures

pub returns : goal.returns
returns c = entering_done _ _ _ _ c.loop-entry.invariant (omega arith)
