-- `report::places::put_codes` meets its contract: the codes of i releases stand. Assumes nothing.
use native.Mathlib.Omega.{arith}
use Rattle.report.proofs.Laws.Codes.{coding_start, coding_turn, coding_done, accepted_at}
use Rattle.report.proofs.places.put_codes.Goals as goal

pub loop-i-init : goal.loop-i-init
loop-i-init c = coding_start _ _ _ (omega arith)

pub code_at-requires : goal.code_at-requires
code_at-requires c = (c.requires.0, accepted_at c.args.releases.now c.loop-i.i c.requires.1 (omega arith))

pub loop-i-preserved : goal.loop-i-preserved
loop-i-preserved c = coding_turn _ _ _ _ c.loop-i.invariant (omega arith) _ c.code_at.ensures

pub returns : goal.returns
returns c = coding_done _ _ _ _ c.loop-i.invariant (omega arith)
