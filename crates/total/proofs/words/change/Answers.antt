-- `total::words::change` meets its contract: 1 at most goes over the two words, and then goes on behind them. Assumes nothing.
use Rattle.std.proofs.Common.{ap}
use Rattle.std.specs.Int.{from_bool}
use Rattle.total.specs.Words.{base}
use Rattle.total.proofs.Laws.Changed.{change_ends, change_goes}
use Rattle.total.proofs.words.change.Goals as goal

pub returns-then-over : goal.returns-then-over
returns-then-over c =
    change_goes base _ _ _ _ _ _ _ _ _ c.requires.0 c.stored-first.ensures c.stored-second.ensures _ (ap from_bool c.if-over.true) c.carry.ensures

pub returns-else-over : goal.returns-else-over
returns-else-over c =
    change_ends base _ _ _ _ _ _ _ _ _ c.requires.0 c.stored-first.ensures c.stored-second.ensures (ap from_bool c.if-over.false)
