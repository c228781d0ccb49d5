-- `number::numbers::number_at` meets its contract: the groups read, with those that the other bytes begin with, are the number. Assumes
-- nothing.
use Rattle.number.proofs.Laws.Number.{At}
use Rattle.number.proofs.numbers.number_at.Given as goal

abbrev pub invariant-loop-turn : goal.invariant-loop-turn
invariant-loop-turn l = At l.bytes l.start l.rest l.value l.weight l.turn
