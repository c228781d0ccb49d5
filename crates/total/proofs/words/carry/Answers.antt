-- `total::words::carry` meets its contract. The loop's invariant: 1 is still to be added, or taken away, at this word. Assumes nothing.
use Rattle.std.proofs.Common.{◌<◌, length, ap, arith}
use Rattle.std.specs.Int.{from_bool}
use Rattle.total.specs.Words.{base}
use Rattle.total.proofs.Laws.Changed.{stored_ends, stored_goes, changed_whole, changed_past}
use Rattle.total.proofs.words.carry.Goals as goal

pub returns-then-not-over : goal.returns-then-not-over
returns-then-not-over c =
    let inside : c.loop-word.word-index < length c.loop-word.words = omega arith in
    changed_whole base _ _ _ _
    (stored_ends base _ _ inside _ _ _ _ _ c.stored-after.ensures c.loop-word.invariant (ap from_bool c.if-not-over.true))

pub loop-word-preserved : goal.loop-word-preserved
loop-word-preserved c =
    let inside : c.loop-word.word-index < length c.loop-word.words = omega arith in
    stored_goes base _ _ inside _ _ _ _ _ c.stored-after.ensures c.loop-word.invariant (ap from_bool c.if-not-over.false)

pub returns : goal.returns
returns c =
    changed_past base _ _ _ _ c.loop-word.word-index _ _ (omega arith) c.loop-word.invariant
