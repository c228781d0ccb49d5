-- `track::writer::measure` meets its contract: the bytes measured, with those of the coordinates to come, are all. Assumes nothing.
use mathlib.Core.Path.{sym, ap, ◌∙◌}
use native.Mathlib.Omega.{arith}
use lib.ListN.{length}
use Rattle.number.specs.Number.{written_of}
use Rattle.number.proofs.Laws.Written.{written_length}
use Rattle.coordinate.proofs.Laws.Coordinate.{accepted_number}
use Rattle.track.proofs.Laws.Write.{measuring_start, measuring_turn, measuring_refused, measuring_done}
use Rattle.track.proofs.writer.measure.Goals as goal

pub loop-place-init : goal.loop-place-init
loop-place-init c = measuring_start _

pub returns-then-not-accepted : goal.returns-then-not-accepted
returns-then-not-accepted c =
    rw c.refused.ensures (measuring_refused _ _ _ _ _ c.loop-place.invariant c.loop-place-test.true
    (sym c.accepted.ensures ∙ c.if-not-accepted.true))

pub float_to_bits-pattern : goal.float_to_bits-pattern
float_to_bits-pattern c = accepted_number _ (sym c.accepted.ensures ∙ c.if-not-accepted.false)

pub overflow_add-len : goal.overflow_add-len
overflow_add-len c =
    let few = c.requires in
    let one = (written_length c.stored.result).1 in
    omega (arith, c.number_len-len.ensures, one, c.loop-place.invariant.small, c.loop-place-test.true, few)

pub loop-place-preserved : goal.loop-place-preserved
loop-place-preserved c =
    rw c.next-axes.ensures
    (measuring_turn _ _ _ _ _ c.loop-place.invariant c.loop-place-test.true _
    (c.number_len-len.ensures ∙ ap (λ z. length (written_of z)) c.stored.ensures)
    (sym c.accepted.ensures ∙ c.if-not-accepted.false))

pub returns : goal.returns
returns c = measuring_done _ _ _ _ _ c.loop-place.invariant c.loop-place-test.false
