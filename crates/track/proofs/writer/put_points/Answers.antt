-- `track::writer::put_points` meets its contract: the bytes stored, with those of the coordinates to come, are all. Assumes nothing.
use lib.Ieee.{nan}
use Rattle.coordinate.proofs.Laws.Coordinate.{accepted_number}
use Rattle.track.proofs.Laws.File.{putting_start, putting_within, putting_turn, putting_done}
use Rattle.track.proofs.writer.put_points.Goals as goal

pub loop-x-init : goal.loop-x-init
loop-x-init c = putting_start _ _ _

pub float_to_bits-pattern : goal.float_to_bits-pattern
float_to_bits-pattern c = accepted_number _ (c.requires.0 c.loop-x.x-index c.loop-x-test.true)

pub put_number-at-requires : goal.put_number-at-requires
put_number-at-requires c =
    putting_within _ _ _ _ _ _ _ _ nan c.loop-x.invariant c.loop-x-test.true _ c.stored.ensures c.requires.1

pub loop-x-preserved : goal.loop-x-preserved
loop-x-preserved c =
    rw c.next-axes.ensures
    (putting_turn _ _ _ _ _ _ _ _ nan c.loop-x.invariant c.loop-x-test.true _ c.stored.ensures _ _
    c.put_number-at.ensures.0 c.put_number-at.ensures.1)

pub shape_of-out : goal.shape_of-out
shape_of-out c = c.loop-x.invariant.len

pub returns : goal.returns
returns c = putting_done _ _ _ _ _ _ _ _ nan c.loop-x.invariant c.loop-x-test.false
