-- `track::writer::measure` meets its contract: the bytes measured, with those of the coordinates to come, are all. Assumes nothing.
use Rattle.track.proofs.Laws.Write.{Measuring}
use Rattle.track.proofs.writer.measure.Given as goal

abbrev pub invariant-loop-place : goal.invariant-loop-place
invariant-loop-place l = Measuring l.points l.len l.axes.before l.axes.other l.place
