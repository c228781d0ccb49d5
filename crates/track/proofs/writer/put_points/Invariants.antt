-- `track::writer::put_points` meets its contract: the bytes stored, with those of the coordinates to come, are all. Assumes nothing.
use Rattle.track.proofs.Laws.File.{Putting}
use Rattle.track.proofs.writer.put_points.Given as goal

abbrev pub invariant-loop-x : goal.invariant-loop-x
invariant-loop-x l = Putting l.points l.initial.out l.start l.out l.at l.axes.before l.axes.other l.x-index
