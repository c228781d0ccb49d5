-- `track::reader::decode` meets its contract: the coordinates decoded, with those to come, are those of the file. Assumes nothing.
use lib.ListN.{length}
use Rattle.track.proofs.Laws.Read.{Decoding}
use Rattle.track.proofs.reader.decode.Given as goal

abbrev pub invariant-loop-entry : goal.invariant-loop-entry
invariant-loop-entry l = Decoding l.bytes l.start (length l.initial.list) l.list l.at l.axes.before l.axes.other l.entry-index
