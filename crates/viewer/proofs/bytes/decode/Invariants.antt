-- `viewer::bytes::decode` meets its contract. The loop's invariant: the doubles decoded so far are the first of the bytes'. Assumes nothing.
use Rattle.std.proofs.Common.{◌≡◌, take}
use Rattle.viewer.specs.Bytes.{doubles_from}
use Rattle.viewer.proofs.bytes.decode.Given as goal

abbrev pub invariant-loop-i : goal.invariant-loop-i
invariant-loop-i l = take l.i l.list ≡ doubles_from l.i l.bytes
