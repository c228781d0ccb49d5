-- `sum::look::tallied` meets its contract. The loop's invariant: the tally is that of the entries behind those that are left. Assumes nothing.
use Rattle.std.proofs.Common.{◌≡◌, List, ◌++◌, length, Float}
use Rattle.std.specs.Slice.Iter.{iter_rest}
use Rattle.std.specs.Iterator.Adapters.{rev_source, enumerate_source, enumerate_count}
use Rattle.sum.specs.Tally.{tally_of}
use Rattle.sum.proofs.look.tallied.Given as goal

abbrev pub invariant-loop-i : goal.invariant-loop-i
invariant-loop-i l =
    let left = iter_rest (enumerate_source (rev_source l.i-iterator)) in
    (enumerate_count (rev_source l.i-iterator) ≡ 0) × ((done : List Float) × (left ++ done ≡ l.list) × (l.t ≡ tally_of (length left) done))
