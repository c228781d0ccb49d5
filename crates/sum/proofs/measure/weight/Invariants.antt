-- `sum::measure::weight` meets its contract. The loop's invariant: w is what the entries behind those that are left add up to, and at most
-- `share_most` for each of them, so that it fits. Assumes nothing.
use Rattle.std.proofs.Common.{◌≡◌, ◌*◌, ◌≤◌, List, ◌++◌, length, Float}
use Rattle.std.specs.Slice.Iter.{iter_rest}
use Rattle.std.specs.Iterator.Adapters.{rev_source}
use Rattle.sum.specs.Limit.{divisor}
use Rattle.sum.specs.Ceiling.{weight_of}
use Rattle.sum.proofs.Laws.Ceiling.{share_most}
use Rattle.sum.proofs.measure.weight.Given as goal

abbrev pub invariant-loop-x : goal.invariant-loop-x
invariant-loop-x l =
    (done : List Float) × (iter_rest (rev_source l.x-iterator) ++ done ≡ l.list) × (l.w ≡ weight_of divisor l.grain done)
    × (l.w ≤ share_most * length done)
