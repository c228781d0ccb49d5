-- `sum::measure::grain` meets its contract. The loop's invariant: g is the grain of the entries behind those that are left. Assumes nothing.
use Rattle.std.proofs.Common.{◌≡◌, List, ◌++◌, Float}
use Rattle.std.specs.Slice.Iter.{iter_rest}
use Rattle.std.specs.Iterator.Adapters.{rev_source}
use Rattle.sum.specs.Ceiling.{grain_of}
use Rattle.sum.proofs.measure.grain.Given as goal

abbrev pub invariant-loop-x : goal.invariant-loop-x
invariant-loop-x l = (done : List Float) × (iter_rest (rev_source l.x-iterator) ++ done ≡ l.list) × (l.g ≡ grain_of done)
