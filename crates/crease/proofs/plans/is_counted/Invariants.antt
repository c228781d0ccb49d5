-- `plans::is_counted` meets its contract. The loop's invariant: what is left fits the counts that are left if and only if all fits. Assumes nothing.
use Prim.Native.Nat.{◌*◌}
use mathlib.Core.Path.{◌≡◌}
use lib.Dec.{eqb}
use lib.ListN.{drop}
use Rattle.crease.specs.Plan.{counted_in}
use Rattle.crease.proofs.plans.is_counted.Given as goal

abbrev pub invariant-loop-n : goal.invariant-loop-n
invariant-loop-n l = eqb l.doubles (2 * counted_in l.counts) ≡ eqb l.left (counted_in (drop l.n-index l.counts))
