-- `sum::fault::first_fault` meets its contract. The loop's invariant: what is found from index i on is what is found in the whole list.
-- Assumes nothing.
use mathlib.Core.Path.{◌≡◌}
use lib.ListN.{drop}
use Rattle.sum.specs.Refused.{checked_from}
use Rattle.sum.specs.Parts.{fault_of}
use Rattle.sum.proofs.fault.first_fault.Given as goal

abbrev pub invariant-loop-i : goal.invariant-loop-i
invariant-loop-i l = (checked_from l.i (drop l.i l.list) tt ≡ fault_of l.list)
