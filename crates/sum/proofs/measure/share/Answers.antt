-- `sum::measure::share` meets its contract: a length is at most 2098, so the sum before the division fits. Assumes nothing.
use mathlib.Core.Path.{sym, subst}
use Prim.Native.Nat.{◌≤◌}
use native.Mathlib.Nat.{le_trans, le_of_eq}
use native.Mathlib.Omega.{arith}
use lib.Dec.{T}
use lib.Ieee.{binary64}
use Rattle.double.proofs.Laws.Units.{Real}
use Rattle.sum.specs.Ceiling.{digits}
use Rattle.sum.proofs.Laws.Ceiling.{length_most}
use Rattle.sum.proofs.measure.share.Goals as goal

pub overflow_add-result : goal.overflow_add-result
overflow_add-result c =
    let real : Real binary64 c.args.x = record { fin = c.requires; fit = subst T (sym c.well_formed.0.1) tt } in
    let most : c.length_over.result ≤ digits = le_trans (le_of_eq c.length_over.ensures) (length_most _ _ real) in
    record { fits = omega arith }
