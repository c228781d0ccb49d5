-- `sum::measure::length_over` meets its contract: what is divided by a power of two has that many digits fewer. Assumes nothing.
use mathlib.Core.Path.{sym, subst}
use native.Mathlib.Omega.{arith}
use lib.Count.{leading_le}
use lib.Dec.{T}
use lib.Ieee.{binary64, fits}
use Rattle.double.proofs.Laws.Apart.{Means, apart_means}
use Rattle.sum.proofs.Laws.Ceiling.{length_over_is, length_over_none}
use Rattle.sum.proofs.Laws.Grain.{parts_taken, parts_answered}
use Rattle.sum.proofs.measure.length_over.Goals as goal

pub unwrap-p-requires : goal.unwrap-p-requires
unwrap-p-requires c = parts_answered _ _ c.requires c.take_apart.ensures

pub overflow_sub-length : goal.overflow_sub-length
overflow_sub-length c =
    leading_le 64 _

pub overflow_add-length : goal.overflow_add-length
overflow_add-length c =
    let held : T (fits binary64 c.args.x) = subst T (sym c.well_formed.0.1) tt in
    let means : Means c.args.x c.unwrap-p.result = apart_means _ held _ (parts_taken _ _ _ c.unwrap-p.ensures c.take_apart.ensures) in
    record { fits = omega (arith, means.exponent_range) }

pub returns-then-length-grain : goal.returns-then-length-grain
returns-then-length-grain c =
    let held : T (fits binary64 c.args.x) = subst T (sym c.well_formed.0.1) tt in
    let means : Means c.args.x c.unwrap-p.result = apart_means _ held _ (parts_taken _ _ _ c.unwrap-p.ensures c.take_apart.ensures) in
    length_over_none _ _ means _ c.if-length-grain.true

pub returns : goal.returns
returns c =
    let held : T (fits binary64 c.args.x) = subst T (sym c.well_formed.0.1) tt in
    let means : Means c.args.x c.unwrap-p.result = apart_means _ held _ (parts_taken _ _ _ c.unwrap-p.ensures c.take_apart.ensures) in
    length_over_is _ _ means _
