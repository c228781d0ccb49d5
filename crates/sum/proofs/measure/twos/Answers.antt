-- `sum::measure::twos` meets its contract: 2 ^ e times a significand has e zeros more at its end. Assumes nothing.
use mathlib.Core.Path.{sym, subst}
use native.Mathlib.Omega.{arith}
use lib.Count.{trailing_le}
use lib.Dec.{T}
use lib.Ieee.{binary64, fits}
use Rattle.double.proofs.Laws.Apart.{Means, apart_means}
use Rattle.sum.proofs.Laws.Grain.{parts_taken, parts_answered, twos_zero, twos_other}
use Rattle.sum.proofs.measure.twos.Goals as goal

pub unwrap-p-requires : goal.unwrap-p-requires
unwrap-p-requires c = parts_answered _ _ c.requires c.take_apart.ensures

pub returns-then-s-eq0 : goal.returns-then-s-eq0
returns-then-s-eq0 c =
    let held : T (fits binary64 c.args.x) = subst T (sym c.well_formed.0.1) tt in
    let means : Means c.args.x c.unwrap-p.result = apart_means _ held _ (parts_taken _ _ _ c.unwrap-p.ensures c.take_apart.ensures) in
    twos_zero _ _ means c.if-s-eq0.true

pub overflow_add-result : goal.overflow_add-result
overflow_add-result c =
    let held : T (fits binary64 c.args.x) = subst T (sym c.well_formed.0.1) tt in
    let means : Means c.args.x c.unwrap-p.result = apart_means _ held _ (parts_taken _ _ _ c.unwrap-p.ensures c.take_apart.ensures) in
    let p = c.unwrap-p.result in
    record { fits = omega (arith, trailing_le 64 p.significand, means.exponent_range) }

pub returns : goal.returns
returns c =
    let held : T (fits binary64 c.args.x) = subst T (sym c.well_formed.0.1) tt in
    let means : Means c.args.x c.unwrap-p.result = apart_means _ held _ (parts_taken _ _ _ c.unwrap-p.ensures c.take_apart.ensures) in
    twos_other _ _ means c.if-s-eq0.false
