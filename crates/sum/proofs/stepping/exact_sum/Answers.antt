-- `sum::stepping::exact_sum` meets its contract: the law of the exact step. Assumes nothing.
use mathlib.Core.Path.{sym, subst}
use lib.Dec.{T}
use Rattle.sum.proofs.Laws.Stepping.{exact_sum}
use Rattle.sum.proofs.stepping.exact_sum.Goals as goal

pub returns : goal.returns
returns c =
    exact_sum c.args.a c.args.b (subst T (sym c.well_formed.0.1) tt) (subst T (sym c.well_formed.1.0.1) tt) c.requires
