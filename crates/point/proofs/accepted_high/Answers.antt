-- `point::accepted_high` meets its contract: a law says that the test by comparisons is the rule. Assumes nothing.
use mathlib.Core.Path.{sym, subst, ◌∙◌}
use lib.Dec.{T}
use lib.Ieee.{binary64, fits}
use Rattle.point.proofs.Laws.Accepted.{accepted_high_is}
use Rattle.point.proofs.accepted_high.Goals as goal

pub returns : goal.returns
returns c =
    let held : T (fits binary64 c.args.x) = subst T (sym c.well_formed.0.1) tt in
    c.within.ensures ∙ accepted_high_is _ held
