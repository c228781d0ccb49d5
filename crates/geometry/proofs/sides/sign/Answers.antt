-- `sides::sign` meets its contract: by what `side` promises. Assumes nothing.
use mathlib.Core.Path.{sym, ap, ◌∙◌}
use Rattle.std.proofs.lemmas.Result.{err_from_is_err_and}
use Rattle.geometry.specs.Side.{said}
use Rattle.geometry.proofs.Laws.Owned.{owned_doubles}
use Rattle.geometry.proofs.Laws.SignCalls.{sign_of_turn, sign_of_refused}
use Rattle.geometry.proofs.sides.sign.Goals as goal

pub returns : goal.returns
returns c =
    let p = c.well_formed.0.1.1 in
    let q = c.well_formed.1.0.1.1 in
    let r = c.well_formed.1.1.0.1.1 in
    sign_of_turn _ _ _ _ (owned_doubles _ p.0.1 p.1.0.1) (owned_doubles _ q.0.1 q.1.0.1) (owned_doubles _ r.0.1 r.1.0.1)
    (ap said (sym c.in_ok-side.was) ∙ c.side.ensures)

pub returns-in_err-side : goal.returns-in_err-side
returns-in_err-side c =
    let p = err_from_is_err_and c.from_residual.result c.from_residual.ensures.1 in
    rw (p.1, p.2) (sign_of_refused _ _ _ _ (ap said (sym c.in_err-side.was) ∙ c.side.ensures))
