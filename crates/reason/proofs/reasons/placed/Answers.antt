-- `reasons::placed` meets its contract: by the place. Assumes nothing.
use mathlib.Core.Path.{◌≡◌, sym, ap, ◌∙◌}
use mathlib.Core.Bool.{true, false}
use Rattle.std.specs.Prelude.{Ok, Err}
use Rattle.std.proofs.lemmas.Result.{err_from_is_err_and}
use Rattle.ground.specs.Zone.{border}
use Rattle.geometry.specs.Zone.{place_in, place_said}
use Rattle.reason.proofs.Laws.Why.{edge_number, met_says, placed_says}
use Rattle.reason.proofs.reasons.placed.Goals as goal

pub met-requires : goal.met-requires
unfolding place_said
met-requires c =
    let at_border : (border c.in-Border.k ≡ place_in c.args.corners.now c.args.p) = ap place_said (sym c.in-Border.is) ∙ c.requires.2 in
    (c.requires.0, c.requires.1, edge_number _ _ c.requires.0 c.requires.1.accepted _ at_border)

pub returns-in-Border : goal.returns-in-Border
unfolding place_said
returns-in-Border c =
    let at_border : (border c.in-Border.k ≡ place_in c.args.corners.now c.args.p) = ap place_said (sym c.in-Border.is) ∙ c.requires.2 in
    rw c.met.ensures (met_says _ _ c.requires.0 c.requires.1.accepted _ _ at_border)

pub returns-in_ok-counted-in-Inside : goal.returns-in_ok-counted-in-Inside
unfolding place_said
returns-in_ok-counted-in-Inside c =
    placed_says _ _ c.requires.0 c.requires.1.accepted true (ap place_said (sym c.in-Inside.is) ∙ c.requires.2) _ (Ok _) _
    c.in_ok-counted-in-Inside.ensures

pub returns-in_err-counted-in-Inside : goal.returns-in_err-counted-in-Inside
unfolding place_said
returns-in_err-counted-in-Inside c =
    let p = err_from_is_err_and c.from_residual.result c.from_residual.ensures.1 in
    rw (p.1, p.2) (placed_says _ _ c.requires.0 c.requires.1.accepted true (ap place_said (sym c.in-Inside.is) ∙ c.requires.2) _ (Err _) _
    c.in_err-counted-in-Inside.ensures)

pub returns-in_ok-counted-in-Outside : goal.returns-in_ok-counted-in-Outside
unfolding place_said
returns-in_ok-counted-in-Outside c =
    placed_says _ _ c.requires.0 c.requires.1.accepted false (ap place_said (sym c.in-Outside.is) ∙ c.requires.2) _ (Ok _) _
    c.in_ok-counted-in-Outside.ensures

pub returns-in_err-counted-in-Outside : goal.returns-in_err-counted-in-Outside
unfolding place_said
returns-in_err-counted-in-Outside c =
    let p = err_from_is_err_and c.from_residual-in_err-counted-in-Outside.result c.from_residual-in_err-counted-in-Outside.ensures.1 in
    rw (p.1, p.2) (placed_says _ _ c.requires.0 c.requires.1.accepted false (ap place_said (sym c.in-Outside.is) ∙ c.requires.2) _ (Err _) _
    c.in_err-counted-in-Outside.ensures)
