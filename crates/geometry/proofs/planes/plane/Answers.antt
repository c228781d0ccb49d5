-- `planes::plane` meets its contract: the first coordinate that is not accepted is refused, and otherwise the sum rule answers.
-- Assumes nothing.
use mathlib.Core.Path.{sym, ap, ◌∙◌}
use Rattle.std.proofs.lemmas.Result.{err_from_is_err_and}
use Rattle.refusal.specs.Outcome.{answers}
use Rattle.geometry.specs.Plane.{Counted, plane_said}
use Rattle.geometry.proofs.Laws.PlaneCalls.{twelve_accepted, twelve_refused, plane_passed}
use Rattle.geometry.proofs.planes.plane.Goals as goal

pub returns-in_err-all_accepted_high : goal.returns-in_err-all_accepted_high
unfolding plane_said
returns-in_err-all_accepted_high c =
    let e = err_from_is_err_and c.from_residual.result c.from_residual.ensures.1 in
    rw (e.1, e.2) (twelve_refused _ _ _ _ (sym c.in_err-all_accepted_high.ensures))

pub summed-requires : goal.summed-requires
summed-requires c = twelve_accepted _ _ _ _ (sym c.in_ok-all_accepted_high.ensures)

pub returns : goal.returns
unfolding plane_said
returns c =
    let (p, q, r, s) = twelve_accepted _ _ _ _ (sym c.in_ok-all_accepted_high.ensures) in
    ap (λ (t : Counted). answers t) c.summed.ensures ∙ plane_passed _ _ _ _ p q r s
