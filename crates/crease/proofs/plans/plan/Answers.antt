-- `plans::plan` meets its contract: each refusal in order, and then the walk over all zones. Assumes nothing.
use mathlib.Core.Path.{sym, ap, ◌∙◌}
use Rattle.std.proofs.lemmas.Result.{err_from_is_err_and}
use Rattle.refusal.specs.Outcome.{outcome}
use Rattle.crease.proofs.Laws.Plan.{lists_refused, lists_counted, point_refused, folded_says}
use Rattle.crease.proofs.plans.plan.Goals as goal

pub returns-in_err-judged : goal.returns-in_err-judged
returns-in_err-judged c =
    let p = err_from_is_err_and c.from_residual.result c.from_residual.ensures.1 in
    rw (p.1, p.2) (lists_refused _ _ _ _ (ap (outcome (λ u. u)) (sym c.in_err-judged.was) ∙ c.judged.ensures))

pub returns-in_err-all_accepted : goal.returns-in_err-all_accepted
returns-in_err-all_accepted c =
    let p = err_from_is_err_and c.from_residual-in_err-all_accepted.result c.from_residual-in_err-all_accepted.ensures.1 in
    rw (p.1, p.2) (point_refused _ _ _ (ap (outcome (λ u. u)) (sym c.in_ok-judged.was) ∙ c.judged.ensures) _
    (ap (outcome (λ u. u)) (sym c.in_err-all_accepted.was) ∙ c.all_accepted.ensures))

pub folded-requires : goal.folded-requires
folded-requires c =
    lists_counted _ _ c.args.p (ap (outcome (λ u. u)) (sym c.in_ok-judged.was) ∙ c.judged.ensures)

pub returns : goal.returns
returns c =
    folded_says _ _ _ (ap (outcome (λ u. u)) (sym c.in_ok-judged.was) ∙ c.judged.ensures) _
    (ap (outcome (λ u. u)) (sym c.in_ok-all_accepted.was) ∙ c.all_accepted.ensures) c.folded.ensures
