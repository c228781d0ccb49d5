-- `plans::with_next` meets its contract: by the zone's answer, or its refusal. Assumes nothing.
use mathlib.Core.Path.{sym, ap, ◌∙◌}
use Rattle.std.proofs.Common.{rules}
use Rattle.std.proofs.lemmas.Result.{err_from_is_err_and}
use Rattle.crease.specs.Parts.{claims, with_next}
use Rattle.crease.proofs.Laws.Zones.{found_next, next_found}
use Rattle.crease.proofs.plans.with_next.Goals as goal

pub returns : goal.returns
returns c =
    ap claims c.with_zone.ensures ∙ ap (found_next c.args.claim c.args.k) (sym c.in_ok-place.was)
    ∙ next_found _ _ _ _ _ (λ f r q. search rules) c.map_err.ensures.cases ∙ ap (with_next c.args.claim c.args.k) c.zone.ensures

pub returns-in_err-place : goal.returns-in_err-place
returns-in_err-place c =
    let p = err_from_is_err_and c.from_residual.result c.from_residual.ensures.1 in
    rw (p.1, p.2) (ap (found_next c.args.claim c.args.k) (sym c.in_err-place.was)
    ∙ next_found _ _ _ _ _ (λ f r q. search rules) c.map_err.ensures.cases ∙ ap (with_next c.args.claim c.args.k) c.zone.ensures)
