-- `coordinate::coordinates::coordinate_at` meets its contract: by what the number is. Assumes nothing.
use Rattle.std.proofs.Common.{ℕ, sym, ap, ◌∙◌}
use Rattle.std.proofs.lemmas.Result.{err_from_is_err_and}
use Rattle.number.specs.Number.{heard}
use Rattle.coordinate.specs.Coordinate.{judged_of}
use Rattle.coordinate.proofs.Laws.Coordinate.{coordinate_judged, coordinate_refused}
use Rattle.coordinate.proofs.coordinates.coordinate_at.Goals as goal

pub returns : goal.returns
returns c =
    let n = c.in_ok-n.n in
    let start = c.args.start in
    c.judged.ensures ∙ ap (λ (p : ℕ). judged_of p start n.next) c.restored.ensures
    ∙ coordinate_judged _ _ _ n (ap heard (sym c.in_ok-n.was) ∙ c.number_at.ensures)

pub returns-in_err-n : goal.returns-in_err-n
returns-in_err-n c =
    let p = err_from_is_err_and c.from_residual.result c.from_residual.ensures.1 in
    rw (p.1, p.2) (coordinate_refused _ _ _ _ _ (ap heard (sym c.in_err-n.was) ∙ c.number_at.ensures))
