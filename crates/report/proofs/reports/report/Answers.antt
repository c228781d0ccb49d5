-- `report::reports::report` meets its contract: by how the zone is judged. Assumes nothing.
use mathlib.Core.Path.{◌≡◌, sym}
use native.Mathlib.Omega.{arith}
use lib.Seq.{length-take-le}
use Rattle.std.specs.Prelude.{Ok}
use Rattle.std.proofs.lemmas.Result.{err_from_is_err_and}
use Rattle.report.specs.declared.answer.ReportRefusal.TheVariants.{Zone as RefusedZone}
use Rattle.report.specs.Parts.{JudgedHeld}
use Rattle.report.proofs.Laws.Zone.{wrapped_ok, wrapped_err, judged_as, judged_zoned, judged_most}
use Rattle.report.proofs.Laws.Report.{says_refused, says_told}
use Rattle.report.proofs.reports.report.Goals as goal
use Rattle.report.proofs.reports.report.Goals.{In_ok-n}

judged : (c : In_ok-n) → JudgedHeld c.args.zone.now (Ok c.in_ok-n.n) c.judged.new.held
judged c = judged_as _ _ _ _ c.judged.ensures (wrapped_ok _ _ c.map_err.ensures.cases c.in_ok-n.was)

pub overflow_mul-held : goal.overflow_mul-held
overflow_mul-held c = omega (arith, judged_most _ _ _ (judged (goal.at.overflow_mul-held c).In_ok-n))

pub slice_bounds-held-end : goal.slice_bounds-held-end
slice_bounds-held-end c = omega (arith, judged_most _ _ _ (judged (goal.at.slice_bounds-held-end c).In_ok-n))

pub slice_bounds-coded-end : goal.slice_bounds-coded-end
slice_bounds-coded-end c =
    sym (length-take-le _ _ (omega (arith, judged_most _ _ _ (judged (goal.at.slice_bounds-coded-end c).In_ok-n))))

pub coded-requires : goal.coded-requires
coded-requires c = judged_zoned _ _ _ (judged (goal.at.coded-requires c).In_ok-n)

pub returns : goal.returns
returns c = says_told _ _ _ _ _ (judged (goal.at.returns c).In_ok-n) _ _ c.coded.ensures

pub returns-in_err-n : goal.returns-in_err-n
returns-in_err-n c =
    let p = err_from_is_err_and c.from_residual.result c.from_residual.ensures.1 in
    let w = wrapped_err _ _ c.map_err.ensures.cases c.in_err-n.was in
    let is : c.in_err-n.field-0.0 ≡ RefusedZone w.0 = w.2 in
    rw (p.1, p.2, is) (says_refused _ c.args.releases.now _ _ _ (judged_as _ _ _ _ c.judged.ensures w.1))
