-- `report::reports::coded` meets its contract: by what was read, and by the room. Assumes nothing.
use Prim.Native.Nat.{◌*◌}
use mathlib.Core.Path.{◌≡◌, sym}
use native.Mathlib.Omega.{arith}
use borrow.Author.Rules.{rules}
use lib.Seq.{length-take-le}
use Rattle.std.proofs.lemmas.Result.{err_from_is_err_and}
use Rattle.track.specs.File.{limit}
use Rattle.track.proofs.Laws.Points.{Held}
use Rattle.report.specs.declared.answer.ReportRefusal.TheVariants.{Releases as RefusedReleases}
use Rattle.report.proofs.Laws.Zone.{wrapped_ok, wrapped_err, holds_refused, holds_points}
use Rattle.report.proofs.Laws.Report.{told_unread, told_short, told_codes}
use Rattle.report.proofs.reports.coded.Goals as goal
use Rattle.report.proofs.reports.coded.Goals.{In_ok-n}

held : (c : In_ok-n) → Held c.args.releases.now (2 * limit) c.in_ok-n.n c.read.new.out
held c = holds_points _ _ _ _ (search rules) c.read.ensures _ (wrapped_ok _ _ c.map_err.ensures.cases c.in_ok-n.was)

pub returns-then-codes-n : goal.returns-then-codes-n
returns-then-codes-n c = told_short _ _ _ _ _ (held (goal.at.returns-then-codes-n c).In_ok-n) c.if-codes-n.true

pub overflow_mul-points : goal.overflow_mul-points
overflow_mul-points c =
    let h = held (goal.at.overflow_mul-points c).In_ok-n in
    omega (arith, h.few)

pub slice_bounds-points-end : goal.slice_bounds-points-end
slice_bounds-points-end c =
    let h = held (goal.at.slice_bounds-points-end c).In_ok-n in
    omega (arith, h.few)

pub slice_bounds-put_codes-end : goal.slice_bounds-put_codes-end
slice_bounds-put_codes-end c = sym (held (goal.at.slice_bounds-put_codes-end c).In_ok-n).many

pub put_codes-requires : goal.put_codes-requires
put_codes-requires c =
    let h = held (goal.at.put_codes-requires c).In_ok-n in
    (c.requires, h.good, omega (arith, h.many, length-take-le c.in_ok-n.n c.args.codes.now c.if-codes-n.false))

pub returns : goal.returns
returns c = told_codes _ _ _ _ _ (held (goal.at.returns c).In_ok-n) c.if-codes-n.false _ c.put_codes.ensures

pub returns-in_err-n : goal.returns-in_err-n
returns-in_err-n c =
    let p = err_from_is_err_and c.from_residual.result c.from_residual.ensures.1 in
    let w = wrapped_err _ _ c.map_err.ensures.cases c.in_err-n.was in
    let is : c.in_err-n.field-0.0 ≡ RefusedReleases w.0 = w.2 in
    rw (p.1, p.2, is) (told_unread _ _ _ _ (holds_refused _ _ _ _ (search rules) c.read.ensures _ w.1))
