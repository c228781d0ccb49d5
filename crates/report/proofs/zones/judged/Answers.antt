-- `report::zones::judged` meets its contract: by what was read, and by the two limits of a zone. Assumes nothing.
use Prim.Native.Nat.{◌*◌}
use borrow.Author.Rules.{rules}
use Rattle.std.proofs.lemmas.Result.{err_from_is_err_and}
use Rattle.track.specs.File.{limit}
use Rattle.track.proofs.Laws.Points.{Held}
use Rattle.report.proofs.Laws.Zone.{holds_refused, holds_points, judged_unread, judged_few, judged_many, judged_corners}
use Rattle.report.proofs.zones.judged.Goals as goal
use Rattle.report.proofs.zones.judged.Goals.{In_ok-n}

held : (c : In_ok-n) → Held c.args.zone.now (2 * limit) c.in_ok-n.n c.read.new.out
held c = holds_points _ _ _ _ (search rules) c.read.ensures _ c.in_ok-n.was

pub returns-then-n-lt-FEWEST : goal.returns-then-n-lt-FEWEST
returns-then-n-lt-FEWEST c =
    rw c.refused.ensures (judged_few _ _ _ (held (goal.at.returns-then-n-lt-FEWEST c).In_ok-n) c.if-n-lt-FEWEST.true)

pub returns-then-n-gt-MOST : goal.returns-then-n-gt-MOST
returns-then-n-gt-MOST c =
    rw c.refused-then-n-gt-MOST.ensures
    (judged_many _ _ _ (held (goal.at.returns-then-n-gt-MOST c).In_ok-n) c.if-n-lt-FEWEST.false c.if-n-gt-MOST.true)

pub returns : goal.returns
returns c = judged_corners _ _ _ (held (goal.at.returns c).In_ok-n) c.if-n-lt-FEWEST.false c.if-n-gt-MOST.false

pub returns-in_err-n : goal.returns-in_err-n
returns-in_err-n c =
    let p = err_from_is_err_and c.from_residual.result c.from_residual.ensures.1 in
    rw (p.1, p.2) (judged_unread _ _ _ (holds_refused _ _ _ _ (search rules) c.read.ensures _ c.in_err-n.was))
