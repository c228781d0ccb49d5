-- `plans::folded` meets its contract. The loop's invariant: the zones that are left, with the claim of those before, come to what all come to.
-- Assumes nothing.
use mathlib.Core.Path.{sym, ap, ◌∙◌}
use native.Mathlib.Omega.{arith}
use Rattle.std.proofs.lemmas.Result.{err_from_is_err_and}
use Rattle.crease.specs.Parts.{found}
use Rattle.crease.proofs.Laws.Zones.{turn_start, turn_fits, turn_refused, turn_next, turn_done}
use Rattle.crease.proofs.plans.folded.Goals as goal

pub loop-k-init : goal.loop-k-init
loop-k-init c =
    turn_start _ _ _ c.requires

pub overflow_mul-n : goal.overflow_mul-n
overflow_mul-n c =
    let fits = turn_fits _ _ _ _ _ _ c.loop-k.invariant c.loop-k-test.true in
    omega (arith, fits, c.loop-k.invariant.less, c.well_formed.1.0.0)

pub split_at-requires : goal.split_at-requires
split_at-requires c =
    turn_fits _ _ _ _ _ _ c.loop-k.invariant c.loop-k-test.true

pub returns-in_err-claim : goal.returns-in_err-claim
returns-in_err-claim c =
    let p = err_from_is_err_and c.from_residual.result c.from_residual.ensures.1 in
    rw (p.1, p.2) (turn_refused _ _ _ _ _ _ c.loop-k.invariant c.loop-k-test.true _
    (rw c.split_at.ensures.front at (ap found (sym c.in_err-claim.was) ∙ c.with_next.ensures)))

pub loop-k-preserved : goal.loop-k-preserved
loop-k-preserved c =
    turn_next _ _ _ _ _ _ c.loop-k.invariant c.loop-k-test.true _ _ c.split_at.ensures.back
    (rw c.split_at.ensures.front at (ap found (sym c.in_ok-claim.was) ∙ c.with_next.ensures))

pub returns : goal.returns
returns c =
    turn_done _ _ _ _ _ _ c.loop-k.invariant c.loop-k-test.false
