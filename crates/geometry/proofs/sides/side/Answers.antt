-- `sides::side` meets its contract: the first coordinate that is not accepted is refused, and otherwise the turn is the answer.
-- Assumes nothing.
use mathlib.Core.Path.{sym, ap, ◌∙◌}
use Rattle.std.proofs.lemmas.Result.{err_from_is_err_and}
use Rattle.refusal.specs.Outcome.{answers}
use Rattle.geometry.specs.Side.{said, Turned}
use Rattle.geometry.proofs.Laws.Side.{six_accepted, six_refused, side_turn}
use Rattle.geometry.proofs.sides.side.Goals as goal

pub returns-in_err-all_accepted : goal.returns-in_err-all_accepted
unfolding said
returns-in_err-all_accepted c =
    let p = err_from_is_err_and c.from_residual.result c.from_residual.ensures.1 in
    rw (p.1, p.2) (six_refused _ _ _ (sym c.in_err-all_accepted.ensures))

pub turn-requires : goal.turn-requires
turn-requires c = six_accepted _ _ _ (sym c.in_ok-all_accepted.ensures)

pub returns : goal.returns
unfolding said
returns c =
    let (p, q, r) = six_accepted _ _ _ (sym c.in_ok-all_accepted.ensures) in
    ap (λ (t : Turned). answers t) c.turn.ensures ∙ side_turn _ _ _ p q r
