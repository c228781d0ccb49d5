-- `point::all_within` meets its contract: the turns of the search. Assumes nothing.
use mathlib.Core.Path.{sym, refl, ◌∙◌}
use Rattle.refusal.proofs.Laws.Search.{passing_here, passing_later, passing_end}
use Rattle.point.proofs.all_within.Goals as goal

pub loop-place-init : goal.loop-place-init
loop-place-init c = refl

pub returns-then-not-within : goal.returns-then-not-within
returns-then-not-within c =
    rw c.refused.ensures (sym (passing_here _ _ _ _ tt _ _ c.loop-place-test.true (sym c.within.ensures ∙ c.if-not-within.true)) ∙ c.loop-place.invariant)

pub loop-place-preserved : goal.loop-place-preserved
loop-place-preserved c =
    sym (passing_later _ _ _ _ tt _ _ c.loop-place-test.true (sym c.within.ensures ∙ c.if-not-within.false)) ∙ c.loop-place.invariant

pub returns : goal.returns
returns c =
    sym (passing_end _ _ _ tt _ _ c.loop-place-test.false) ∙ c.loop-place.invariant
