-- `sum::fault::first_fault` meets its contract. The loop's invariant: what is found from index i on is what is found in the whole list.
-- Assumes nothing.
use mathlib.Core.Path.{sym, ◌∙◌}
use Rattle.sum.specs.Parts.{found}
use Rattle.refusal.proofs.Laws.Search.{passing_here, passing_later, passing_end}
use Rattle.double.proofs.Laws.Pattern.{finite_std}
use Rattle.sum.proofs.Laws.Refused.{checked_long, checked_short}
use Rattle.sum.proofs.fault.first_fault.Goals as goal

pub returns-then-list-gt-LIMIT : goal.returns-then-list-gt-LIMIT
unfolding found
returns-then-list-gt-LIMIT c =
    rw c.refused.ensures (sym (checked_long _ tt c.if-list-gt-LIMIT.true))

pub loop-i-init : goal.loop-i-init
loop-i-init c =
    sym (checked_short _ tt c.if-list-gt-LIMIT.false)

pub returns-then-not-is_finite : goal.returns-then-not-is_finite
unfolding found
returns-then-not-is_finite c =
    let fails = sym (finite_std _) ∙ sym c.is_finite.ensures.value ∙ c.if-not-is_finite.true in
    rw c.refused-then-not-is_finite.ensures (sym (passing_here _ _ _ _ tt _ _ c.loop-i-test.true fails) ∙ c.loop-i.invariant)

pub loop-i-preserved : goal.loop-i-preserved
loop-i-preserved c =
    let passes = sym (finite_std _) ∙ sym c.is_finite.ensures.value ∙ c.if-not-is_finite.false in
    sym (passing_later _ _ _ _ tt _ _ c.loop-i-test.true passes) ∙ c.loop-i.invariant

pub returns : goal.returns
unfolding found
returns c =
    sym (passing_end _ _ _ tt _ _ c.loop-i-test.false) ∙ c.loop-i.invariant
