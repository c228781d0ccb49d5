-- `number::numbers::tenth` meets its contract: by whether the byte is 1. Assumes nothing.
use mathlib.Core.Path.{ap, sym, ◌∙◌}
use borrow.Author.Tests.{eq-eqb, ne_eqb}
use Rattle.refusal.proofs.Laws.Judged.{cond_yes, cond_no}
use Rattle.number.specs.Number.{heard}
use Rattle.number.proofs.numbers.tenth.Goals as goal

pub returns-then-b-eq1 : goal.returns-then-b-eq1
returns-then-b-eq1 c = sym (cond_yes _ _ (eq-eqb _ _ c.if-b-eq1.true))

pub returns-else-b-eq1 : goal.returns-else-b-eq1
returns-else-b-eq1 c = ap heard c.refused.ensures ∙ sym (cond_no _ _ (ne_eqb _ _ c.if-b-eq1.false))
