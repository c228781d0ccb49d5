-- `sum::words::sign_of` meets its contract.
use Rattle.std.proofs.Common.{true, false, sym, ◌∙◌}
use Rattle.total.proofs.Laws.Words.{Below}
use Rattle.sum.proofs.Laws.Words.{held_below, held_minus, held_other}
use Rattle.total.specs.Words.{base}
use Rattle.sum.proofs.words.sign_of.Goals as goal

pub returns-then-words-ge-TOP : goal.returns-then-words-ge-TOP
returns-then-words-ge-TOP c =
    let in_range : Below base c.args.words.now = (λ k h. (c.type_inv.words k).fits) in
    record { below = held_below _ c.requires in_range; sign_is = held_minus _ c.requires in_range c.if-words-ge-TOP.true }

pub returns-then-all_zero : goal.returns-then-all_zero
returns-then-all_zero c =
    let in_range : Below base c.args.words.now = (λ k h. (c.type_inv.words k).fits) in
    record {
      below = held_below _ c.requires in_range;
      sign_is = held_other _ c.requires in_range c.if-words-ge-TOP.false true (sym c.if-all_zero.true ∙ c.all_zero.ensures);
    }

pub returns-else-all_zero : goal.returns-else-all_zero
returns-else-all_zero c =
    let in_range : Below base c.args.words.now = (λ k h. (c.type_inv.words k).fits) in
    record {
      below = held_below _ c.requires in_range;
      sign_is = held_other _ c.requires in_range c.if-words-ge-TOP.false false (sym c.if-all_zero.false ∙ c.all_zero.ensures);
    }
