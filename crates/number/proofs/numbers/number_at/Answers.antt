-- `number::numbers::number_at` meets its contract: the groups read, with those that the other bytes begin with, are the number. Assumes
-- nothing.
use Prim.Native.Nat.{◌-◌}
use mathlib.Core.Path.{ap, refl, ◌∙◌}
use native.Mathlib.Omega.{arith}
use borrow.Author.Rules.{rules}
use lib.ListN.{length}
use Rattle.std.proofs.lemmas.Slice.{between_to_end}
use Rattle.number.specs.Number.{heard}
use Rattle.number.proofs.Laws.Number.{at_start, at_next, weight_small, value_fits, number_past, number_ends, number_zero, number_value, number_tenth}
use Rattle.number.proofs.numbers.number_at.Goals as goal

pub returns-in_default : goal.returns-in_default
returns-in_default c =
    ap heard c.refused.ensures ∙ number_past _ _ (search (rules, c.in_default.ensures.lookup))

pub loop-turn-init : goal.loop-turn-init
loop-turn-init c = at_start _ _ _ (c.in-Some.ensures.lookup.0.2 ∙ between_to_end _ c.args.start (length c.args.bytes.now) (omega arith))

pub returns-then-turn-eq-FULL : goal.returns-then-turn-eq-FULL
returns-then-turn-eq-FULL c =
    c.tenth.ensures ∙ number_tenth _ _ _ _ _ _ c.loop-turn.invariant c.loop-turn-test.true _ refl c.if-turn-eq-FULL.true

pub returns-then-turn-gt0 : goal.returns-then-turn-gt0
returns-then-turn-gt0 c =
    ap heard c.refused-then-turn-gt0.ensures
    ∙ number_zero _ _ _ _ _ _ c.loop-turn.invariant c.loop-turn-test.true _ c.from-b.ensures
    c.if-turn-eq-FULL.false c.if-b-eq0.true c.if-turn-gt0.true

pub overflow_mul-result : goal.overflow_mul-result
overflow_mul-result c = (value_fits c.loop-turn.invariant c.if-turn-eq-FULL.false c.from-b.result c.if-b-lt-TOP.true).0

pub overflow_add-result : goal.overflow_add-result
overflow_add-result c = (value_fits c.loop-turn.invariant c.if-turn-eq-FULL.false c.from-b.result c.if-b-lt-TOP.true).1

pub returns-then-b-lt-TOP : goal.returns-then-b-lt-TOP
returns-then-b-lt-TOP c =
    number_value _ _ _ _ _ _ c.loop-turn.invariant c.loop-turn-test.true _ c.from-b.ensures c.if-turn-eq-FULL.false
    c.if-b-lt-TOP.true (λ z. grind (arith, c.else-b-eq0.either))

pub overflow_mul-value : goal.overflow_mul-value
overflow_mul-value c =
    (value_fits c.loop-turn.invariant c.if-turn-eq-FULL.false (c.from-b.result - 128) (omega arith)).0

pub overflow_add-value-in-loop-turn : goal.overflow_add-value-in-loop-turn
overflow_add-value-in-loop-turn c =
    (value_fits c.loop-turn.invariant c.if-turn-eq-FULL.false (c.from-b.result - 128) (omega arith)).1

pub overflow_mul-weight : goal.overflow_mul-weight
overflow_mul-weight c = omega (arith, weight_small c.loop-turn.invariant c.if-turn-eq-FULL.false)

pub loop-turn-preserved : goal.loop-turn-preserved
loop-turn-preserved c =
    at_next _ _ _ _ _ _ c.loop-turn.invariant c.loop-turn-test.true _ c.from-b.ensures c.if-turn-eq-FULL.false
    c.if-b-lt-TOP.false (omega arith)

pub returns : goal.returns
returns c = ap heard c.refused-2.ensures ∙ number_ends _ _ _ _ _ _ c.loop-turn.invariant c.loop-turn-test.false
