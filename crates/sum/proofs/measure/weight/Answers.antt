-- `sum::measure::weight` meets its contract. The loop's invariant: w is what the entries behind those that are left add up to, and at most
-- `share_most` for each of them, so that it fits. Assumes nothing.
use Rattle.std.proofs.Common.{ℕ, ◌+◌, [], ◌∷◌, ap, ap₂, ◌∙◌, arith}
use Rattle.std.specs.Slice.Iter.{iter_rest}
use Rattle.std.specs.Iterator.Adapters.{rev_source}
use Rattle.sum.specs.Limit.{divisor}
use Rattle.sum.specs.Ceiling.{weight_of}
use Rattle.sum.proofs.Laws.Backwards.{none_done, all_done, one_done, one_room, finite_left, real_left}
use Rattle.sum.proofs.Laws.Ceiling.{share_low, weight_none, weight_cons}
use Rattle.sum.proofs.measure.weight.Goals as goal

pub loop-x-init : goal.loop-x-init
loop-x-init c =
    let source = ap rev_source c.into_iter-x-iterator.ensures.into_iter_gives ∙ c.rev-x-items.ensures.source in
    ([], none_done (ap iter_rest source ∙ c.iter.ensures.rest), weight_none _ _, omega arith)

pub share-w-requires : goal.share-w-requires
share-w-requires c =
    let (done, whole, weight, most) = c.loop-x.invariant in
    finite_left _ done _ (one_done _ _ c.in-Some.ensures.steps done whole) c.requires.finite

pub overflow_add-w : goal.overflow_add-w
overflow_add-w c =
    let (done, whole, weight, most) = c.loop-x.invariant in
    let entry = real_left _ done _ (one_done _ _ c.in-Some.ensures.steps done whole) c.requires.finite c.type_inv.list in
    let low = share_low _ c.args.grain entry c.share-w.ensures in
    omega (arith, low, most, c.requires.short, one_room _ _ c.in-Some.ensures.steps done whole)

pub loop-x-preserved : goal.loop-x-preserved
loop-x-preserved c =
    let (done, whole, weight, most) = c.loop-x.invariant in
    let list = one_done _ _ c.in-Some.ensures.steps done whole in
    let low = share_low _ c.args.grain (real_left _ done _ list c.requires.finite c.type_inv.list) c.share-w.ensures in
    (c.in-Some.x.now ∷ done, list, ap₂ (λ (a b : ℕ). a + b) weight c.share-w.ensures ∙ weight_cons _ _ _ done, omega (arith, low, most))

pub returns : goal.returns
returns c =
    let (done, whole, weight, most) = c.loop-x.invariant in
    weight ∙ ap (weight_of divisor c.args.grain) (all_done _ done whole c.in-None.ensures.steps.0)
