-- `sum::measure::grain` meets its contract. The loop's invariant: g is the grain of the entries behind those that are left. Assumes nothing.
use Rattle.std.proofs.Common.{[], ◌∷◌, sym, ap, ap₂, ◌∙◌, min}
use Rattle.std.proofs.Math.Nat.{min_comm}
use Rattle.std.specs.Slice.Iter.{iter_rest}
use Rattle.std.specs.Iterator.Adapters.{rev_source}
use Rattle.sum.specs.Ceiling.{grain_of}
use Rattle.sum.proofs.Laws.Backwards.{none_done, all_done, one_done, finite_left}
use Rattle.sum.proofs.Laws.Grain.{grain_none, grain_cons}
use Rattle.sum.proofs.measure.grain.Goals as goal

pub loop-x-init : goal.loop-x-init
loop-x-init c =
    let source = ap rev_source c.into_iter-x-iterator.ensures.into_iter_gives ∙ c.rev-x-items.ensures.source in
    ([], none_done (ap iter_rest source ∙ c.iter.ensures.rest), grain_none)

pub twos-requires : goal.twos-requires
twos-requires c =
    let (done, whole, grain) = c.loop-x.invariant in
    finite_left _ done _ (one_done _ _ c.in-Some.ensures.steps done whole) c.requires

pub loop-x-preserved : goal.loop-x-preserved
loop-x-preserved c =
    let (done, whole, grain) = c.loop-x.invariant in
    let least = c.min-g.ensures ∙ min_comm _ _ ∙ ap₂ min c.twos.ensures grain ∙ sym (grain_cons _ done) in
    (c.in-Some.x.now ∷ done, one_done _ _ c.in-Some.ensures.steps done whole, least)

pub returns : goal.returns
returns c =
    let (done, whole, grain) = c.loop-x.invariant in
    grain ∙ ap grain_of (all_done _ done whole c.in-None.ensures.steps.0)
