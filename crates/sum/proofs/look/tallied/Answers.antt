-- `sum::look::tallied` meets its contract. The loop's invariant: the tally is that of the entries behind those that are left. Assumes nothing.
use Rattle.std.proofs.Common.{◌≡◌, true, false, [], ◌∷◌, length, ap, ap₂, ◌∙◌, arith}
use Rattle.std.specs.Slice.Iter.{iter_rest}
use Rattle.std.specs.Iterator.Adapters.{rev_source, enumerate_source, enumerate_count}
use Rattle.sum.specs.Tally.{tally_of}
use Rattle.sum.specs.declared.look.Tally.{Tally}
use Rattle.sum.proofs.Laws.Backwards.{none_done, all_done, one_done, one_left, one_room}
use Rattle.sum.proofs.Laws.Tally.{tally_end, tally_before, count_room}
use Rattle.sum.proofs.look.tallied.Goals as goal

pub loop-i-init : goal.loop-i-init
loop-i-init c =
    let source = ap rev_source c.into_iter-i-iterator.ensures.into_iter_gives ∙ c.rev-i-items.ensures.source in
    let whole : iter_rest (enumerate_source (rev_source c.into_iter-i-iterator.result)) ≡ c.args.list.now =
    ap (λ s. iter_rest (enumerate_source s)) source ∙ ap iter_rest c.enumerate.ensures.source ∙ c.iter.ensures.rest in
    (ap enumerate_count source ∙ c.enumerate.ensures.count, ([], none_done whole, tally_end _ _ (ap length whole)))

pub seen-t-requires : goal.seen-t-requires
seen-t-requires c =
    let (done, whole, tally) = c.loop-i.invariant.1 in
    let room = one_room _ _ c.in-Some.ensures.steps.1.0 done whole in (
      omega (arith, count_room false _ done room c.requires, ap (λ (t : Tally). t.m) tally),
      omega (arith, count_room true _ done room c.requires, ap (λ (t : Tally). t.n) tally),
    )

pub loop-i-preserved : goal.loop-i-preserved
loop-i-preserved c =
    let (done, whole, tally) = c.loop-i.invariant.1 in
    let steps = c.in-Some.ensures.steps in
    let here : c.in-Some.i ≡ length (iter_rest (enumerate_source (rev_source c.next.new.self))) = omega (arith, steps, c.loop-i.invariant.0) in (
      steps.0 ∙ c.loop-i.invariant.0,
      (
        c.in-Some.x.now ∷ done,
        one_done _ _ steps.1.0 done whole,
        tally_before _ done _ _ _ _ (one_left _ _ steps.1.0) tally (rw here at c.seen-t.ensures),
      ),
    )

pub returns : goal.returns
returns c =
    let (done, whole, tally) = c.loop-i.invariant.1 in
    let none = c.in-None.ensures.steps.1.0 in
    tally ∙ ap₂ tally_of none (all_done _ done whole none)
