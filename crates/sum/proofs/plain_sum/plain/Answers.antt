-- `sum::plain_sum::plain` meets its contract.
use Prim.Native.Nat.{◌≤◌}
use mathlib.Core.Path.{refl, sym, ap, ◌∙◌, subst}
use lib.Dec.{T}
use lib.Ieee.{nan, binary64}
use lib.ListN.{get_or}
use native.Mathlib.Omega.{arith}
use Rattle.whole.specs.Sign.{sgn}
use Rattle.refusal.specs.Outcome.{answers}
use Rattle.refusal.proofs.Laws.Search.{passing_here, passing_later, passing_end}
use Rattle.double.proofs.Laws.Units.{Real}
use Rattle.total.specs.Words.{value_of}
use Rattle.total.proofs.Laws.Add.{add_finite, add_changes}
use Rattle.sum.specs.Limit.{limit}
use Rattle.sum.specs.Total.{total_of, sign_number}
use Rattle.sum.specs.declared.answer.Sign.{Sign}
use Rattle.sum.specs.Plain.{plain_said, plain_of}
use Rattle.sum.proofs.Laws.Refused.{checked_long, checked_short}
use Rattle.sum.proofs.Laws.Plain.{held_start, held_next, held_sign}
use Rattle.sum.proofs.plain_sum.plain.Goals as goal

pub returns-then-list-gt-LIMIT : goal.returns-then-list-gt-LIMIT
unfolding plain_said plain_of
returns-then-list-gt-LIMIT c =
    let xs = c.args.list.now in
    rw c.refused.ensures (sym (checked_long xs (sgn (total_of xs)) c.if-list-gt-LIMIT.true))

pub loop-i-init : goal.loop-i-init
unfolding plain_of value_of
loop-i-init c =
    let xs = c.args.list.now in
    (refl, sym (checked_short xs (sgn (total_of xs)) c.if-list-gt-LIMIT.false), held_start _ _ refl)

pub returns-then-not-add : goal.returns-then-not-add
unfolding plain_said
returns-then-not-add c =
    let here = c.loop-i in
    let none = add_finite _ _ _ _ here.invariant.0 c.add.ensures ∙ c.if-not-add.true in
    rw c.refused-then-not-add.ensures (sym (passing_here _ _ _ _ _ _ _ c.loop-i-test.true none) ∙ here.invariant.1)

pub loop-i-preserved : goal.loop-i-preserved
loop-i-preserved c =
    let here = c.loop-i in
    let done = c.if-not-add.false in
    let there = add_finite _ _ _ _ here.invariant.0 c.add.ensures ∙ done in
    let entry : Real binary64 (get_or c.args.list.now here.i nan) =
    record { fin = subst T (sym there) tt; fit = c.type_inv.list here.i } in
    let changes = add_changes _ _ _ _ here.invariant.0 c.add.ensures done entry in (
      c.add.auto.total ∙ here.invariant.0,
      sym (passing_later _ _ _ _ _ _ _ c.loop-i-test.true there) ∙ here.invariant.1,
      held_next _ _ _ _ c.loop-i-test.true entry here.invariant.0 changes here.invariant.2,
    )

pub returns : goal.returns
unfolding plain_said
returns c =
    let here = c.loop-i in
    let short : here.i ≤ limit = omega arith in
    ap (λ (s : Sign). answers (sign_number s)) c.sign_of.ensures.sign_is
    ∙ ap answers (held_sign _ _ _ c.loop-i-test.false short c.sign_of.ensures.below here.invariant.2)
    ∙ sym (passing_end _ _ _ _ _ _ c.loop-i-test.false)
    ∙ here.invariant.1
