-- `total::add` meets its contract: what `put` changes is the double's worth, and owning the words tells that each has 64 bits.
-- Assumes nothing.
use Rattle.std.proofs.Common.{◌≡◌, true, T, sym, ◌∙◌, subst}
use lib.Ieee.{binary64, fits}
use lib.Ieee.Scale.{finite}
use Rattle.double.proofs.Laws.Apart.{Means, taken_means, taken_finite, taken_refused}
use Rattle.total.proofs.Laws.Add.{changed_worth, addable_is, addable_not, says_added, says_left}
use Rattle.total.proofs.adding.add.Goals as goal

pub returns-then-total-ne-WORDS : goal.returns-then-total-ne-WORDS
returns-then-total-ne-WORDS c =
    let start = c.args in says_left _ _ (addable_not start.total.now start.x c.if-total-ne-WORDS.true)

pub returns-in_default : goal.returns-in_default
returns-in_default c =
    let start = c.args in
    says_left _ _ (addable_is start.total.now start.x c.if-total-ne-WORDS.false
    ∙ taken_refused _ _ c.take_apart.ensures _ c.in_default.is)

pub put-requires : goal.put-requires
put-requires c =
    let held : T (fits binary64 c.args.x) = subst T (sym c.well_formed.1.0.1) tt in
    let parts_mean : Means c.args.x c.in-Ok.p = taken_means _ _ c.take_apart.ensures held _ c.in-Ok.is in
    let m = parts_mean in
    (c.if-total-ne-WORDS.false, (m.significand_range, m.exponent_range))

pub returns : goal.returns
returns c =
    let held : T (fits binary64 c.args.x) = subst T (sym c.well_formed.1.0.1) tt in
    let parts_mean : Means c.args.x c.in-Ok.p = taken_means _ _ c.take_apart.ensures held _ c.in-Ok.is in
    let ws = c.args.total.now in
    let l = c.if-total-ne-WORDS.false in
    let f : finite c.args.x ≡ true = taken_finite _ _ c.take_apart.ensures _ c.in-Ok.is in
    says_added ws _ c.args.x (addable_is ws c.args.x l ∙ f) (record { fin = subst T (sym f) tt; fit = held }) l
    c.put.auto.words
    (λ k h. (c.type_inv.total k).fits)
    (changed_worth _ _ _ _ parts_mean c.put.ensures)
