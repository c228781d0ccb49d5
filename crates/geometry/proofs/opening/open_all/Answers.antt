-- `opening::open_all` meets its contract: four times 24 summands are all of the list. Assumes nothing.
use mathlib.Core.Path.{◌≡◌, sym, ap₂, ◌∙◌, subst}
use mathlib.Core.Bool.{Bool, true}
use mathlib.Core.List.{List, [], ◌++◌}
use lib.Dec.{T}
use lib.Ieee.{Float, binary64, fits, neg}
use Rattle.double.proofs.Laws.Negated.{neg_neg, sized_neg}
use Rattle.point.specs.High.{high_reach, HighAccepted}
use Rattle.point.specs.declared.HighPoint.{HighPoint}
use Rattle.point.proofs.Laws.Within.{HighWithin, high_accepted_within}
use Rattle.geometry.specs.Plane.{opened}
use Rattle.geometry.specs.Parts.{six_from}
use Rattle.geometry.proofs.opening.open_all.Goals as goal

-- what owning the points tells: the format holds their coordinates
held : {b : Bool} → b ≡ true → T b
held e = subst T (sym e) tt

within : (p : HighPoint) → fits binary64 p.x ≡ true → fits binary64 p.y ≡ true → fits binary64 p.height ≡ true → HighAccepted p
    → HighWithin high_reach p
within p x y height a = high_accepted_within p (record { x = held x; y = held y; height = held height }) a

joined : {a b c d w x y z : List Float} → a ≡ w → b ≡ x → c ≡ y → d ≡ z → a ++ (b ++ (c ++ (d ++ []))) ≡ w ++ (x ++ (y ++ (z ++ [])))
joined a b c d = rw (a, b, c, d)

pub open_each-requires : goal.open_each-requires
open_each-requires c =
    let p = c.well_formed.0.1.1 in
    let P = within c.args.p p.0.1 p.1.0.1 p.1.1.0.1 c.requires.0 in
    let q = c.well_formed.1.0.1.1 in
    let Q = within c.args.q q.0.1 q.1.0.1 q.1.1.0.1 c.requires.1 in
    let r = c.well_formed.1.1.0.1.1 in
    let R = within c.args.r r.0.1 r.1.0.1 r.1.1.0.1 c.requires.2 in
    let s = c.well_formed.1.1.1.0.1.1 in
    let S = within c.args.s s.0.1 s.1.0.1 s.1.1.0.1 c.requires.3 in
    (P.x, Q, R, S)

pub open_each-requires-2 : goal.open_each-requires-2
open_each-requires-2 c =
    let p = c.well_formed.0.1.1 in
    let P = within c.args.p p.0.1 p.1.0.1 p.1.1.0.1 c.requires.0 in
    let q = c.well_formed.1.0.1.1 in
    let Q = within c.args.q q.0.1 q.1.0.1 q.1.1.0.1 c.requires.1 in
    let r = c.well_formed.1.1.0.1.1 in
    let R = within c.args.r r.0.1 r.1.0.1 r.1.1.0.1 c.requires.2 in
    let s = c.well_formed.1.1.1.0.1.1 in
    let S = within c.args.s s.0.1 s.1.0.1 s.1.1.0.1 c.requires.3 in
    (sized_neg Q.x, P, R, S)

pub open_each-requires-3 : goal.open_each-requires-3
open_each-requires-3 c =
    let p = c.well_formed.0.1.1 in
    let P = within c.args.p p.0.1 p.1.0.1 p.1.1.0.1 c.requires.0 in
    let q = c.well_formed.1.0.1.1 in
    let Q = within c.args.q q.0.1 q.1.0.1 q.1.1.0.1 c.requires.1 in
    let r = c.well_formed.1.1.0.1.1 in
    let R = within c.args.r r.0.1 r.1.0.1 r.1.1.0.1 c.requires.2 in
    let s = c.well_formed.1.1.1.0.1.1 in
    let S = within c.args.s s.0.1 s.1.0.1 s.1.1.0.1 c.requires.3 in
    (R.x, P, Q, S)

pub open_each-requires-4 : goal.open_each-requires-4
open_each-requires-4 c =
    let p = c.well_formed.0.1.1 in
    let P = within c.args.p p.0.1 p.1.0.1 p.1.1.0.1 c.requires.0 in
    let q = c.well_formed.1.0.1.1 in
    let Q = within c.args.q q.0.1 q.1.0.1 q.1.1.0.1 c.requires.1 in
    let r = c.well_formed.1.1.0.1.1 in
    let R = within c.args.r r.0.1 r.1.0.1 r.1.1.0.1 c.requires.2 in
    let s = c.well_formed.1.1.1.0.1.1 in
    let S = within c.args.s s.0.1 s.1.0.1 s.1.1.0.1 c.requires.3 in
    (sized_neg S.x, P, Q, R)

pub returns : goal.returns
unfolding opened
returns c =
    let a = c.args in
    joined c.open_each.ensures c.open_each-2.ensures c.open_each-3.ensures c.open_each-4.ensures
    ∙ ap₂ (λ (y z : Float). opened (six_from a.p.x (neg a.p.x) a.q a.r a.s ++ six_from (neg a.q.x) y a.p a.r a.s
    ++ six_from a.r.x (neg a.r.x) a.p a.q a.s ++ six_from (neg a.s.x) z a.p a.q a.r))
    (neg_neg a.q.x) (neg_neg a.s.x)
