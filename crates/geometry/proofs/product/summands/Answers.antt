-- `product::summands` meets its contract: coordinates of accepted points, and their negations, may be multiplied. Assumes nothing.
use mathlib.Core.Path.{◌≡◌}
use mathlib.Core.List.{List, [], ◌++◌}
use lib.Dec.{lit≤}
use lib.Ieee.{Float, neg}
use borrow.Author.Rules.{rules}
use Rattle.double.proofs.Laws.ExactProduct.{Factors}
use Rattle.double.proofs.Laws.Sized.{Reach}
use Rattle.double.proofs.Laws.Negated.{sized_neg}
use Rattle.double.proofs.Laws.Roundoff.{factors_reach}
use Rattle.point.specs.Accepted.{reach}
use Rattle.geometry.proofs.Laws.Owned.{owned_within}
use Rattle.geometry.specs.Product.{summands_of}
use Rattle.geometry.proofs.product.summands.Goals as goal

-- six pairs, one after the other
joined : {a b c d e f u v w x y z : List Float} → a ≡ u → b ≡ v → c ≡ w → d ≡ x → e ≡ y → f ≡ z
    → a ++ (b ++ (c ++ (d ++ (e ++ (f ++ []))))) ≡ u ++ (v ++ (w ++ (x ++ (y ++ (z ++ [])))))
joined a b c d e f = rw (a, b, c, d, e, f)

-- coordinates of accepted points, and their negations, may be multiplied
factors : {x y : Float} → Reach reach x → Reach reach y → Factors x y
factors X Y = factors_reach reach (lit≤ tt) X Y

negated : {x : Float} → Reach reach x → Reach reach (neg x)
negated X = sized_neg X

pub pair-requires : goal.pair-requires
pair-requires c =
    let P = owned_within _ c.well_formed.0.1.1.0.1 c.well_formed.0.1.1.1.0.1 c.requires.0 in
    let Q = owned_within _ c.well_formed.1.0.1.1.0.1 c.well_formed.1.0.1.1.1.0.1 c.requires.1 in
    let R = owned_within _ c.well_formed.1.1.0.1.1.0.1 c.well_formed.1.1.0.1.1.1.0.1 c.requires.2 in
    search (rules, factors)

pub pair-requires-2 : goal.pair-requires-2
pair-requires-2 c =
    let P = owned_within _ c.well_formed.0.1.1.0.1 c.well_formed.0.1.1.1.0.1 c.requires.0 in
    let Q = owned_within _ c.well_formed.1.0.1.1.0.1 c.well_formed.1.0.1.1.1.0.1 c.requires.1 in
    let R = owned_within _ c.well_formed.1.1.0.1.1.0.1 c.well_formed.1.1.0.1.1.1.0.1 c.requires.2 in
    search (rules, factors, negated)

pub pair-requires-3 : goal.pair-requires-3
pair-requires-3 c =
    let P = owned_within _ c.well_formed.0.1.1.0.1 c.well_formed.0.1.1.1.0.1 c.requires.0 in
    let Q = owned_within _ c.well_formed.1.0.1.1.0.1 c.well_formed.1.0.1.1.1.0.1 c.requires.1 in
    let R = owned_within _ c.well_formed.1.1.0.1.1.0.1 c.well_formed.1.1.0.1.1.1.0.1 c.requires.2 in
    search (rules, factors, negated)

pub pair-requires-4 : goal.pair-requires-4
pair-requires-4 c =
    let P = owned_within _ c.well_formed.0.1.1.0.1 c.well_formed.0.1.1.1.0.1 c.requires.0 in
    let Q = owned_within _ c.well_formed.1.0.1.1.0.1 c.well_formed.1.0.1.1.1.0.1 c.requires.1 in
    let R = owned_within _ c.well_formed.1.1.0.1.1.0.1 c.well_formed.1.1.0.1.1.1.0.1 c.requires.2 in
    search (rules, factors, negated)

pub pair-requires-5 : goal.pair-requires-5
pair-requires-5 c =
    let P = owned_within _ c.well_formed.0.1.1.0.1 c.well_formed.0.1.1.1.0.1 c.requires.0 in
    let Q = owned_within _ c.well_formed.1.0.1.1.0.1 c.well_formed.1.0.1.1.1.0.1 c.requires.1 in
    let R = owned_within _ c.well_formed.1.1.0.1.1.0.1 c.well_formed.1.1.0.1.1.1.0.1 c.requires.2 in
    search (rules, factors)

pub pair-requires-6 : goal.pair-requires-6
pair-requires-6 c =
    let P = owned_within _ c.well_formed.0.1.1.0.1 c.well_formed.0.1.1.1.0.1 c.requires.0 in
    let Q = owned_within _ c.well_formed.1.0.1.1.0.1 c.well_formed.1.0.1.1.1.0.1 c.requires.1 in
    let R = owned_within _ c.well_formed.1.1.0.1.1.0.1 c.well_formed.1.1.0.1.1.1.0.1 c.requires.2 in
    search (rules, factors)

pub returns : goal.returns
unfolding summands_of
returns c =
    joined c.pair.ensures c.pair-2.ensures c.pair-3.ensures c.pair-4.ensures c.pair-5.ensures c.pair-6.ensures
