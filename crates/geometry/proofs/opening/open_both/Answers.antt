-- `opening::open_both` meets its contract: the product of x and y is exact, and so is its negative. Assumes nothing.
use mathlib.Core.Path.{◌≡◌, ap₂, ◌∙◌}
use mathlib.Core.List.{List, [], ◌++◌}
use lib.Dec.{lit≤}
use lib.Ieee.{Float}
use Rattle.double.proofs.Laws.Roundoff.{factors_reach}
use Rattle.point.specs.High.{high_reach}
use Rattle.geometry.specs.Plane.{opened}
use Rattle.geometry.proofs.Laws.Opened.{high_factors, low_factors, high_factors_neg, low_factors_neg, opened_is, opened_neg_is}
use Rattle.geometry.proofs.opening.open_both.Goals as goal

-- four pairs, one after the other
joined : {a b c d w x y z : List Float} → a ≡ w → b ≡ x → c ≡ y → d ≡ z → a ++ (b ++ (c ++ (d ++ []))) ≡ w ++ (x ++ (y ++ (z ++ [])))
joined a b c d = rw (a, b, c, d)

pub exact_product-a-requires : goal.exact_product-a-requires
exact_product-a-requires c =
    let (X, Y, one, other) = c.requires in factors_reach high_reach (lit≤ tt) X Y

pub pair-requires : goal.pair-requires
pair-requires c =
    let (X, Y, one, other) = c.requires in high_factors high_reach (lit≤ tt) X Y one c.exact_product-a.ensures

pub pair-requires-2 : goal.pair-requires-2
pair-requires-2 c =
    let (X, Y, one, other) = c.requires in low_factors high_reach (lit≤ tt) X Y one c.exact_product-a.ensures

pub pair-requires-3 : goal.pair-requires-3
pair-requires-3 c =
    let (X, Y, one, other) = c.requires in high_factors_neg high_reach (lit≤ tt) X Y other c.exact_product-a.ensures

pub pair-requires-4 : goal.pair-requires-4
pair-requires-4 c =
    let (X, Y, one, other) = c.requires in low_factors_neg high_reach (lit≤ tt) X Y other c.exact_product-a.ensures

pub returns : goal.returns
unfolding opened
returns c =
    let (X, Y, one, other) = c.requires in
    let E = c.exact_product-a.ensures in
    joined c.pair.ensures c.pair-2.ensures c.pair-3.ensures c.pair-4.ensures
    ∙ ap₂ (λ (a b : List Float). a ++ (b ++ []))
    (opened_is high_reach (lit≤ tt) X Y one E) (opened_neg_is high_reach (lit≤ tt) X Y other E)
