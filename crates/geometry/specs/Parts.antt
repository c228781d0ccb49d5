-- What inner functions of the exact product, the zone and the plane find: believed by no reader, since laws say that side, zone and plane
-- are what their rules say.
use Rattle.std.specs.Prelude.{ℕ, ◌+◌, ◌≡◌, Bool, ◌&&◌, ◌||◌, cond, List, [], ◌∷◌, flat_map, Float, ◌+ℤ◌, ◌*ℤ◌}
use Rattle.std.specs.Float.Ieee.{le, mul}
use Rattle.std.specs.Float.{binary64}
use Rattle.ground.specs.Plane.{Spot}
use Rattle.ground.specs.Edge.{Edge, is_up, is_down}
use Rattle.ground.specs.Zone.{count_of}
use Rattle.point.specs.Spot.{unit}
use Rattle.geometry.specs.declared.answer.Crossing.{Crossing}
use Rattle.geometry.specs.declared.answer.Crossing.TheVariants.{None, Up, Down}
use Rattle.geometry.specs.declared.zones.Counts.{Counts}
use Rattle.double.specs.Worth.{worth}
use Rattle.point.specs.declared.HighPoint.{HighPoint}
use Rattle.geometry.specs.Product.{roundoff_of}
use Rattle.geometry.specs.Plane.{Three, three}
use Rattle.geometry.specs.declared.product.Product.{Product}

-- ---- of the exact product

-- Side 12: product and roundoff, and that nothing is lost: in squares of units it is the product. What is asked of the factors is double's `Factors`.
pub record ExactProduct (x y : Float) (r : Product) : Type 0 where
  pub rounded : r.rounded ≡ mul binary64 x y
  pub roundoff : r.roundoff ≡ roundoff_of x y
  pub exact : (worth (mul binary64 x y) +ℤ worth (roundoff_of x y)) *ℤ unit ≡ worth x *ℤ worth y

-- ---- of doubles

-- between two ends, which count
abbrev pub lies_between : Float → Float → Float → Bool
lies_between a b v = (le a v && le v b) || (le b v && le v a)

-- ---- of the rule

-- how an edge counts
abbrev pub crossing_of : Edge → Spot → Crossing
crossing_of e p = cond (is_up e p) Up (cond (is_down e p) Down None)

-- one edge more in the count
abbrev pub with_edge : Counts → Crossing → Counts
with_edge c None = c
with_edge c Up = record { ups = c.ups + 1; downs = c.downs }
with_edge c Down = record { ups = c.ups; downs = c.downs + 1 }

abbrev pub counts_of : List Edge → Spot → Counts
counts_of es p = record { ups = count_of is_up es p; downs = count_of is_down es p }

-- ---- of the plane

-- the summands: four for each of 24 products
abbrev pub summands : ℕ
summands = 96

-- the six products of one x, in their order: with y and height of three points, by turns x and its negative
abbrev pub six_from : Float → Float → HighPoint → HighPoint → HighPoint → List Three
six_from x turned a b c =
    three x a.y b.height ∷ three turned a.y c.height
    ∷ three turned b.y a.height ∷ three x b.y c.height
    ∷ three x c.y a.height ∷ three turned c.y b.height
    ∷ []

-- the summands that are held as arrays of pairs: eight, the 24 of one x, and all
abbrev pub eight_in : List (List Float) → List Float
eight_in = flat_map (λ pair. pair)

abbrev pub row_in : List (List (List Float)) → List Float
row_in = flat_map eight_in

abbrev pub rows_in : List (List (List (List Float))) → List Float
rows_in = flat_map row_in
