-- The edges of a zone. In order: edge k of a flat list of corners, and how many there are; a value between two ends; a point on an edge, and how
-- an edge counts, by the comparisons and the sign. Not here: all edges together (`Zone`), the sign itself (`Side`). Assumes nothing.
use mathlib.Core.Path.{◌≡◌, refl, sym, ap, ap₂, ◌∙◌}
use mathlib.Core.Bool.{Bool, true, false, not, cond, ◌&&◌, ◌||◌}
use mathlib.Core.List.{List, [], ◌∷◌}
use Prim.Native.Nat.{ℕ, zero, suc, ◌+◌, ◌*◌, ◌<◌}
use native.Mathlib.Numerals.{add-one}
use native.Mathlib.Omega.{arith}
use lib.Dec.{ltb}
use lib.ListN.{length, drop, length-map}
use lib.Ieee.{Float, binary64, lt, le}
use borrow.Author.Tests.{ltb-true, ltb-false}
use Rattle.double.specs.Worth.{worth}
use Rattle.double.proofs.Laws.Units.{Real}
use Rattle.point.specs.declared.Point.{Point}
use Rattle.point.specs.Spot.{spot_of}
use Rattle.whole.specs.Sign.{sgn}
use Rattle.ground.specs.Compare.{at_most, below, is_zero, is_positive, is_negative}
use Rattle.ground.specs.Plane.{Spot}
use Rattle.ground.specs.Edge.{Edge, edge, edges_from, edges_of, side_of_edge, between, on_edge, is_up, is_down}
use Rattle.sum.specs.Total.{sign_number}
use Rattle.sum.specs.declared.answer.Sign.{Sign}
use Rattle.ground.proofs.Laws.Compare.{below_not, sgn_is_zero, sgn_is_positive, sgn_is_negative}
use Rattle.geometry.specs.Parts.{lies_between, crossing_of}
use Rattle.geometry.specs.Zone.{points_of, corners_of, corner_at, next_of}
use Rattle.geometry.proofs.Laws.Corners.{corners_count, corner_later}
use Rattle.point.proofs.Laws.Worths.{RealPoint, le_worth, lt_worth}
use Rattle.geometry.specs.declared.answer.Crossing.{Crossing}
use Rattle.geometry.specs.declared.answer.Crossing.TheVariants.{None, Up, Down}

-- ---- corners and edges by number
abbrev corner : Float → Float → Spot
corner x y = spot_of (record { x = x; y = y })

-- what corner k is worth
abbrev spot_at : List Float → ℕ → Spot
spot_at xs k = spot_of (corner_at xs k)

spot_later : (x y : Float) (xs : List Float) (k : ℕ) → spot_at xs k ≡ spot_at (x ∷ y ∷ xs) (suc k)
spot_later x y xs k = ap spot_of (corner_later x y xs k)

-- an edge to the next corner
edges_inner : (first : Spot) (x y : Float) (xs : List Float) (k : ℕ) → 2 * k + 1 < length xs
    → drop k (edges_from first (corner x y) (corners_of xs))
    ≡ edge (spot_at (x ∷ y ∷ xs) k) (spot_at (x ∷ y ∷ xs) (suc k)) ∷ drop (suc k) (edges_from first (corner x y) (corners_of xs))
unfolding corners_of edges_from
edges_inner first x y [] k h = let z : ⊥ = omega arith in absurd z
edges_inner first x y (u ∷ []) k h = let z : ⊥ = omega arith in absurd z
edges_inner first x y (u ∷ v ∷ xs) zero h = refl
edges_inner first x y (u ∷ v ∷ xs) (suc k) h =
    edges_inner first u v xs k (omega arith)
    ∙ ap₂ (λ (a b : Spot). edge a b ∷ drop (suc k) (edges_from first (corner u v) (corners_of xs)))
    (spot_later x y (u ∷ v ∷ xs) k) (spot_later x y (u ∷ v ∷ xs) (suc k))

-- the last edge closes the row
edges_last : (first : Spot) (x y : Float) (xs : List Float) (k : ℕ) → length xs ≡ 2 * k
    → drop k (edges_from first (corner x y) (corners_of xs))
    ≡ edge (spot_at (x ∷ y ∷ xs) k) first ∷ drop (suc k) (edges_from first (corner x y) (corners_of xs))
unfolding corners_of edges_from
edges_last first x y [] zero h = refl
edges_last first x y [] (suc k) h = let z : ⊥ = omega arith in absurd z
edges_last first x y (u ∷ []) k h = let z : ⊥ = omega arith in absurd z
edges_last first x y (u ∷ v ∷ xs) zero h = let z : ⊥ = omega arith in absurd z
edges_last first x y (u ∷ v ∷ xs) (suc k) h =
    edges_last first u v xs k (omega arith)
    ∙ ap (λ (a : Spot). edge a first ∷ drop (suc k) (edges_from first (corner u v) (corners_of xs))) (spot_later x y (u ∷ v ∷ xs) k)

pub edges_drop : (xs : List Float) (n k : ℕ) → length xs ≡ 2 * n → k < n
    → drop k (edges_of (corners_of xs)) ≡ edge (spot_at xs k) (spot_at xs (next_of n k)) ∷ drop (k + 1) (edges_of (corners_of xs))
unfolding corners_of edges_of
edges_drop [] n k e h = let z : ⊥ = omega arith in absurd z
edges_drop (x ∷ []) n k e h = let z : ⊥ = omega arith in absurd z
edges_drop (x ∷ y ∷ xs) n k e h = go (ltb (k + 1) n) refl
  where
    row : List Edge
    row = edges_from (corner x y) (corner x y) (corners_of xs)

    go : (b : Bool) → ltb (k + 1) n ≡ b
        → drop k row ≡ edge (spot_at (x ∷ y ∷ xs) k) (spot_at (x ∷ y ∷ xs) (cond b (k + 1) 0)) ∷ drop (k + 1) row
    go true t =
        edges_inner (corner x y) x y xs k (omega (arith, ltb-true (k + 1) n t))
        ∙ ap (λ (i : ℕ). edge (spot_at (x ∷ y ∷ xs) k) (spot_at (x ∷ y ∷ xs) i) ∷ drop i row) (sym (add-one k))
    go false t =
        edges_last (corner x y) x y xs k (omega (arith, ltb-false (k + 1) n t))
        ∙ ap (λ (i : ℕ). edge (spot_at (x ∷ y ∷ xs) k) (corner x y) ∷ drop i row) (sym (add-one k))

-- as many edges as corners
edges_from_length : (first a : Spot) (rest : List Spot) → length (edges_from first a rest) ≡ suc (length rest)
unfolding edges_from
edges_from_length first a [] = refl
edges_from_length first a (b ∷ rest) = ap suc (edges_from_length first b rest)

corners_length : (xs : List Float) (n : ℕ) → length xs ≡ 2 * n → length (corners_of xs) ≡ n
unfolding corners_of
corners_length xs n e = length-map (points_of xs) spot_of ∙ omega (arith, corners_count xs)

pub edges_length : (xs : List Float) (n : ℕ) → length xs ≡ 2 * n → length (edges_of (corners_of xs)) ≡ n
unfolding edges_of
edges_length xs n e = row_length (corners_of xs) ∙ corners_length xs n e
  where
    row_length : (ps : List Spot) → length (edges_of ps) ≡ length ps
    row_length [] = refl
    row_length (a ∷ rest) = edges_from_length a a rest

-- ---- between two ends
between_worth : (a b v : Float) → Real binary64 a → Real binary64 b → Real binary64 v
    → lies_between a b v ≡ between (worth a) (worth b) (worth v)
between_worth a b v ra rb rv =
    ap₂ (λ (s t : Bool). s || t)
    (ap₂ (λ (s t : Bool). s && t) (le_worth a v ra rv) (le_worth v b rv rb))
    (ap₂ (λ (s t : Bool). s && t) (le_worth b v rb rv) (le_worth v a rv ra))

-- ---- on an edge
middle_fails : (a b c : Bool) → b ≡ false → false ≡ (a && (b && c))
middle_fails true b c h = rw h
middle_fails false b c h = refl

last_fails : (a b c : Bool) → c ≡ false → false ≡ (a && (b && c))
last_fails true true c h = sym h
last_fails true false c h = refl
last_fails false b c h = refl

-- between the ends, the sign decides
first_decides : (z a b c : Bool) → z ≡ a → b ≡ true → c ≡ true → z ≡ (a && (b && c))
first_decides z true b c e h k = rw (h, k) e
first_decides z false b c e h k = e

-- ---- how an edge counts
abbrev crossed : Bool → Bool → Bool → Bool → Bool → Bool → Crossing
crossed a b c d e f = cond ((a && b) && c) Up (cond ((d && e) && f) Down None)

-- the tests of an edge that goes up, of one that does not reach above, of one that goes down, and of one that stays above
module _ (a b c d e f : Bool) where
  not_down : (c d f : Bool) → cond c Up None ≡ cond c Up (cond ((d && false) && f) Down None)
  not_down true d f = refl
  not_down false true f = refl
  not_down false false f = refl

  crossed_rising : a ≡ true → b ≡ true → e ≡ false → cond c Up None ≡ crossed a b c d e f
  crossed_rising h k l = rw (h, k, l) (not_down c d f)

  crossed_under : a ≡ true → b ≡ false → e ≡ false → None ≡ crossed a b c d e f
  crossed_under h k l = rw (h, k, l) (not_down false d f)

  crossed_falling : a ≡ false → d ≡ true → e ≡ true → cond f Down None ≡ crossed a b c d e f
  crossed_falling h k l = rw (h, k, l)

  crossed_over : a ≡ false → d ≡ false → None ≡ crossed a b c d e f
  crossed_over h k = rw (h, k)

-- ---- the edge from a to b and the point p, by comparisons of doubles and the sign
module _ (a b p : Point) (A : RealPoint a) (B : RealPoint b) (P : RealPoint p) where
  abbrev e : Edge
  e = edge (spot_of a) (spot_of b)

  abbrev z : Spot
  z = spot_of p

  x_between : lies_between a.x b.x p.x ≡ between e.from.x e.to.x z.x
  x_between = between_worth a.x b.x p.x A.x B.x P.x

  y_between : lies_between a.y b.y p.y ≡ between e.from.y e.to.y z.y
  y_between = between_worth a.y b.y p.y A.y B.y P.y

  pub edge_apart_x : lies_between a.x b.x p.x ≡ false → false ≡ on_edge e z
  unfolding on_edge
  edge_apart_x h =
      middle_fails (is_zero (side_of_edge e z)) (between e.from.x e.to.x z.x) (between e.from.y e.to.y z.y)
      (sym x_between ∙ h)

  pub edge_apart_y : lies_between a.y b.y p.y ≡ false → false ≡ on_edge e z
  unfolding on_edge
  edge_apart_y h =
      last_fails (is_zero (side_of_edge e z)) (between e.from.x e.to.x z.x) (between e.from.y e.to.y z.y)
      (sym y_between ∙ h)

  -- the heights
  from_worth : le a.y p.y ≡ at_most e.from.y z.y
  from_worth = le_worth a.y p.y A.y P.y

  to_worth : le b.y p.y ≡ at_most e.to.y z.y
  to_worth = le_worth b.y p.y B.y P.y

  under_worth : lt p.y b.y ≡ below z.y e.to.y
  under_worth = lt_worth p.y b.y P.y B.y

  pub crossing_under : le a.y p.y ≡ true → lt p.y b.y ≡ false → None ≡ crossing_of e z
  unfolding is_up is_down
  crossing_under h k =
      let at : at_most e.from.y z.y ≡ true = sym from_worth ∙ h in
      crossed_under _ _ _ (at_most e.to.y z.y) _ (is_negative (side_of_edge e z)) at (sym under_worth ∙ k)
      (below_not e.from.y z.y ∙ ap not at)

  pub crossing_over : le a.y p.y ≡ false → le b.y p.y ≡ false → None ≡ crossing_of e z
  unfolding is_up is_down
  crossing_over h k = crossed_over _ _ _ _ _ _ (sym from_worth ∙ h) (sym to_worth ∙ k)

  -- and the sign
  module _ (s : Sign) (told : sign_number s ≡ sgn (side_of_edge e z)) where
    pub edge_met : lies_between a.y b.y p.y ≡ true → lies_between a.x b.x p.x ≡ true → is_zero (sign_number s) ≡ on_edge e z
    unfolding on_edge
    edge_met y x =
        let d = side_of_edge e z in
        first_decides (is_zero (sign_number s)) (is_zero d) (between e.from.x e.to.x z.x) (between e.from.y e.to.y z.y)
        (ap is_zero told ∙ sgn_is_zero d) (sym x_between ∙ x) (sym y_between ∙ y)

    pub crossing_rising : le a.y p.y ≡ true → lt p.y b.y ≡ true → cond (is_positive (sign_number s)) Up None ≡ crossing_of e z
    unfolding is_up is_down
    crossing_rising from to =
        let at : at_most e.from.y z.y ≡ true = sym from_worth ∙ from in
        ap (λ (t : Bool). cond t Up None) (ap is_positive told ∙ sgn_is_positive (side_of_edge e z))
        ∙ crossed_rising _ _ _ (at_most e.to.y z.y) _ (is_negative (side_of_edge e z)) at (sym under_worth ∙ to)
        (below_not e.from.y z.y ∙ ap not at)

    pub crossing_falling : le a.y p.y ≡ false → le b.y p.y ≡ true → cond (is_negative (sign_number s)) Down None ≡ crossing_of e z
    unfolding is_up is_down
    crossing_falling from to =
        let at : at_most e.from.y z.y ≡ false = sym from_worth ∙ from in
        ap (λ (t : Bool). cond t Down None) (ap is_negative told ∙ sgn_is_negative (side_of_edge e z))
        ∙ crossed_falling _ _ _ _ _ _ at (sym to_worth ∙ to) (below_not e.from.y z.y ∙ ap not at)
