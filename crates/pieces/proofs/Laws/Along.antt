-- A point of a piece's line. In order: sides from the other end and with the axes exchanged, and those of the ends; a point of the line lies on the
-- piece by its x, where the piece is not upright, and by its box. Assumes nothing.
use mathlib.Core.Path.{◌≡◌, refl, sym, ap, ap₂, subst, ◌∙◌}
use mathlib.Core.List.{[], ◌∷◌}
use mathlib.Core.Logic.{◌⊎◌, inl, inr}
use native.Mathlib.Omega.{arith}
use lib.IntN.{ℤ, pos, neg_ℤ, ◌+ℤ◌, ◌-ℤ◌, ◌*ℤ◌}
use Rattle.whole.specs.Order.{◌≤ᶻ◌, ◌<ᶻ◌}
use Rattle.whole.proofs.Laws.Ring.{Expr, ◌:-◌, ◌:*◌, opp, solve}
use Rattle.whole.proofs.Laws.Linear.{ints, int_rules}
use Rattle.whole.proofs.Laws.Order.{Compared, less, equal, more, compared}
use Rattle.ground.specs.Plane.{Spot}
use Rattle.ground.specs.Edge.{Edge, side_of_edge}
use Rattle.ground.specs.Listing.{turned_round}
use Rattle.ground.proofs.Laws.Edges.{side_round}
use Rattle.pieces.specs.Place.{at}
use Rattle.pieces.specs.Meeting.{LiesOn}
use Rattle.pieces.specs.Parts.{lesser, greater}
use Rattle.pieces.proofs.Laws.Places.{on_from, on_turned}
use Rattle.pieces.proofs.Laws.Words.{flipped, flipped_edge, on_flipped}
use Rattle.pieces.proofs.Laws.Ranges.{less-≤, ≤_refl, ≤_both, gap_nonneg, gap_positive}
use Rattle.pieces.proofs.Laws.Ranges.{lesser_is, greater_is, lesser_other, greater_other}

-- ---- sides
pub side_turned : (a : Edge) (p : Spot) → side_of_edge a p ≡ pos 0 → side_of_edge (turned_round a) p ≡ pos 0
side_turned a p e = side_round a p ∙ ap neg_ℤ e

abbrev pub det_expr : Expr → Expr → Expr → Expr → Expr → Expr → Expr
det_expr px py qx qy rx ry = (qx :- px) :* (ry :- py) :- (qy :- py) :* (rx :- px)

pub side_flipped : (a : Edge) (p : Spot) → side_of_edge a p ≡ pos 0 → side_of_edge (flipped_edge a) (flipped p) ≡ pos 0
side_flipped a p e = go a.from.x a.from.y a.to.x a.to.y p.x p.y ∙ ap neg_ℤ e
  where
    go : (px py qx qy rx ry : ℤ) → (qy -ℤ py) *ℤ (rx -ℤ px) -ℤ (qx -ℤ px) *ℤ (ry -ℤ py)
        ≡ neg_ℤ ((qx -ℤ px) *ℤ (ry -ℤ py) -ℤ (qy -ℤ py) *ℤ (rx -ℤ px))
    go = solve 6 (λ px py qx qy rx ry. (det_expr py px qy qx ry rx, opp (det_expr px py qx qy rx ry))) refl

-- the ends of a piece are on its line
pub from_side : (a : Edge) → side_of_edge a a.from ≡ pos 0
from_side a =
    ints (a.from.x ∷ a.from.y ∷ a.to.x ∷ a.to.y ∷ []) (λ ρ v n m. simp (int_rules, n, v 0, v 1, v 2, v 3) (omega arith))

pub to_side : (a : Edge) → side_of_edge a a.to ≡ pos 0
to_side a =
    ints (a.from.x ∷ a.from.y ∷ a.to.x ∷ a.to.y ∷ []) (λ ρ v n m. simp (int_rules, n, v 0, v 1, v 2, v 3) (omega arith))

pub spot_is : (p q : Spot) → p.x ≡ q.x → p.y ≡ q.y → p ≡ q
spot_is p q e f = ap₂ (λ (x y : ℤ). let s : Spot = record { x = x; y = y } in s) e f

-- ---- a point of the line, by its x
module _ (a : Edge) (p : Spot) (side : side_of_edge a p ≡ pos 0) where
  pub along : a.from.x <ᶻ a.to.x → a.from.x ≤ᶻ p.x → p.x ≤ᶻ a.to.x → LiesOn a (at p)
  along h l m = record {
    t = record { top = p.x -ℤ a.from.x; bottom = a.to.x -ℤ a.from.x; positive = gap_positive a.from.x a.to.x h };
    least = gap_nonneg a.from.x p.x l;
    most = most a.from.x p.x a.to.x m;
    x = way_x a.from.x a.to.x p.x;
    y = way_y a.from.x a.from.y a.to.x a.to.y p.x p.y side;
  }
    where
      most : (a p b : ℤ) → p ≤ᶻ b → p -ℤ a ≤ᶻ b -ℤ a
      most a p b = ints (a ∷ p ∷ b ∷ []) (λ ρ v n m. simp (int_rules, v 0, v 1, v 2) (omega arith))

      way_x : (a b p : ℤ) → p *ℤ (b -ℤ a) ≡ (a *ℤ (b -ℤ a) +ℤ (b -ℤ a) *ℤ (p -ℤ a)) *ℤ pos 1
      way_x a b p = ints (a ∷ b ∷ p ∷ []) (λ ρ v n m. simp (int_rules, n, v 0, v 1, v 2) (omega arith))

      way_y : (ax ay bx by px py : ℤ) → (bx -ℤ ax) *ℤ (py -ℤ ay) -ℤ (by -ℤ ay) *ℤ (px -ℤ ax) ≡ pos 0
          → py *ℤ (bx -ℤ ax) ≡ (ay *ℤ (bx -ℤ ax) +ℤ (by -ℤ ay) *ℤ (px -ℤ ax)) *ℤ pos 1
      way_y ax ay bx by px py =
          ints (ax ∷ ay ∷ bx ∷ by ∷ px ∷ py ∷ []) (λ ρ v n m. simp (int_rules, n, v 0, v 1, v 2, v 3, v 4, v 5) (omega arith))

-- v lies in the range of a and b
pub record InRange (a b v : ℤ) : Type 0 where
  pub least : lesser a b ≤ᶻ v
  pub most : v ≤ᶻ greater a b

abbrev pub Uneven : ℤ → ℤ → Type 0
Uneven a b = (a <ᶻ b) ⊎ (b <ᶻ a)

line_on : (a : Edge) (p : Spot) → side_of_edge a p ≡ pos 0 → Uneven a.from.x a.to.x → InRange a.from.x a.to.x p.x → LiesOn a (at p)
line_on a p side (inl h) i =
    let le = less-≤ a.from.x a.to.x h in
    along a p side h (subst (λ (z : ℤ). z ≤ᶻ p.x) (lesser_is a.from.x a.to.x le) i.least)
    (subst (λ (z : ℤ). p.x ≤ᶻ z) (greater_is a.from.x a.to.x le) i.most)
line_on a p side (inr h) i =
    let le = less-≤ a.to.x a.from.x h in
    on_turned (turned_round a) (at p)
    (along (turned_round a) p (side_turned a p side) h (subst (λ (z : ℤ). z ≤ᶻ p.x) (lesser_other a.from.x a.to.x le) i.least)
    (subst (λ (z : ℤ). p.x ≤ᶻ z) (greater_other a.from.x a.to.x le) i.most))

-- .. and by its box
pub point_on : (a : Edge) (p : Spot) → side_of_edge a p ≡ pos 0 → InRange a.from.x a.to.x p.x → InRange a.from.y a.to.y p.y
    → LiesOn a (at p)
point_on a p side i j = go (compared a.from.x a.to.x) (compared a.from.y a.to.y)
  where
    upright : Uneven a.from.y a.to.y → LiesOn a (at p)
    upright h = on_flipped (flipped_edge a) (at (flipped p)) (line_on (flipped_edge a) (flipped p) (side_flipped a p side) h j)

    pinned : (b c v : ℤ) → b ≡ c → InRange b c v → b ≡ v
    pinned b c v e k =
        let le = subst (λ (z : ℤ). b ≤ᶻ z) e (≤_refl b) in
        ≤_both b v (subst (λ (z : ℤ). z ≤ᶻ v) (lesser_is b c le) k.least)
        (subst (λ (z : ℤ). v ≤ᶻ z) (greater_is b c le ∙ sym e) k.most)

    go : Compared a.from.x a.to.x → Compared a.from.y a.to.y → LiesOn a (at p)
    go (less h) k = line_on a p side (inl h) i
    go (more h) k = line_on a p side (inr h) i
    go (equal e) (less h) = upright (inl h)
    go (equal e) (more h) = upright (inr h)
    go (equal e) (equal f) =
        subst (λ (q : Spot). LiesOn a (at q)) (spot_is a.from p (pinned _ _ p.x e i) (pinned _ _ p.y f j)) (on_from a)
