-- One edge. In order: the determinant of a turned edge is the negative, and the turn is the same begun at the next point; a value between two
-- others, from the order and back; what it says that a point is on an edge; the edge from its other end has the same points on it, and counts up
-- where the other counts down; no edge counts both ways.
-- Not here: lists of edges (`Tally`). Assumes nothing.
use mathlib.Core.Path.{◌≡◌, refl, sym, ◌∙◌, subst}
use mathlib.Core.Bool.{Bool, true, false, ◌&&◌, ◌||◌}
use mathlib.Core.List.{[], ◌∷◌}
use mathlib.Core.Logic.{◌⊎◌, inl, inr}
use Prim.Native.Nat.{zero, suc}
use native.Mathlib.Omega.{arith}
use lib.Dec.{T}
use lib.IntN.{ℤ, pos, negsuc, neg_ℤ, ◌-ℤ◌, ◌*ℤ◌}
use Rattle.whole.specs.Order.{◌≤ᶻ◌, ◌<ᶻ◌}
use Rattle.whole.proofs.Laws.Linear.{ints, int_rules}
use Rattle.whole.proofs.Laws.Ring.{Expr, ◌:-◌, ◌:*◌, opp, solve}
use Rattle.ground.specs.Compare.{at_most, below, is_zero, is_positive, is_negative}
use Rattle.ground.specs.Plane.{Spot, determinant}
use Rattle.ground.specs.Edge.{Edge, side_of_edge, between, on_edge, is_up, is_down}
use Rattle.ground.specs.Listing.{turned_round}
use Rattle.ground.proofs.Laws.Compare.{at_most_says, negated_zero, negated_positive, negated_negative, one_sign}

-- ---- the determinant
abbrev det : ℤ → ℤ → ℤ → ℤ → ℤ → ℤ → ℤ
det px py qx qy rx ry = (qx -ℤ px) *ℤ (ry -ℤ py) -ℤ (qy -ℤ py) *ℤ (rx -ℤ px)

abbrev det_expr : Expr → Expr → Expr → Expr → Expr → Expr → Expr
det_expr px py qx qy rx ry = (qx :- px) :* (ry :- py) :- (qy :- py) :* (rx :- px)

det_round : (px py qx qy rx ry : ℤ) → det qx qy px py rx ry ≡ neg_ℤ (det px py qx qy rx ry)
det_round = solve 6 (λ px py qx qy rx ry. (det_expr qx qy px py rx ry, opp (det_expr px py qx qy rx ry))) refl

pub determinant_round : (p q r : Spot) → determinant q p r ≡ neg_ℤ (determinant p q r)
determinant_round p q r = det_round p.x p.y q.x q.y r.x r.y

-- the same turn, begun at the next point
pub turn_around : (a b c : Spot) → pos 0 <ᶻ determinant a b c → pos 0 <ᶻ determinant b c a
turn_around a b c =
    ints (a.x ∷ a.y ∷ b.x ∷ b.y ∷ c.x ∷ c.y ∷ []) (λ ρ v n m. simp (int_rules, n, v 0, v 1, v 2, v 3, v 4, v 5) (omega arith))

-- ---- between two values
either_order : (s t : Bool) → (s || t) ≡ (t || s)
either_order true true = refl
either_order true false = refl
either_order false true = refl
either_order false false = refl

pub between_round : (a b v : ℤ) → between b a v ≡ between a b v
between_round a b v = either_order (at_most b v && at_most v a) (at_most a v && at_most v b)

pub between_told : (a b v : ℤ) → ((a ≤ᶻ v) × (v ≤ᶻ b)) ⊎ ((b ≤ᶻ v) × (v ≤ᶻ a)) → between a b v ≡ true
between_told a b v (inl h) = rw ((at_most_says a v).1 h.0, (at_most_says v b).1 h.1)
between_told a b v (inr h) = sym (between_round a b v) ∙ rw ((at_most_says b v).1 h.0, (at_most_says v a).1 h.1)

false_not : {A : Type 0} → ◌≡◌ {A = Bool} false true → A
false_not e = absurd (subst T (sym e) tt)

pub between_says : (a b v : ℤ) → between a b v ≡ true → ((a ≤ᶻ v) × (v ≤ᶻ b)) ⊎ ((b ≤ᶻ v) × (v ≤ᶻ a))
between_says a b v e = go (at_most a v) (at_most v b) (at_most b v) (at_most v a) refl refl refl refl e
  where
    go : (p q r s : Bool) → at_most a v ≡ p → at_most v b ≡ q → at_most b v ≡ r → at_most v a ≡ s → ((p && q) || (r && s)) ≡ true
        → ((a ≤ᶻ v) × (v ≤ᶻ b)) ⊎ ((b ≤ᶻ v) × (v ≤ᶻ a))
    go true true r s i j k l e = inl ((at_most_says a v).0 i, (at_most_says v b).0 j)
    go true false true true i j k l e = inr ((at_most_says b v).0 k, (at_most_says v a).0 l)
    go true false true false i j k l e = false_not e
    go true false false s i j k l e = false_not e
    go false q true true i j k l e = inr ((at_most_says b v).0 k, (at_most_says v a).0 l)
    go false q true false i j k l e = false_not e
    go false q false s i j k l e = false_not e

-- ---- a point on an edge
pub on_says : (e : Edge) (p : Spot) → on_edge e p ≡ true
    → (side_of_edge e p ≡ pos 0) × (between e.from.x e.to.x p.x ≡ true) × (between e.from.y e.to.y p.y ≡ true)
unfolding on_edge
on_says e p h =
    let (z, box) = both (is_zero (side_of_edge e p)) _ h in
    let (x, y) = both (between e.from.x e.to.x p.x) (between e.from.y e.to.y p.y) box in
    (zero_says (side_of_edge e p) z, x, y)
  where
    both : (s t : Bool) → (s && t) ≡ true → (s ≡ true) × (t ≡ true)
    both true t e = (refl, e)
    both false t e = false_not e

    zero_says : (z : ℤ) → is_zero z ≡ true → z ≡ pos 0
    zero_says (pos zero) e = refl
    zero_says (pos (suc n)) e = false_not e
    zero_says (negsuc n) e = false_not e

-- ---- the edge turned round, and no edge both ways
once : (s t : Bool) (z : ℤ) → (s && is_positive z) ≡ true → (t && is_negative z) ≡ false
once true true z e = one_sign z e
once true false z e = refl
once false true z e = absurd (subst T (sym e) tt)
once false false z e = refl

module _ (e : Edge) (p : Spot) where
  pub side_round : side_of_edge (turned_round e) p ≡ neg_ℤ (side_of_edge e p)
  side_round = determinant_round e.from e.to p

  pub on_round : on_edge (turned_round e) p ≡ on_edge e p
  unfolding on_edge
  on_round = rw (side_round, negated_zero (side_of_edge e p), between_round e.from.x e.to.x, between_round e.from.y e.to.y)

  pub up_round : is_up (turned_round e) p ≡ is_down e p
  unfolding is_up is_down
  up_round = rw (side_round, negated_positive)

  pub down_round : is_down (turned_round e) p ≡ is_up e p
  unfolding is_up is_down
  down_round = rw (side_round, negated_negative)

  -- no edge counts both ways
  pub crossing_once : is_up e p ≡ true → is_down e p ≡ false
  unfolding is_up is_down
  crossing_once =
      once (at_most e.from.y p.y && below p.y e.to.y) (at_most e.to.y p.y && below p.y e.from.y) (side_of_edge e p)
