-- A point is on an edge, as Zone 3 has it, exactly where it lies on it as a place. In order: a value between two others, and in their range; the law.
-- Assumes nothing.
use mathlib.Core.Path.{◌≡◌, refl, subst}
use mathlib.Core.Bool.{Bool, true, false, ◌&&◌, ◌||◌}
use mathlib.Core.Logic.{inl, inr, ◌↔◌}
use lib.IntN.{ℤ}
use Rattle.whole.specs.Order.{◌≤ᶻ◌}
use Rattle.whole.proofs.Laws.Order.{<-or-≤}
use Rattle.ground.specs.Compare.{at_most, is_zero}
use Rattle.ground.specs.Plane.{Spot}
use Rattle.ground.specs.Edge.{Edge, between, side_of_edge, on_edge}
use Rattle.ground.proofs.Laws.Compare.{at_most_says}
use Rattle.ground.proofs.Laws.Edges.{between_told}
use Rattle.pieces.specs.Place.{at}
use Rattle.pieces.specs.Meeting.{LiesOn}
use Rattle.pieces.specs.Parts.{lesser, greater}
use Rattle.pieces.proofs.Laws.Places.{on_side_lem}
use Rattle.pieces.proofs.Laws.Words.{flipped, flipped_edge, on_flipped}
use Rattle.pieces.proofs.Laws.Ranges.{less-≤, ≤_trans, lesser_first, lesser_second, greater_first, greater_second}
use Rattle.pieces.proofs.Laws.Ranges.{lesser_is, greater_is, lesser_other, greater_other, on_least, on_most, over1_least, over1_most}
use Rattle.pieces.proofs.Laws.Along.{InRange, point_on}
use Rattle.pieces.proofs.Laws.Tests.{not_true, both_true, zero_says, says_zero}

-- ---- between two others
module _ (a b v : ℤ) where
  between_in : between a b v ≡ true → InRange a b v
  between_in e = go (at_most a v) (at_most v b) (at_most b v) (at_most v a) refl refl refl refl e
    where
      up : a ≤ᶻ v → v ≤ᶻ b → InRange a b v
      up l m = record { least = ≤_trans (lesser a b) a v (lesser_first a b) l; most = ≤_trans v b (greater a b) m (greater_second a b) }

      down : b ≤ᶻ v → v ≤ᶻ a → InRange a b v
      down l m = record { least = ≤_trans (lesser a b) b v (lesser_second a b) l; most = ≤_trans v a (greater a b) m (greater_first a b) }

      go : (p q r s : Bool) → at_most a v ≡ p → at_most v b ≡ q → at_most b v ≡ r → at_most v a ≡ s → ((p && q) || (r && s)) ≡ true → InRange a b v
      go true true r s i j k l e = up ((at_most_says a v).0 i) ((at_most_says v b).0 j)
      go true false true true i j k l e = down ((at_most_says b v).0 k) ((at_most_says v a).0 l)
      go true false true false i j k l e = not_true refl e
      go true false false s i j k l e = not_true refl e
      go false q true true i j k l e = down ((at_most_says b v).0 k) ((at_most_says v a).0 l)
      go false q true false i j k l e = not_true refl e
      go false q false s i j k l e = not_true refl e

  in_between : InRange a b v → between a b v ≡ true
  in_between i = between_told a b v (elim (<-or-≤ b a) [
    | inl l ↦
        inr (subst (λ (z : ℤ). z ≤ᶻ v) (lesser_other a b (less-≤ b a l)) i.least, subst (λ (z : ℤ). v ≤ᶻ z) (greater_other a b (less-≤ b a l)) i.most)
    | inr l ↦ inl (subst (λ (z : ℤ). z ≤ᶻ v) (lesser_is a b l) i.least, subst (λ (z : ℤ). v ≤ᶻ z) (greater_is a b l) i.most)
  ])

-- ---- a point that lies on a piece is in its range
on_range : (a : Edge) (p : Spot) → LiesOn a (at p) → InRange a.from.x a.to.x p.x
on_range a p o = record { least = over1_least _ p.x (on_least a (at p) o); most = over1_most p.x _ (on_most a (at p) o) }

-- ---- the law
pub on_edge_lies : (a : Edge) (p : Spot) → (on_edge a p ≡ true) ↔ LiesOn a (at p)
unfolding on_edge
on_edge_lies a p = (
  (λ e.
      let (z, box) = both_true (is_zero (side_of_edge a p)) _ e in
      let (x, y) = both_true (between a.from.x a.to.x p.x) (between a.from.y a.to.y p.y) box in
      point_on a p (zero_says (side_of_edge a p) z) (between_in a.from.x a.to.x p.x x) (between_in a.from.y a.to.y p.y y)),
  (λ o.
      rw (
        says_zero (side_of_edge a p) (on_side_lem a p o),
        in_between a.from.x a.to.x p.x (on_range a p o),
        in_between a.from.y a.to.y p.y (on_range (flipped_edge a) (flipped p) (on_flipped a (at p) o)),
      )),
)
