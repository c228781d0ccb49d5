-- Two pieces by the sides of the second one's ends. In order: what the sides of two points say; both ends on one side; only one end on the line.
-- Not here: both ends on the line (`Lines`), and on opposite sides (`Through`). Assumes nothing.
use mathlib.Core.Path.{◌≡◌, refl, sym, subst}
use mathlib.Core.Bool.{true, ◌&&◌}
use mathlib.Core.List.{[], ◌∷◌}
use mathlib.Core.Logic.{inl, inr}
use Prim.Native.Nat.{zero, suc}
use native.Mathlib.Omega.{arith}
use lib.IntN.{ℤ, pos, negsuc, neg_ℤ, ◌+ℤ◌, ◌-ℤ◌, ◌*ℤ◌}
use Rattle.whole.specs.Order.{◌≤ᶻ◌, ◌<ᶻ◌}
use Rattle.whole.proofs.Laws.Parts.{pos-<}
use Rattle.whole.proofs.Laws.Linear.{ints, int_rules}
use Rattle.whole.proofs.Laws.Order.{mul_nonneg, cancel-≡}
use Rattle.ground.specs.Compare.{at_most}
use Rattle.ground.specs.Plane.{Spot}
use Rattle.ground.specs.Edge.{Edge, side_of_edge}
use Rattle.ground.specs.Listing.{turned_round}
use Rattle.ground.proofs.Laws.Compare.{at_most_says}
use Rattle.ground.proofs.Laws.Edges.{side_round}
use Rattle.pieces.specs.Place.{Place, Same, at}
use Rattle.pieces.specs.Meeting.{Shared, Meeting, apart, touching, Holds}
use Rattle.pieces.specs.Parts.{Range, common_x, common_y, is_in, Sides, one_side, opposite, first_on, second_on, both_on, sides_of, by_end}
use Rattle.pieces.proofs.Laws.Places.{same_refl, same_sym, on_same, on_from, at_from, balance}
use Rattle.pieces.proofs.Laws.Words.{flipped_edge, on_flipped, holds_turned, holds_second_turned}
use Rattle.pieces.proofs.Laws.Ranges.{gap_nonneg, ≤_trans, lesser_first, greater_first, common_second_turned}
use Rattle.pieces.proofs.Laws.Ranges.{shared_least, shared_most, over1_least, over1_most}
use Rattle.pieces.proofs.Laws.Tests.{tested, not_true, both_true}
use Rattle.pieces.proofs.Laws.Along.{InRange, Uneven, point_on}

-- ---- what the sides of two points say
pub data Told (u v : ℤ) : Sides → Type 0 where
  above : pos 0 <ᶻ u → pos 0 <ᶻ v → Told u v one_side
  under : u <ᶻ pos 0 → v <ᶻ pos 0 → Told u v one_side
  falls : pos 0 <ᶻ u → v <ᶻ pos 0 → Told u v opposite
  rises : u <ᶻ pos 0 → pos 0 <ᶻ v → Told u v opposite
  first : u ≡ pos 0 → Uneven (pos 0) v → Told u v first_on
  second : Uneven (pos 0) u → v ≡ pos 0 → Told u v second_on
  both : u ≡ pos 0 → v ≡ pos 0 → Told u v both_on

pub sides_told : (u v : ℤ) → Told u v (sides_of u v)
sides_told (pos zero) (pos zero) = both refl refl
sides_told (pos zero) (pos (suc n)) = first refl (inl ((pos-< 0 (suc n)).1 (omega arith)))
sides_told (pos zero) (negsuc n) = first refl (inr (record { lt = tt }))
sides_told (pos (suc m)) (pos zero) = second (inl ((pos-< 0 (suc m)).1 (omega arith))) refl
sides_told (pos (suc m)) (pos (suc n)) = above ((pos-< 0 (suc m)).1 (omega arith)) ((pos-< 0 (suc n)).1 (omega arith))
sides_told (pos (suc m)) (negsuc n) = falls ((pos-< 0 (suc m)).1 (omega arith)) (record { lt = tt })
sides_told (negsuc m) (pos zero) = second (inr (record { lt = tt })) refl
sides_told (negsuc m) (pos (suc n)) = rises (record { lt = tt }) ((pos-< 0 (suc n)).1 (omega arith))
sides_told (negsuc m) (negsuc n) = under (record { lt = tt }) (record { lt = tt })

pub sides_negated : (u v : ℤ) → sides_of (neg_ℤ u) (neg_ℤ v) ≡ sides_of u v
sides_negated (pos zero) (pos zero) = refl
sides_negated (pos zero) (pos (suc n)) = refl
sides_negated (pos zero) (negsuc n) = refl
sides_negated (pos (suc m)) (pos zero) = refl
sides_negated (pos (suc m)) (pos (suc n)) = refl
sides_negated (pos (suc m)) (negsuc n) = refl
sides_negated (negsuc m) (pos zero) = refl
sides_negated (negsuc m) (pos (suc n)) = refl
sides_negated (negsuc m) (negsuc n) = refl

negated_positive : (z : ℤ) → z <ᶻ pos 0 → pos 0 <ᶻ neg_ℤ z
negated_positive z = ints (z ∷ []) (λ ρ v n m. simp (int_rules, n, v 0) (omega arith))

-- ---- both ends on one side: apart
pub above_apart : (a b : Edge) → pos 0 <ᶻ side_of_edge a b.from → pos 0 <ᶻ side_of_edge a b.to → Holds apart a b
above_apart a b h k = λ s i.
    let t = i.second.t in
    let u = side_of_edge a b.from in
    let v = side_of_edge a b.to in
    no_way u v t.top t.bottom t.positive
    (mul_nonneg (t.bottom -ℤ t.top) (u -ℤ pos 1) (gap_nonneg t.top t.bottom i.second.most) (less_one u h))
    (mul_nonneg t.top (v -ℤ pos 1) i.second.least (less_one v k)) (balance a b s i)
  where
    less_one : (z : ℤ) → pos 0 <ᶻ z → pos 0 ≤ᶻ z -ℤ pos 1
    less_one z = ints (z ∷ []) (λ ρ v n m. simp (int_rules, n, m, v 0) (omega arith))

    no_way : (u v n d : ℤ) → pos 0 <ᶻ d → pos 0 ≤ᶻ (d -ℤ n) *ℤ (u -ℤ pos 1) → pos 0 ≤ᶻ n *ℤ (v -ℤ pos 1)
        → (d -ℤ n) *ℤ u +ℤ n *ℤ v ≡ pos 0 → ⊥
    no_way u v n d = ints (u ∷ v ∷ n ∷ d ∷ []) (λ ρ v n m. simp (int_rules, n, m, v 0, v 1, v 2, v 3) (omega arith))

pub under_apart : (a b : Edge) → side_of_edge a b.from <ᶻ pos 0 → side_of_edge a b.to <ᶻ pos 0 → Holds apart a b
under_apart a b h k =
    holds_turned apart (turned_round a) b
    (above_apart (turned_round a) b
    (subst (λ (z : ℤ). pos 0 <ᶻ z) (sym (side_round a b.from)) (negated_positive (side_of_edge a b.from) h))
    (subst (λ (z : ℤ). pos 0 <ᶻ z) (sym (side_round a b.to)) (negated_positive (side_of_edge a b.to) k)))

pub one_side_apart : (a b : Edge) → Told (side_of_edge a b.from) (side_of_edge a b.to) one_side → Holds apart a b
one_side_apart a b (above h k) = above_apart a b h k
one_side_apart a b (under h k) = under_apart a b h k

-- ---- only one end on the line: no other place can be shared
module _ (a b : Edge) (u : side_of_edge a b.from ≡ pos 0) (v : Uneven (pos 0) (side_of_edge a b.to)) where
  only_from : (s : Place) → Shared a b s → Same s (at b.from)
  only_from s h = at_from b s h.second (go v)
    where
      left : (n d v : ℤ) → (d -ℤ n) *ℤ pos 0 +ℤ n *ℤ v ≡ pos 0 → v *ℤ n ≡ v *ℤ pos 0
      left n d v = ints (n ∷ d ∷ v ∷ []) (λ ρ v n m. simp (int_rules, n, v 0, v 1, v 2) (omega arith))

      right : (n d v : ℤ) → (d -ℤ n) *ℤ pos 0 +ℤ n *ℤ v ≡ pos 0 → neg_ℤ v *ℤ n ≡ neg_ℤ v *ℤ pos 0
      right n d v = ints (n ∷ d ∷ v ∷ []) (λ ρ v n m. simp (int_rules, n, v 0, v 1, v 2) (omega arith))

      weighed : (h.second.t.bottom -ℤ h.second.t.top) *ℤ pos 0 +ℤ h.second.t.top *ℤ side_of_edge a b.to ≡ pos 0
      weighed =
          subst
          (λ (z : ℤ). (h.second.t.bottom -ℤ h.second.t.top) *ℤ z +ℤ h.second.t.top *ℤ side_of_edge a b.to ≡ pos 0)
          u (balance a b s h)

      go : Uneven (pos 0) (side_of_edge a b.to) → h.second.t.top ≡ pos 0
      go (inl l) = cancel-≡ (side_of_edge a b.to) h.second.t.top (pos 0) l (left h.second.t.top h.second.t.bottom _ weighed)
      go (inr l) =
          cancel-≡ (neg_ℤ (side_of_edge a b.to)) h.second.t.top (pos 0) (negated_positive (side_of_edge a b.to) l)
          (right h.second.t.top h.second.t.bottom (side_of_edge a b.to) weighed)

  -- it is shared exactly where it is in what the boxes have in common
  in_says : (r : Range) (z : ℤ) → is_in r z ≡ true → (r.least ≤ᶻ z) × (z ≤ᶻ r.most)
  in_says r z e =
      let (l, m) = both_true (at_most r.least z) (at_most z r.most) e in
      ((at_most_says r.least z).0 l, (at_most_says z r.most).0 m)

  says_in : (r : Range) (z : ℤ) → r.least ≤ᶻ z → z ≤ᶻ r.most → is_in r z ≡ true
  says_in r z l m = rw ((at_most_says r.least z).1 l, (at_most_says z r.most).1 m)

  in_first : (c d : Edge) (z : ℤ) → is_in (common_x c d) z ≡ true → InRange c.from.x c.to.x z
  in_first c d z e =
      let (l, m) = in_says (common_x c d) z e in
      record {
        least = ≤_trans _ (common_x c d).least z (greater_first _ _) l;
        most = ≤_trans z (common_x c d).most _ m (lesser_first _ _);
      }

  shared_in : (c d : Edge) (p : Spot) → Shared c d (at p) → is_in (common_x c d) p.x ≡ true
  shared_in c d p h =
      says_in (common_x c d) p.x (over1_least (common_x c d).least p.x (shared_least c d (at p) h))
      (over1_most p.x (common_x c d).most (shared_most c d (at p) h))

  pub from_holds : Holds (by_end (common_x a b) (common_y a b) b.from) a b
  from_holds =
      tested (λ (m : Meeting). Holds m a b) (is_in (common_x a b) b.from.x && is_in (common_y a b) b.from.y) touching apart
      (λ e.
      let (i, j) = both_true (is_in (common_x a b) b.from.x) (is_in (common_y a b) b.from.y) e in (
        at b.from,
        record {
          shared = record {
            first = point_on a b.from u (in_first a b b.from.x i) (in_first (flipped_edge a) (flipped_edge b) b.from.y j);
            second = on_from b;
          };
          only = only_from;
        },
        inr (inl (same_refl (at b.from))),
      ))
      (λ e s h. not_true e (in_both s h))
    where
      in_both : (s : Place) → Shared a b s → (is_in (common_x a b) b.from.x && is_in (common_y a b) b.from.y) ≡ true
      in_both s h =
          let there : Shared a b (at b.from) = record {
            first = on_same a (at b.from) s (same_sym s (at b.from) (only_from s h)) h.first;
            second = on_from b;
          } in
          let over : Shared (flipped_edge a) (flipped_edge b) (at (record { x = b.from.y; y = b.from.x })) = record {
            first = on_flipped a (at b.from) there.first;
            second = on_flipped b (at b.from) there.second;
          } in
          rw (shared_in a b b.from there, shared_in (flipped_edge a) (flipped_edge b) (record { x = b.from.y; y = b.from.x }) over)

pub to_holds : (a b : Edge) → Uneven (pos 0) (side_of_edge a b.from) → side_of_edge a b.to ≡ pos 0
    → Holds (by_end (common_x a b) (common_y a b) b.to) a b
to_holds a b u v =
    subst (λ (r : Range). Holds (by_end r (common_y a b) b.to) a b) (common_second_turned a b)
    (subst (λ (r : Range). Holds (by_end (common_x a (turned_round b)) r b.to) a b) (common_second_turned (flipped_edge a) (flipped_edge b))
    (holds_second_turned (by_end (common_x a (turned_round b)) (common_y a (turned_round b)) b.to) a (turned_round b)
    (from_holds a (turned_round b) v u)))
