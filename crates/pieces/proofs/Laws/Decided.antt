-- The word that boxes and sides find is the one that holds. In order: what the tests say; a piece of equal ends; two pieces on one line, and two that have
-- a length; boxes that have something in common; the word; so one of the four always holds, and each is found exactly where it holds.
-- Assumes nothing.
use mathlib.Core.Path.{◌≡◌, sym, ap, subst, ◌∙◌}
use mathlib.Core.Bool.{true, false, cond}
use mathlib.Core.List.{[], ◌∷◌}
use mathlib.Core.Logic.{◌⊎◌, inl, inr, ◌↔◌}
use native.Mathlib.Omega.{arith}
use lib.IntN.{ℤ, pos, ◌-ℤ◌, ◌*ℤ◌}
use Rattle.whole.specs.Order.{◌≤ᶻ◌, ◌<ᶻ◌}
use Rattle.whole.proofs.Laws.Linear.{ints, int_rules}
use Rattle.whole.proofs.Laws.Order.{Compared, less, equal, more, compared, <-or-≤}
use Rattle.ground.specs.Compare.{below, is_zero}
use Rattle.ground.specs.Compare as compare
use Rattle.ground.specs.Plane.{Spot}
use Rattle.ground.specs.Edge.{Edge, side_of_edge}
use Rattle.ground.proofs.Laws.Compare.{below_says, equal_says}
use Rattle.pieces.specs.Place.{at}
use Rattle.pieces.specs.Meeting.{Meeting, apart, touching, overlapping, Holds}
use Rattle.pieces.specs.Parts.{Range, common_x, common_y, is_empty, is_long, is_dot, on_line, of_dot, of_long, by_sides, in_boxes, decided}
use Rattle.pieces.specs.Parts.{Sides, sides_of}
use Rattle.pieces.proofs.Laws.Places.{same_refl, same_sym, on_same, on_from, on_dot, on_side_lem}
use Rattle.pieces.proofs.Laws.Words.{flipped_edge, one_word, holds_exchanged, holds_flipped}
use Rattle.pieces.proofs.Laws.Ranges.{≤_refl, ≤_trans, less_not, lesser_is, greater_is, lesser_first, lesser_second}
use Rattle.pieces.proofs.Laws.Ranges.{greater_first, greater_second, common_exchanged, empty_x, empty_y}
use Rattle.pieces.proofs.Laws.Along.{InRange, Uneven, side_flipped, spot_is, point_on}
use Rattle.pieces.proofs.Laws.Lines.{Lined, line_x}
use Rattle.pieces.proofs.Laws.Tests.{tested, not_true, both_true, zero_says, says_zero}
use Rattle.pieces.proofs.Laws.Sided.{Told, above, under, falls, rises, first, second, both}
use Rattle.pieces.proofs.Laws.Sided.{sides_told, one_side_apart, from_holds, to_holds}
use Rattle.pieces.proofs.Laws.Through.{through_holds}

-- ---- what the tests say
not_below : (a b : ℤ) → below a b ≡ false → b ≤ᶻ a
not_below a b e = elim (<-or-≤ a b) [ inl l ↦ not_true e ((below_says a b).1 l) | inr l ↦ l ]

dot_says : (a : Edge) → is_dot a ≡ true → a.from ≡ a.to
dot_says a e =
    let (i, j) = both_true (compare.equal a.from.x a.to.x) (compare.equal a.from.y a.to.y) e in
    spot_is a.from a.to ((equal_says a.from.x a.to.x).0 i) ((equal_says a.from.y a.to.y).0 j)

-- not of equal ends: uneven along an axis
uneven_says : (a : Edge) → is_dot a ≡ false → Uneven a.from.x a.to.x ⊎ Uneven a.from.y a.to.y
uneven_says a e = go (compared a.from.x a.to.x) (compared a.from.y a.to.y)
  where
    go : Compared a.from.x a.to.x → Compared a.from.y a.to.y → Uneven a.from.x a.to.x ⊎ Uneven a.from.y a.to.y
    go (less h) k = inl (inl h)
    go (more h) k = inl (inr h)
    go (equal i) (less h) = inr (inl h)
    go (equal i) (more h) = inr (inr h)
    go (equal i) (equal j) = not_true e (rw ((equal_says a.from.x a.to.x).1 i, (equal_says a.from.y a.to.y).1 j))

-- ---- a piece of equal ends
dot_side : (a : Edge) (p : Spot) → a.from ≡ a.to → side_of_edge a p ≡ pos 0
dot_side a p e = subst (λ (q : Spot). side_of_edge (record { from = a.from; to = q }) p ≡ pos 0) e (go a.from.x a.from.y p.x p.y)
  where
    go : (ax ay px py : ℤ) → (ax -ℤ ax) *ℤ (py -ℤ ay) -ℤ (ay -ℤ ay) *ℤ (px -ℤ ax) ≡ pos 0
    go ax ay px py = ints (ax ∷ ay ∷ px ∷ py ∷ []) (λ ρ v n m. simp (int_rules, n, v 0, v 1, v 2, v 3) (omega arith))

-- in what the boxes have in common it is in the other's box
dot_in : (a b : Edge) → b.from.x ≡ b.to.x → (common_x a b).least ≤ᶻ (common_x a b).most → InRange a.from.x a.to.x b.from.x
dot_in a b e le =
    let same : b.from.x ≤ᶻ b.to.x = subst (λ (z : ℤ). b.from.x ≤ᶻ z) e (≤_refl b.from.x) in
    let low = lesser_is b.from.x b.to.x same in
    let high = greater_is b.from.x b.to.x same ∙ sym e in
    record {
      least =
          ≤_trans _ (common_x a b).least b.from.x (greater_first _ _)
          (≤_trans (common_x a b).least (common_x a b).most b.from.x le (subst (λ (z : ℤ). (common_x a b).most ≤ᶻ z) high (lesser_second _ _)));
      most =
          ≤_trans b.from.x (common_x a b).least _ (subst (λ (z : ℤ). z ≤ᶻ (common_x a b).least) low (greater_second _ _))
          (≤_trans (common_x a b).least (common_x a b).most _ le (lesser_first _ _));
    }

module _ (a b : Edge) (x_common : (common_x a b).least ≤ᶻ (common_x a b).most) (y_common : (common_y a b).least ≤ᶻ (common_y a b).most) where
  -- the second is a point
  dot_touching : b.from ≡ b.to → side_of_edge a b.from ≡ pos 0 → Holds touching a b
  dot_touching e u = (
    at b.from,
    record {
      shared = record {
        first =
            point_on a b.from u (dot_in a b (ap (λ (p : Spot). p.x) e) x_common)
            (dot_in (flipped_edge a) (flipped_edge b) (ap (λ (p : Spot). p.y) e) y_common);
        second = on_from b;
      };
      only = λ r h. on_dot b r e h.second;
    },
    inr (inl (same_refl (at b.from))),
  )

  dot_holds : b.from ≡ b.to → Holds (of_dot a b.from) a b
  dot_holds e =
      tested (λ (m : Meeting). Holds m a b) (is_zero (side_of_edge a b.from)) touching apart
      (λ t. dot_touching e (zero_says (side_of_edge a b.from) t))
      (λ t s h. not_true t (says_zero (side_of_edge a b.from)
      (on_side_lem a b.from (on_same a (at b.from) s (same_sym s (at b.from) (on_dot b s e h.second)) h.first))))

  -- ---- both on one line
  line_y : Uneven a.from.y a.to.y → side_of_edge a b.from ≡ pos 0 → side_of_edge a b.to ≡ pos 0 → Lined a b (common_y a b)
  line_y w u v =
      let t =
      line_x (flipped_edge a) (flipped_edge b) w (side_flipped a b.from u) (side_flipped a b.to v) y_common in
      record {
        long = λ l. holds_flipped overlapping (flipped_edge a) (flipped_edge b) (t.long l);
        short = λ l. holds_flipped touching (flipped_edge a) (flipped_edge b) (t.short l);
      }

  -- what is long in common is long
  long_uneven : (c d : Edge) → (common_x c d).least <ᶻ (common_x c d).most → Uneven c.from.x c.to.x
  long_uneven c d l = go (compared c.from.x c.to.x)
    where
      go : Compared c.from.x c.to.x → Uneven c.from.x c.to.x
      go (less h) = inl h
      go (more h) = inr h
      go (equal e) =
          let same : c.from.x ≤ᶻ c.to.x = subst (λ (z : ℤ). c.from.x ≤ᶻ z) e (≤_refl c.from.x) in
          absurd (less_not (common_x c d).least (common_x c d).most l
          (≤_trans (common_x c d).most c.from.x (common_x c d).least
          (subst (λ (z : ℤ). (common_x c d).most ≤ᶻ z) (greater_is c.from.x c.to.x same ∙ sym e) (lesser_first _ _))
          (subst (λ (z : ℤ). z ≤ᶻ (common_x c d).least) (lesser_is c.from.x c.to.x same) (greater_first _ _))))

  line_holds : is_dot a ≡ false → side_of_edge a b.from ≡ pos 0 → side_of_edge a b.to ≡ pos 0 → Holds (on_line (common_x a b) (common_y a b)) a b
  line_holds e u v =
      tested (λ (m : Meeting). Holds m a b) (is_long (common_x a b)) overlapping (cond (is_long (common_y a b)) overlapping touching)
      (λ t.
      let l = (below_says (common_x a b).least (common_x a b).most).0 t in
      (line_x a b (long_uneven a b l) u v x_common).long l)
      (λ s.
      tested (λ (m : Meeting). Holds m a b) (is_long (common_y a b)) overlapping touching
      (λ t.
      let l = (below_says (common_y a b).least (common_y a b).most).0 t in
      (line_y (long_uneven (flipped_edge a) (flipped_edge b) l) u v).long l)
      (λ t. short s t (uneven_says a e)))
    where
      short : is_long (common_x a b) ≡ false → is_long (common_y a b) ≡ false → Uneven a.from.x a.to.x ⊎ Uneven a.from.y a.to.y
          → Holds touching a b
      short s t (inl w) = (line_x a b w u v x_common).short (not_below (common_x a b).least (common_x a b).most s)
      short s t (inr w) = (line_y w u v).short (not_below (common_y a b).least (common_y a b).most t)

  -- ---- both have a length
  long_holds : is_dot a ≡ false → Holds (of_long a b) a b
  long_holds e = go (sides_of (side_of_edge a b.from) (side_of_edge a b.to)) (sides_told (side_of_edge a b.from) (side_of_edge a b.to))
    where
      go : (t : Sides) → Told (side_of_edge a b.from) (side_of_edge a b.to) t → Holds (by_sides t a b) a b
      go t (above h k) = one_side_apart a b (above h k)
      go t (under h k) = one_side_apart a b (under h k)
      go t (falls h k) = through_holds a b (falls h k)
      go t (rises h k) = through_holds a b (rises h k)
      go t (first h k) = from_holds a b h k
      go t (second h k) = to_holds a b h k
      go t (both h k) = line_holds e h k

-- ---- the boxes have something in common
boxes_hold : (a b : Edge) → (common_x a b).least ≤ᶻ (common_x a b).most → (common_y a b).least ≤ᶻ (common_y a b).most
    → Holds (in_boxes a b) a b
boxes_hold a b x y =
    tested (λ (m : Meeting). Holds m a b) (is_dot a) (cond (is_dot b) touching (of_dot b a.from))
    (cond (is_dot b) (of_dot a b.from) (of_long a b))
    (λ e.
    tested (λ (m : Meeting). Holds m a b) (is_dot b) touching (of_dot b a.from)
    (λ f. dot_touching a b x y (dot_says b f) (dot_side a b.from (dot_says a e)))
    (λ f.
    holds_exchanged (of_dot b a.from) b a
    (dot_holds b a (subst (λ (r : Range). r.least ≤ᶻ r.most) (sym (common_exchanged a b)) x)
    (subst (λ (r : Range). r.least ≤ᶻ r.most) (sym (common_exchanged (flipped_edge a) (flipped_edge b))) y) (dot_says a e))))
    (λ e.
    tested (λ (m : Meeting). Holds m a b) (is_dot b) (of_dot a b.from) (of_long a b)
    (λ f. dot_holds a b x y (dot_says b f)) (λ f. long_holds a b x y e))

-- ---- the word
pub decided_holds : (a b : Edge) → Holds (decided a b) a b
unfolding decided
decided_holds a b =
    tested (λ (m : Meeting). Holds m a b) (is_empty (common_x a b)) apart
    (cond (is_empty (common_y a b)) apart (in_boxes a b))
    (λ e. empty_x a b ((below_says (common_x a b).most (common_x a b).least).0 e))
    (λ e.
    tested (λ (m : Meeting). Holds m a b) (is_empty (common_y a b)) apart (in_boxes a b)
    (λ f. empty_y a b ((below_says (common_y a b).most (common_y a b).least).0 f))
    (λ f.
    boxes_hold a b (not_below (common_x a b).most (common_x a b).least e) (not_below (common_y a b).most (common_y a b).least f)))

-- one of the four always holds
pub one_holds : (a b : Edge) → (m : Meeting) × Holds m a b
one_holds a b = (decided a b, decided_holds a b)

-- each is found exactly where it holds
pub decided_iff : (a b : Edge) (m : Meeting) → (decided a b ≡ m) ↔ Holds m a b
decided_iff a b m = (
  (λ e. subst (λ (n : Meeting). Holds n a b) e (decided_holds a b)),
  (λ h. one_word a b (decided a b) m (decided_holds a b) h),
)
