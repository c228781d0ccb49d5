-- Two pieces on one line. In order: on a line that is not upright, each from left to right, the first and the last end that are shared; more than one
-- place is shared where the ranges have more than one number in common, and else exactly one; the same in any direction.
-- Not here: ranges (`Ranges`). Assumes nothing.
use mathlib.Core.Path.{◌≡◌, refl, sym, ap, ap₂, subst, ◌∙◌}
use mathlib.Core.List.{[], ◌∷◌}
use mathlib.Core.Logic.{◌⊎◌, inl, inr}
use native.Mathlib.Omega.{arith}
use lib.IntN.{ℤ, pos, ◌+ℤ◌, ◌-ℤ◌, ◌*ℤ◌}
use Rattle.whole.specs.Order.{◌≤ᶻ◌, ◌<ᶻ◌}
use Rattle.whole.proofs.Laws.Linear.{ints, int_rules}
use Rattle.whole.proofs.Laws.Order.{<-or-≤, mul_positive, cancel-≡}
use Rattle.ground.specs.Plane.{Spot}
use Rattle.ground.specs.Edge.{Edge, side_of_edge}
use Rattle.ground.specs.Listing.{turned_round}
use Rattle.pieces.specs.Place.{Fraction, Place, ◌≈◌, Same, at}
use Rattle.pieces.specs.Meeting.{Way, LiesOn, Shared, IsEnd, Holds, touching, overlapping}
use Rattle.pieces.specs.Parts.{Range, range, lesser, greater, common_x}
use Rattle.pieces.proofs.Laws.Places.{times, same_refl, same_x, same_share, on_from}
use Rattle.pieces.proofs.Laws.Words.{holds_turned, holds_second_turned}
use Rattle.pieces.proofs.Laws.Ranges.{less-≤, ≤_refl, ≤_trans, ≤_both, less_not, gap_positive}
use Rattle.pieces.proofs.Laws.Ranges.{of_lesser, of_greater, lesser_first, lesser_second, greater_first, greater_second}
use Rattle.pieces.proofs.Laws.Ranges.{lesser_is, greater_is, common_turned, common_second_turned}
use Rattle.pieces.proofs.Laws.Ranges.{shared_least, shared_most}
use Rattle.pieces.proofs.Laws.Along.{Uneven, side_turned, from_side, to_side, spot_is, along}

-- ---- two pieces on a line that is not upright, each from left to right
module _ (a b : Edge) (h : a.from.x <ᶻ a.to.x) (k : b.from.x ≤ᶻ b.to.x)
    (u : side_of_edge a b.from ≡ pos 0) (v : side_of_edge a b.to ≡ pos 0) where
  wide : pos 0 <ᶻ a.to.x -ℤ a.from.x
  wide = gap_positive a.from.x a.to.x h

  -- a point of the line has side 0 against the second piece too
  other_side : (e : Spot) → side_of_edge a e ≡ pos 0 → side_of_edge b e ≡ pos 0
  other_side e w =
      cancel-≡ (a.to.x -ℤ a.from.x) (side_of_edge b e) (pos 0) wide
      (go a.from.x a.from.y a.to.x a.to.y b.from.x b.from.y b.to.x b.to.y e.x e.y
      (times (b.to.x -ℤ b.from.x) w) (times (b.to.x -ℤ b.from.x) u) (times (e.x -ℤ b.from.x) v) (times (e.x -ℤ b.from.x) u))
    where
      go : (ax ay bx by cx cy dx dy ex ey : ℤ)
          → (dx -ℤ cx) *ℤ ((bx -ℤ ax) *ℤ (ey -ℤ ay) -ℤ (by -ℤ ay) *ℤ (ex -ℤ ax)) ≡ (dx -ℤ cx) *ℤ pos 0
          → (dx -ℤ cx) *ℤ ((bx -ℤ ax) *ℤ (cy -ℤ ay) -ℤ (by -ℤ ay) *ℤ (cx -ℤ ax)) ≡ (dx -ℤ cx) *ℤ pos 0
          → (ex -ℤ cx) *ℤ ((bx -ℤ ax) *ℤ (dy -ℤ ay) -ℤ (by -ℤ ay) *ℤ (dx -ℤ ax)) ≡ (ex -ℤ cx) *ℤ pos 0
          → (ex -ℤ cx) *ℤ ((bx -ℤ ax) *ℤ (cy -ℤ ay) -ℤ (by -ℤ ay) *ℤ (cx -ℤ ax)) ≡ (ex -ℤ cx) *ℤ pos 0
          → (bx -ℤ ax) *ℤ ((dx -ℤ cx) *ℤ (ey -ℤ cy) -ℤ (dy -ℤ cy) *ℤ (ex -ℤ cx)) ≡ (bx -ℤ ax) *ℤ pos 0
      go ax ay bx by cx cy dx dy ex ey =
          ints (ax ∷ ay ∷ bx ∷ by ∷ cx ∷ cy ∷ dx ∷ dy ∷ ex ∷ ey ∷ [])
          (λ ρ v n m. simp (int_rules, n, v 0, v 1, v 2, v 3, v 4, v 5, v 6, v 7, v 8, v 9) (omega arith))

  -- two points of the line with one x are one
  one_point : (p q : Spot) → side_of_edge a p ≡ pos 0 → side_of_edge a q ≡ pos 0 → p.x ≡ q.x → p ≡ q
  one_point p q s t e =
      spot_is p q e (cancel-≡ (a.to.x -ℤ a.from.x) p.y q.y wide
      (go a.from.x a.from.y a.to.x a.to.y p.x p.y q.x q.y s t (times (a.to.y -ℤ a.from.y) e)))
    where
      go : (ax ay bx by px py qx qy : ℤ)
          → (bx -ℤ ax) *ℤ (py -ℤ ay) -ℤ (by -ℤ ay) *ℤ (px -ℤ ax) ≡ pos 0
          → (bx -ℤ ax) *ℤ (qy -ℤ ay) -ℤ (by -ℤ ay) *ℤ (qx -ℤ ax) ≡ pos 0
          → (by -ℤ ay) *ℤ px ≡ (by -ℤ ay) *ℤ qx → (bx -ℤ ax) *ℤ py ≡ (bx -ℤ ax) *ℤ qy
      go ax ay bx by px py qx qy =
          ints (ax ∷ ay ∷ bx ∷ by ∷ px ∷ py ∷ qx ∷ qy ∷ []) (λ ρ v n m. simp (int_rules, n, v 0, v 1, v 2, v 3, v 4, v 5, v 6, v 7) (omega arith))

  on_second : (e : Spot) → side_of_edge a e ≡ pos 0 → b.from.x ≤ᶻ e.x → e.x ≤ᶻ b.to.x → LiesOn b (at e)
  on_second e w l m = elim (<-or-≤ b.from.x b.to.x) [
    | inl i ↦ along b e (other_side e w) i l m
    | inr i ↦
        let same : b.from.x ≡ e.x = ≤_both b.from.x e.x l (≤_trans e.x b.to.x b.from.x m i) in
        subst (λ (q : Spot). LiesOn b (at q)) (one_point b.from e u w same) (on_from b)
  ]

  -- an end that is shared, at this x
  record Ending (x : ℤ) : Type 0 where
    e : Spot
    at_x : e.x ≡ x
    shared : Shared a b (at e)
    end : IsEnd a (at e) ⊎ IsEnd b (at e)

  -- within both
  record Inside (x : ℤ) : Type 0 where
    a_least : a.from.x ≤ᶻ x
    a_most : x ≤ᶻ a.to.x
    b_least : b.from.x ≤ᶻ x
    b_most : x ≤ᶻ b.to.x

  ending : (e : Spot) → side_of_edge a e ≡ pos 0 → IsEnd a (at e) ⊎ IsEnd b (at e) → Inside e.x → Ending e.x
  ending e w i h' = record {
    e = e;
    at_x = refl;
    shared = record { first = along a e w h h'.a_least h'.a_most; second = on_second e w h'.b_least h'.b_most };
    end = i;
  }

  first_x : ℤ
  first_x = greater a.from.x b.from.x

  last_x : ℤ
  last_x = lesser a.to.x b.to.x

  first_ending : Inside first_x → Ending first_x
  unfolding first_x
  first_ending =
      of_greater a.from.x b.from.x (λ (z : ℤ). Inside z → Ending z)
      (λ l. ending a.from (from_side a) (inl (inl (same_refl (at a.from)))))
      (λ l. ending b.from u (inr (inl (same_refl (at b.from)))))

  last_ending : Inside last_x → Ending last_x
  unfolding last_x
  last_ending =
      of_lesser a.to.x b.to.x (λ (z : ℤ). Inside z → Ending z)
      (λ l. ending a.to (to_side a) (inl (inr (same_refl (at a.to)))))
      (λ l. ending b.to v (inr (inr (same_refl (at b.to)))))

  common_is : common_x a b ≡ range first_x last_x
  unfolding first_x last_x
  common_is =
      let le = less-≤ a.from.x a.to.x h in
      ap₂ (λ (l m : ℤ). range l m)
      (ap₂ greater (lesser_is a.from.x a.to.x le) (lesser_is b.from.x b.to.x k))
      (ap₂ lesser (greater_is a.from.x a.to.x le) (greater_is b.from.x b.to.x k))

  -- equal x, equal shares of the way
  way_equal : (c d : ℤ) (t r f g : Fraction) → c <ᶻ d → Way c d t f → Way c d r g → f ≈ g → t ≈ r
  way_equal c d t r f g l p q e =
      cancel-≡ ((d -ℤ c) *ℤ (f.bottom *ℤ g.bottom)) (t.top *ℤ r.bottom) (r.top *ℤ t.bottom)
      (mul_positive (d -ℤ c) (f.bottom *ℤ g.bottom) (gap_positive c d l) (mul_positive f.bottom g.bottom f.positive g.positive))
      (go c d t.top t.bottom r.top r.bottom f.top f.bottom g.top g.bottom
      (times (r.bottom *ℤ g.bottom) p) (times (t.bottom *ℤ f.bottom) q) (times (t.bottom *ℤ r.bottom) e))
    where
      go : (a b n d m c f g h k : ℤ)
          → (c *ℤ k) *ℤ (f *ℤ d) ≡ (c *ℤ k) *ℤ ((a *ℤ d +ℤ (b -ℤ a) *ℤ n) *ℤ g)
          → (d *ℤ g) *ℤ (h *ℤ c) ≡ (d *ℤ g) *ℤ ((a *ℤ c +ℤ (b -ℤ a) *ℤ m) *ℤ k)
          → (d *ℤ c) *ℤ (f *ℤ k) ≡ (d *ℤ c) *ℤ (h *ℤ g)
          → ((b -ℤ a) *ℤ (g *ℤ k)) *ℤ (n *ℤ c) ≡ ((b -ℤ a) *ℤ (g *ℤ k)) *ℤ (m *ℤ d)
      go a b n d m c f g h k =
          ints (a ∷ b ∷ n ∷ d ∷ m ∷ c ∷ f ∷ g ∷ h ∷ k ∷ [])
          (λ ρ v n m. simp (int_rules, v 0, v 1, v 2, v 3, v 4, v 5, v 6, v 7, v 8, v 9) (omega arith))

  module _ (le : first_x ≤ᶻ last_x) where
    first_inside : Inside first_x
    unfolding first_x last_x
    first_inside = record {
      a_least = greater_first a.from.x b.from.x;
      a_most = ≤_trans first_x last_x a.to.x le (lesser_first a.to.x b.to.x);
      b_least = greater_second a.from.x b.from.x;
      b_most = ≤_trans first_x last_x b.to.x le (lesser_second a.to.x b.to.x);
    }

    last_inside : Inside last_x
    unfolding first_x last_x
    last_inside = record {
      a_least = ≤_trans a.from.x first_x last_x (greater_first a.from.x b.from.x) le;
      a_most = lesser_first a.to.x b.to.x;
      b_least = ≤_trans b.from.x first_x last_x (greater_second a.from.x b.from.x) le;
      b_most = lesser_second a.to.x b.to.x;
    }

    ordered_long : first_x <ᶻ last_x → Holds overlapping a b
    ordered_long l =
        let p = first_ending first_inside in
        let q = last_ending last_inside in (
          at p.e,
          at q.e,
          p.shared,
          q.shared,
          λ z. less_not first_x last_x l (subst (λ (w : ℤ). w ≤ᶻ first_x) (sym p.at_x ∙ same_x p.e q.e z ∙ q.at_x) (≤_refl first_x)),
        )

    ordered_short : last_x ≤ᶻ first_x → Holds touching a b
    ordered_short l =
        let p = first_ending first_inside in
        (at p.e, record { shared = p.shared; only = λ r k. only p r k }, p.end)
      where
        only : (p : Ending first_x) (r : Place) → Shared a b r → Same r (at p.e)
        only p r i =
            same_share a r (at p.e) i.first p.shared.first
            (way_equal a.from.x a.to.x i.first.t p.shared.first.t r.x (at p.e).x h i.first.x p.shared.first.x
            (pin r.x.top r.x.bottom p.e.x first_x last_x
            (subst (λ (z : Range). z.least *ℤ r.x.bottom ≤ᶻ r.x.top) common_is (shared_least a b r i))
            (subst (λ (z : Range). r.x.top ≤ᶻ z.most *ℤ r.x.bottom) common_is (shared_most a b r i)) (≤_both first_x last_x le l) p.at_x))
          where
            pin : (f g e l m : ℤ) → l *ℤ g ≤ᶻ f → f ≤ᶻ m *ℤ g → l ≡ m → e ≡ l → f *ℤ pos 1 ≡ e *ℤ g
            pin f g e l m s t q z = go f g l s (subst (λ (w : ℤ). f ≤ᶻ w *ℤ g) (sym q) t) ∙ ap (λ (w : ℤ). w *ℤ g) (sym z)
              where
                go : (f g l : ℤ) → l *ℤ g ≤ᶻ f → f ≤ᶻ l *ℤ g → f *ℤ pos 1 ≡ l *ℤ g
                go f g l = ints (f ∷ g ∷ l ∷ []) (λ ρ v n m. simp (int_rules, n, v 0, v 1, v 2) (omega arith))

-- ---- in any direction: what is said of the ranges is said of the words
pub record Lined (a b : Edge) (r : Range) : Type 0 where
  pub long : r.least <ᶻ r.most → Holds overlapping a b
  pub short : r.most ≤ᶻ r.least → Holds touching a b

pub line_x : (a b : Edge) → Uneven a.from.x a.to.x → side_of_edge a b.from ≡ pos 0 → side_of_edge a b.to ≡ pos 0
    → (common_x a b).least ≤ᶻ (common_x a b).most → Lined a b (common_x a b)
line_x a b w u v le = first w
  where
    ordered : (a b : Edge) → a.from.x <ᶻ a.to.x → b.from.x ≤ᶻ b.to.x → side_of_edge a b.from ≡ pos 0 → side_of_edge a b.to ≡ pos 0
        → (common_x a b).least ≤ᶻ (common_x a b).most → Lined a b (common_x a b)
    ordered a b h k u v le =
        let e = common_is a b h k u v in
        subst (Lined a b) (sym e) (record {
          long = ordered_long a b h k u v (subst (λ (r : Range). r.least ≤ᶻ r.most) e le);
          short = ordered_short a b h k u v (subst (λ (r : Range). r.least ≤ᶻ r.most) e le);
        })

    second : (a : Edge) → a.from.x <ᶻ a.to.x → side_of_edge a b.from ≡ pos 0 → side_of_edge a b.to ≡ pos 0
        → (common_x a b).least ≤ᶻ (common_x a b).most → Lined a b (common_x a b)
    second a h u v le = elim (<-or-≤ b.to.x b.from.x) [
      | inl k ↦
          let e = common_second_turned a b in
          let t =
          ordered a (turned_round b) h (less-≤ b.to.x b.from.x k) v u (subst (λ (r : Range). r.least ≤ᶻ r.most) (sym e) le) in
          let s = subst (Lined a (turned_round b)) e t in
          record {
            long = λ l. holds_second_turned overlapping a (turned_round b) (s.long l);
            short = λ l. holds_second_turned touching a (turned_round b) (s.short l);
          }
      | inr k ↦ ordered a b h k u v le
    ]

    first : Uneven a.from.x a.to.x → Lined a b (common_x a b)
    first (inl h) = second a h u v le
    first (inr h) =
        let e = common_turned a b in
        let t =
        second (turned_round a) h (side_turned a b.from u) (side_turned a b.to v) (subst (λ (r : Range). r.least ≤ᶻ r.most) (sym e) le) in
        let s = subst (Lined (turned_round a) b) e t in
        record {
          long = λ l. holds_turned overlapping (turned_round a) b (s.long l);
          short = λ l. holds_turned touching (turned_round a) b (s.short l);
        }
