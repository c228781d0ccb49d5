-- Two triangles on the two sides of a shared edge have no point inside both. In order: the sides of a point against the edges of a
-- triangle, as weights; tests and what they say; inside a triangle listed counter-clockwise no side is below 0; a point of side 0 against an
-- edge, with no other side below 0, is on that edge; so inside, the side is above 0; two triangles, in any listing.
-- Not here: the whole numbers behind it (`Weights`). Assumes nothing.
use mathlib.Core.Path.{◌≡◌, refl, sym, ap, ◌∙◌}
use mathlib.Core.Bool.{Bool, true, false, not, ◌&&◌}
use mathlib.Core.List.Memᴰ
use mathlib.Core.List.{List, [], ◌∷◌}
use mathlib.Core.Logic.{⊎_elim}
use Prim.Native.Nat.{zero, suc, ◌+◌}
use native.Mathlib.Omega.{arith}
use lib.IntN.{ℤ, pos, negsuc, neg_ℤ, ◌+ℤ◌, ◌-ℤ◌, ◌*ℤ◌}
use lib.Signed.{le_z_yes, lt_z_yes}
use Rattle.whole.specs.Order.{◌≤ᶻ◌, ◌<ᶻ◌}
use Rattle.whole.proofs.Laws.Parts.{pos-<, pos-≤}
use Rattle.whole.proofs.Laws.Linear.{ints, int_rules}
use Rattle.whole.proofs.Laws.Order.{<-or-≤}
use Rattle.ground.specs.Compare.{at_most, is_positive, is_negative}
use Rattle.ground.specs.Plane.{Spot, determinant}
use Rattle.ground.specs.Edge.{edge, edges_from, edges_of, between, on_edge, is_up, is_down}
use Rattle.ground.specs.Zone.{count_of, tally_of}
use Rattle.ground.specs.Listing.{Relisted, place_in, total_in}
use Rattle.ground.proofs.Laws.Compare.{at_most_says, below_says, below_not}
use Rattle.ground.proofs.Laws.Edges.{determinant_round, between_told}
use Rattle.ground.proofs.Laws.Rule.{total_zero}
use Rattle.ground.proofs.Laws.Tally.{inside_total, border_met}
use Rattle.ground.proofs.Laws.Listing.{start_place, back_place, relisted_place}
use Rattle.ground.proofs.Laws.Weights.{Balance, NoneBelow, Height, Left, Right, counts, uneven_none_below, share_between}

-- ---- the sides of a point as weights
abbrev coordinates : Spot → Spot → Spot → Spot → List ℤ
coordinates p q r z = p.x ∷ p.y ∷ q.x ∷ q.y ∷ r.x ∷ r.y ∷ z.x ∷ z.y ∷ []

pub level : (p q r z : Spot)
    → determinant q r z *ℤ (p.y -ℤ z.y) +ℤ determinant r p z *ℤ (q.y -ℤ z.y) +ℤ determinant p q z *ℤ (r.y -ℤ z.y) ≡ pos 0
level p q r z =
    ints (coordinates p q r z) (λ ρ v n m. simp (int_rules, n, v 0, v 1, v 2, v 3, v 4, v 5, v 6, v 7) (omega arith))

balance : (p q r z : Spot) → pos 0 <ᶻ determinant p q r
    → Balance (determinant q r z) (determinant r p z) (determinant p q z) (p.y -ℤ z.y) (q.y -ℤ z.y) (r.y -ℤ z.y)
balance p q r z h = record { level = level p q r z; total = total h }
  where
    total : pos 0 <ᶻ determinant p q r → pos 0 <ᶻ determinant q r z +ℤ determinant r p z +ℤ determinant p q z
    total = ints (coordinates p q r z) (λ ρ v n m. simp (int_rules, n, v 0, v 1, v 2, v 3, v 4, v 5, v 6, v 7) (omega arith))

-- ---- tests, and what they say
left_told : (z : ℤ) → Left (is_positive z) z
left_told (pos zero) = (pos-≤ 0 0).1 (omega arith)
left_told (pos (suc n)) = (pos-< 0 (suc n)).1 (omega arith)
left_told (negsuc n) = le_z_yes tt

right_told : (z : ℤ) → Right (is_negative z) z
right_told (pos n) = (pos-≤ 0 n).1 (omega arith)
right_told (negsuc n) = lt_z_yes tt

pub height_told : (a b : ℤ) → Height (at_most a b) (a -ℤ b)
height_told a b = go (at_most a b) refl
  where
    at_most_lem : a ≤ᶻ b → a -ℤ b ≤ᶻ pos 0
    at_most_lem = ints (a ∷ b ∷ []) (λ ρ v n m. simp (int_rules, n, v 0, v 1) (omega arith))

    above : b <ᶻ a → pos 0 <ᶻ a -ℤ b
    above = ints (a ∷ b ∷ []) (λ ρ v n m. simp (int_rules, n, v 0, v 1) (omega arith))

    go : (t : Bool) → at_most a b ≡ t → Height t (a -ℤ b)
    go true e = at_most_lem ((at_most_says a b).0 e)
    go false e = above ((below_says b a).0 (below_not a b ∙ ap not e))

-- ---- an edge's part in the ups and in the downs of z
module _ (z : Spot) where
  abbrev pub low : Spot → Bool
  low a = at_most a.y z.y

  abbrev pub left : Spot → Spot → Bool
  left a b = is_positive (determinant a b z)

  abbrev pub right : Spot → Spot → Bool
  right a b = is_negative (determinant a b z)

  pub edge_up : (a b : Spot) → is_up (edge a b) z ≡ ((low a && not (low b)) && left a b)
  unfolding is_up
  edge_up a b = rw (below_not b.y z.y)

  pub edge_down : (a b : Spot) → is_down (edge a b) z ≡ ((low b && not (low a)) && right a b)
  unfolding is_down
  edge_down a b = rw (below_not a.y z.y)

  module _ (p q r : Spot) where
    pub ups_counted : count_of is_up (edges_of (p ∷ q ∷ r ∷ [])) z
        ≡ counts (low p) (low q) (left p q) + counts (low q) (low r) (left q r) + counts (low r) (low p) (left r p)
    unfolding count_of edges_of edges_from
    ups_counted = rw (edge_up p q, edge_up q r, edge_up r p) (omega arith)

    pub downs_counted : count_of is_down (edges_of (p ∷ q ∷ r ∷ [])) z
        ≡ counts (low q) (low p) (right p q) + counts (low r) (low q) (right q r) + counts (low p) (low r) (right r p)
    unfolding count_of edges_of edges_from
    downs_counted = rw (edge_down p q, edge_down q r, edge_down r p) (omega arith)

-- ---- inside a triangle listed counter-clockwise
module _ (p q r z : Spot) where
  -- where the total is not 0 no side is below 0
  pub total_none_below : pos 0 <ᶻ determinant p q r → (total_in (p ∷ q ∷ r ∷ []) z ≡ pos 0 → ⊥)
      → NoneBelow (determinant q r z) (determinant r p z) (determinant p q z)
  unfolding tally_of
  total_none_below h i =
      let A = determinant q r z in
      let B = determinant r p z in
      let C = determinant p q z in
      uneven_none_below A B C (p.y -ℤ z.y) (q.y -ℤ z.y) (r.y -ℤ z.y) (low z p) (low z q) (low z r)
      (is_positive C) (is_negative C) (is_positive A) (is_negative A) (is_positive B) (is_negative B) (balance p q r z h)
      (height_told p.y z.y) (height_told q.y z.y) (height_told r.y z.y)
      (left_told C) (right_told C) (left_told A) (right_told A) (left_told B) (right_told B)
      (λ e. i ((total_zero (tally_of (edges_of (p ∷ q ∷ r ∷ [])) z)).1 (ups_counted z p q r ∙ e ∙ sym (downs_counted z p q r))))

  none_below : pos 0 <ᶻ determinant p q r → place_in (p ∷ q ∷ r ∷ []) z ≡ 2
      → NoneBelow (determinant q r z) (determinant r p z) (determinant p q z)
  none_below h i = total_none_below h (inside_total (edges_of (p ∷ q ∷ r ∷ [])) z i)

-- ---- side 0 against an edge, no other side below 0
-- D parts of the way from a to v are B of that from a to b, and C of another, which are none; so from v to b
on_way : (a b v D A B C i j : ℤ) → pos 0 <ᶻ D → pos 0 ≤ᶻ A → pos 0 ≤ᶻ B → C ≡ pos 0
    → D *ℤ (v -ℤ a) ≡ B *ℤ (b -ℤ a) +ℤ C *ℤ i → D *ℤ (b -ℤ v) ≡ A *ℤ (b -ℤ a) +ℤ C *ℤ j → between a b v ≡ true
on_way a b v D A B C i j hD hA hB e after before =
    between_told a b v (share_between D A B a b v hD hA hB (after ∙ none (B *ℤ (b -ℤ a)) i) (before ∙ none (A *ℤ (b -ℤ a)) j))
  where
    gone : (k w : ℤ) → k +ℤ pos 0 *ℤ w ≡ k
    gone k w = ints (k ∷ w ∷ []) (λ ρ v n m. simp (int_rules, n, v 0, v 1) (omega arith))

    none : (k w : ℤ) → k +ℤ C *ℤ w ≡ k
    none k w = ap (λ (c : ℤ). k +ℤ c *ℤ w) e ∙ gone k w

module _ (p q r z : Spot) (h : pos 0 <ᶻ determinant p q r)
    (hA : pos 0 ≤ᶻ determinant q r z) (hB : pos 0 ≤ᶻ determinant r p z) (e : determinant p q z ≡ pos 0) where
  along_x : between p.x q.x z.x ≡ true
  along_x =
      on_way p.x q.x z.x (determinant p q r) (determinant q r z) (determinant r p z) (determinant p q z)
      (r.x -ℤ p.x) (q.x -ℤ r.x) h hA hB e
      (ints (coordinates p q r z) (λ ρ v n m. simp (int_rules, v 0, v 1, v 2, v 3, v 4, v 5, v 6, v 7) (omega arith)))
      (ints (coordinates p q r z) (λ ρ v n m. simp (int_rules, v 0, v 1, v 2, v 3, v 4, v 5, v 6, v 7) (omega arith)))

  along_y : between p.y q.y z.y ≡ true
  along_y =
      on_way p.y q.y z.y (determinant p q r) (determinant q r z) (determinant r p z) (determinant p q z)
      (r.y -ℤ p.y) (q.y -ℤ r.y) h hA hB e
      (ints (coordinates p q r z) (λ ρ v n m. simp (int_rules, v 0, v 1, v 2, v 3, v 4, v 5, v 6, v 7) (omega arith)))
      (ints (coordinates p q r z) (λ ρ v n m. simp (int_rules, v 0, v 1, v 2, v 3, v 4, v 5, v 6, v 7) (omega arith)))

  on_first : on_edge (edge p q) z ≡ true
  unfolding on_edge
  on_first = rw (e, along_x, along_y)

-- ---- strictly to the left of the first edge; by `start_place`, of each
pub triangle_left : (p q r z : Spot) → pos 0 <ᶻ determinant p q r → place_in (p ∷ q ∷ r ∷ []) z ≡ 2 → pos 0 <ᶻ determinant p q z
unfolding edges_of edges_from
triangle_left p q r z h i =
    let C = determinant p q z in
    ⊎_elim (λ l. l) (λ l. absurd (not_on (zero_only C l none.2))) (<-or-≤ (pos 0) C)
  where
    none : NoneBelow (determinant q r z) (determinant r p z) (determinant p q z)
    none = none_below p q r z h i

    zero_only : (C : ℤ) → C ≤ᶻ pos 0 → pos 0 ≤ᶻ C → C ≡ pos 0
    zero_only C = ints (C ∷ []) (λ ρ v n m. simp (int_rules, n, v 0) (omega arith))

    not_on : determinant p q z ≡ pos 0 → ⊥
    not_on e =
        let on : place_in (p ∷ q ∷ r ∷ []) z ≡ 1 = (border_met (edges_of (p ∷ q ∷ r ∷ [])) z).1
        (record { at = edge p q; listed = Memᴰ.head refl; on = on_first p q r z h none.0 none.1 e }) in
        omega arith

-- ---- two triangles
-- r and s lie on the two sides of pq: no point is inside both pqr and pqs
pub triangles_apart : (p q r s z : Spot) → pos 0 <ᶻ determinant p q r → determinant p q s <ᶻ pos 0
    → place_in (p ∷ q ∷ r ∷ []) z ≡ 2 → place_in (p ∷ q ∷ s ∷ []) z ≡ 2 → ⊥
triangles_apart p q r s z h k i j =
    clash (determinant p q z) (determinant q p z) (determinant_round p q z) (triangle_left p q r z h i)
    (triangle_left q p s z (above (determinant p q s) (determinant q p s) (determinant_round p q s) k) other)
  where
    -- the second triangle counter-clockwise: backwards, begun at q
    other : place_in (q ∷ p ∷ s ∷ []) z ≡ 2
    other = sym (start_place z (s ∷ []) (q ∷ p ∷ [])) ∙ back_place z (p ∷ q ∷ s ∷ []) ∙ j

    above : (x y : ℤ) → y ≡ neg_ℤ x → x <ᶻ pos 0 → pos 0 <ᶻ y
    above x y = ints (x ∷ y ∷ []) (λ ρ v n m. simp (int_rules, n, v 0, v 1) (omega arith))

    clash : (x y : ℤ) → y ≡ neg_ℤ x → pos 0 <ᶻ x → pos 0 <ᶻ y → ⊥
    clash x y = ints (x ∷ y ∷ []) (λ ρ v n m. simp (int_rules, n, v 0, v 1) (omega arith))

-- any listing cs of pqr and ds of pqs
pub listed_apart : (p q r s z : Spot) (cs ds : List Spot) → Relisted cs (p ∷ q ∷ r ∷ []) → Relisted ds (p ∷ q ∷ s ∷ [])
    → pos 0 <ᶻ determinant p q r → determinant p q s <ᶻ pos 0 → place_in cs z ≡ 2 → place_in ds z ≡ 2 → ⊥
listed_apart p q r s z cs ds one two h k i j =
    triangles_apart p q r s z h k
    (sym (relisted_place z cs (p ∷ q ∷ r ∷ []) one) ∙ i) (sym (relisted_place z ds (p ∷ q ∷ s ∷ []) two) ∙ j)
