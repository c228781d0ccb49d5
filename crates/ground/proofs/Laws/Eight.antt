-- Four corners whose line crosses itself, a figure of eight: both loops are inside. In order: a point on an edge is to the right of a line, or on it,
-- where both ends are; a point of a loop is inside the triangle of three corners, and of the triangle of the other three its total is 0; so its
-- total is 1; it is on no edge, and so it is inside. The other loop is this one of the corners listed backwards. Assumes nothing.
use mathlib.Core.Path.{◌≡◌, refl, sym, ap, ap₂, ◌∙◌, subst}
use mathlib.Core.Bool.{Bool, true, false}
use mathlib.Core.List.{List, [], ◌∷◌}
use mathlib.Core.Logic.{◌⊎◌, inl, inr, ⊎_elim}
use native.Mathlib.Omega.{arith}
use lib.IntN.{ℤ, pos, neg_ℤ, nat_abs, ◌+ℤ◌, ◌-ℤ◌, ◌*ℤ◌}
use Rattle.whole.specs.Order.{◌≤ᶻ◌, ◌<ᶻ◌}
use Rattle.whole.proofs.Laws.Linear.{ints, int_rules}
use Rattle.whole.proofs.Laws.Order.{less, equal, more, compared, <-or-≤, mul_positive, mul_nonneg}
use Rattle.ground.specs.Plane.{Spot, determinant}
use Rattle.ground.specs.Edge.{edge, edges_from, edges_of, on_edge}
use Rattle.ground.specs.Zone.{count_of, tally_of, total_of}
use Rattle.ground.specs.Listing.{place_in, total_in}
use Rattle.ground.specs.Convex.{LeftOf, Crossed}
use Rattle.ground.proofs.Laws.Edges.{between_says, on_says, determinant_round, turn_around}
use Rattle.ground.proofs.Laws.Rule.{off_told, off_number}
use Rattle.ground.proofs.Laws.Tally.{off_place, border_count}
use Rattle.ground.proofs.Laws.Listing.{back_total}
use Rattle.ground.proofs.Laws.Weights.{lt_le, turned_nonneg, difference_nonneg, difference_above}
use Rattle.ground.proofs.Laws.Triangles.{total_none_below}
use Rattle.ground.proofs.Laws.Joined.{joined_total}
use Rattle.ground.proofs.Laws.Sides.{positive_told, sides_tally}

-- ---- a point on an edge, and a line that has both ends on its right, or on it
-- along one axis: F, U and W are the sides of the point and of the ends, g with a letter where each stands
by_axis : (F U W gu gv gp : ℤ) → F *ℤ (gv -ℤ gu) ≡ U *ℤ (gv -ℤ gp) +ℤ W *ℤ (gp -ℤ gu)
    → ((gu ≤ᶻ gp) × (gp ≤ᶻ gv)) ⊎ ((gv ≤ᶻ gp) × (gp ≤ᶻ gu)) → U ≤ᶻ pos 0 → W ≤ᶻ pos 0 → (F ≤ᶻ pos 0) ⊎ (gu ≡ gv)
by_axis F U W gu gv gp e b hU hW = elim (compared gu gv) [
  | less l ↦ inl (not_above F (λ f. ⊎_elim
      (λ (h, k).
      rising e (mul_positive F (gv -ℤ gu) f (difference_above gu gv l))
      (mul_nonneg (pos 0 -ℤ U) (gv -ℤ gp) (turned_nonneg U hU) (difference_nonneg gp gv k)) (mul_nonneg (pos 0 -ℤ W) (gp -ℤ gu) (turned_nonneg W hW) (difference_nonneg gu gp h)))
      (λ (h, k). out_of_order gu gv gp l h k) b))
  | equal l ↦ inr l
  | more l ↦ inl (not_above F (λ f. ⊎_elim
      (λ (h, k). out_of_order gv gu gp l h k)
      (λ (h, k).
      falling e (mul_positive F (gu -ℤ gv) f (difference_above gv gu l))
      (mul_nonneg (pos 0 -ℤ U) (gp -ℤ gv) (turned_nonneg U hU) (difference_nonneg gv gp h)) (mul_nonneg (pos 0 -ℤ W) (gu -ℤ gp) (turned_nonneg W hW) (difference_nonneg gp gu k))) b))
]
  where
    not_above : (z : ℤ) → (pos 0 <ᶻ z → ⊥) → z ≤ᶻ pos 0
    not_above z h = ⊎_elim (λ l. absurd (h l)) (λ l. l) (<-or-≤ (pos 0) z)

    out_of_order : (y z w : ℤ) → y <ᶻ z → z ≤ᶻ w → w ≤ᶻ y → ⊥
    out_of_order y z w = ints (y ∷ z ∷ w ∷ []) (λ ρ v n m. simp (int_rules, v 0, v 1, v 2) (omega arith))

    rising : F *ℤ (gv -ℤ gu) ≡ U *ℤ (gv -ℤ gp) +ℤ W *ℤ (gp -ℤ gu) → pos 0 <ᶻ F *ℤ (gv -ℤ gu)
        → pos 0 ≤ᶻ (pos 0 -ℤ U) *ℤ (gv -ℤ gp) → pos 0 ≤ᶻ (pos 0 -ℤ W) *ℤ (gp -ℤ gu) → ⊥
    rising = ints (F ∷ U ∷ W ∷ gu ∷ gv ∷ gp ∷ []) (λ ρ v n m. simp (int_rules, n, v 0, v 1, v 2, v 3, v 4, v 5) (omega arith))

    falling : F *ℤ (gv -ℤ gu) ≡ U *ℤ (gv -ℤ gp) +ℤ W *ℤ (gp -ℤ gu) → pos 0 <ᶻ F *ℤ (gu -ℤ gv)
        → pos 0 ≤ᶻ (pos 0 -ℤ U) *ℤ (gp -ℤ gv) → pos 0 ≤ᶻ (pos 0 -ℤ W) *ℤ (gu -ℤ gp) → ⊥
    falling = ints (F ∷ U ∷ W ∷ gu ∷ gv ∷ gp ∷ []) (λ ρ v n m. simp (int_rules, n, v 0, v 1, v 2, v 3, v 4, v 5) (omega arith))

module _ (u v p s t : Spot) where
  abbrev coordinates : List ℤ
  coordinates = u.x ∷ u.y ∷ v.x ∷ v.y ∷ p.x ∷ p.y ∷ s.x ∷ s.y ∷ t.x ∷ t.y ∷ []

  -- what is times 0 is gone
  without : (l y w z : ℤ) → l ≡ y +ℤ w *ℤ z → z ≡ pos 0 → l ≡ y
  without l y w z e o = e ∙ ap (λ (z : ℤ). y +ℤ w *ℤ z) o ∙ none y w
    where
      none : (y w : ℤ) → y +ℤ w *ℤ pos 0 ≡ y
      none y w = ints (y ∷ w ∷ []) (λ ρ v n m. simp (int_rules, n, v 0, v 1) (omega arith))

  -- of a point on the line through u and v the side is between those of u and v, as its x is between theirs; and likewise by y
  side_x : determinant u v p ≡ pos 0
      → determinant s t p *ℤ (v.x -ℤ u.x) ≡ determinant s t u *ℤ (v.x -ℤ p.x) +ℤ determinant s t v *ℤ (p.x -ℤ u.x)
  side_x =
      without _ _ (t.x -ℤ s.x) _
      (ints coordinates (λ ρ v n m. simp (int_rules, v 0, v 1, v 2, v 3, v 4, v 5, v 6, v 7, v 8, v 9) (omega arith)))

  side_y : determinant u v p ≡ pos 0
      → determinant s t p *ℤ (v.y -ℤ u.y) ≡ determinant s t u *ℤ (v.y -ℤ p.y) +ℤ determinant s t v *ℤ (p.y -ℤ u.y)
  side_y =
      without _ _ (t.y -ℤ s.y) _
      (ints coordinates (λ ρ v n m. simp (int_rules, v 0, v 1, v 2, v 3, v 4, v 5, v 6, v 7, v 8, v 9) (omega arith)))

  -- so is the point
  pub edge_right : on_edge (edge u v) p ≡ true → determinant s t u ≤ᶻ pos 0 → determinant s t v ≤ᶻ pos 0 → determinant s t p ≤ᶻ pos 0
  edge_right on hu hv =
      let (z, x, y) = on_says (edge u v) p on in
      let bx = between_says u.x v.x p.x x in
      let by = between_says u.y v.y p.y y in
      elim (by_axis (determinant s t p) (determinant s t u) (determinant s t v) u.x v.x p.x (side_x z) bx hu hv) [
        | inl h ↦ h
        | inr ex ↦ elim (by_axis (determinant s t p) (determinant s t u) (determinant s t v) u.y v.y p.y (side_y z) by hu hv) [
          | inl h ↦ h
          | inr ey ↦
              subst (λ (q : Spot). determinant s t q ≤ᶻ pos 0)
              (ap₂ {C = Spot} (λ x y. record { x = x; y = y }) (same u.x v.x p.x ex bx) (same u.y v.y p.y ey by)) hu
        ]
      ]
    where
      squeezed : (a b c : ℤ) → a ≡ b → a ≤ᶻ c → c ≤ᶻ b → a ≡ c
      squeezed a b c = ints (a ∷ b ∷ c ∷ []) (λ ρ v n m. simp (int_rules, v 0, v 1, v 2) (omega arith))

      squeezed_back : (a b c : ℤ) → a ≡ b → b ≤ᶻ c → c ≤ᶻ a → a ≡ c
      squeezed_back a b c = ints (a ∷ b ∷ c ∷ []) (λ ρ v n m. simp (int_rules, v 0, v 1, v 2) (omega arith))

      same : (a b c : ℤ) → a ≡ b → ((a ≤ᶻ c) × (c ≤ᶻ b)) ⊎ ((b ≤ᶻ c) × (c ≤ᶻ a)) → a ≡ c
      same a b c e = ⊎_elim (λ (h, k). squeezed a b c e h k) (λ (h, k). squeezed_back a b c e h k)

-- ---- a point of the loop between b and c: to the left of ab, of bc and of cd
module _ (a b c d p : Spot) (x : Crossed a b c d) (ab : LeftOf a b p) (bc : LeftOf b c p) (cd : LeftOf c d p) where
  -- four ways from c: cap·cdb = cad·cpb + cab·cdp
  ca : LeftOf c a p
  ca =
      ⊎_elim (λ l. l)
      (λ l. absurd (no_way fan
      (mul_positive (determinant c a d) (determinant c p b) (turn_around d c a x.other_start) (turn_around b c p bc))
      (mul_positive (determinant c a b) (determinant c d p) (turn_around b c a (turn_around a b c x.start)) cd)
      (mul_nonneg (pos 0 -ℤ determinant c a p) (determinant c d b) (turned_nonneg (determinant c a p) l) (lt_le (pos 0) (determinant c d b) x.other_end))))
      (<-or-≤ (pos 0) (determinant c a p))
    where
      fan : determinant c a p *ℤ determinant c d b ≡ determinant c a d *ℤ determinant c p b +ℤ determinant c a b *ℤ determinant c d p
      fan =
          ints (a.x ∷ a.y ∷ b.x ∷ b.y ∷ c.x ∷ c.y ∷ d.x ∷ d.y ∷ p.x ∷ p.y ∷ [])
          (λ ρ v n m. simp (int_rules, v 0, v 1, v 2, v 3, v 4, v 5, v 6, v 7, v 8, v 9) (omega arith))

      against : (F E P Q : ℤ) → F *ℤ E ≡ P +ℤ Q → pos 0 <ᶻ P → pos 0 <ᶻ Q → pos 0 ≤ᶻ (pos 0 -ℤ F) *ℤ E → ⊥
      against F E P Q = ints (F ∷ E ∷ P ∷ Q ∷ []) (λ ρ v n m. simp (int_rules, n, v 0, v 1, v 2, v 3) (omega arith))

      no_way : determinant c a p *ℤ determinant c d b ≡ determinant c a d *ℤ determinant c p b +ℤ determinant c a b *ℤ determinant c d p
          → pos 0 <ᶻ determinant c a d *ℤ determinant c p b → pos 0 <ᶻ determinant c a b *ℤ determinant c d p
          → pos 0 ≤ᶻ (pos 0 -ℤ determinant c a p) *ℤ determinant c d b → ⊥
      no_way = against (determinant c a p) (determinant c d b) _ _

  one_total : total_in (c ∷ a ∷ b ∷ []) p ≡ pos 1
  unfolding total_of
  one_total = ap total_of (sides_tally c a b p ab bc ca)

  -- the other triangle, counter-clockwise d c a: the point is to the right of dc
  two_back : total_in (d ∷ c ∷ a ∷ []) p ≡ pos 0
  two_back = elim (off_told (tally_of (edges_of (d ∷ c ∷ a ∷ [])) p)) [
    | inl (z, _) ↦ z
    | inr (z, _) ↦ absurd (clash (determinant c d p) (determinant d c p) (determinant_round c d p) cd (total_none_below d c a p x.other_start z).2)
  ]
    where
      clash : (y z : ℤ) → z ≡ neg_ℤ y → pos 0 <ᶻ y → pos 0 ≤ᶻ z → ⊥
      clash y z = ints (y ∷ z ∷ []) (λ ρ v n m. simp (int_rules, n, v 0, v 1) (omega arith))

  two_total : total_in (a ∷ c ∷ d ∷ []) p ≡ pos 0
  two_total = nothing (total_in (a ∷ c ∷ d ∷ []) p) (sym (back_total p (a ∷ c ∷ d ∷ [])) ∙ two_back)
    where
      nothing : (z : ℤ) → neg_ℤ z ≡ pos 0 → z ≡ pos 0
      nothing z = ints (z ∷ []) (λ ρ v n m. simp (int_rules, n, v 0) (omega arith))

  pub eight_total : total_in (a ∷ b ∷ c ∷ d ∷ []) p ≡ pos 1
  eight_total = sym (joined_total c a [] (b ∷ []) (d ∷ []) p) ∙ ap₂ (λ (y z : ℤ). y +ℤ z) one_total two_total

  -- ---- on no edge
  not_da : on_edge (edge d a) p ≡ false
  not_da = go (on_edge (edge d a) p) refl
    where
      right : pos 0 <ᶻ determinant b a d → determinant a b d ≤ᶻ pos 0
      right =
          ints (a.x ∷ a.y ∷ b.x ∷ b.y ∷ d.x ∷ d.y ∷ []) (λ ρ v n m. simp (int_rules, n, v 0, v 1, v 2, v 3, v 4, v 5) (omega arith))

      itself : determinant a b a ≤ᶻ pos 0
      itself = ints (a.x ∷ a.y ∷ b.x ∷ b.y ∷ []) (λ ρ v n m. simp (int_rules, n, v 0, v 1, v 2, v 3) (omega arith))

      clash : (z : ℤ) → z ≤ᶻ pos 0 → pos 0 <ᶻ z → ⊥
      clash z = ints (z ∷ []) (λ ρ v n m. simp (int_rules, n, v 0) (omega arith))

      go : (t : Bool) → on_edge (edge d a) p ≡ t → on_edge (edge d a) p ≡ false
      go true e = absurd (clash (determinant a b p) (edge_right d a p a b e (right x.end) itself) ab)
      go false e = e

  off_edge : (u v : Spot) → LeftOf u v p → on_edge (edge u v) p ≡ false
  unfolding on_edge
  off_edge u v h = rw (positive_told (determinant u v p) h).2

  unmet : count_of on_edge (edges_of (a ∷ b ∷ c ∷ d ∷ [])) p ≡ 0
  unfolding count_of edges_of edges_from
  unmet = rw (off_edge a b ab, off_edge b c bc, off_edge c d cd, not_da)

  pub eight_inside : place_in (a ∷ b ∷ c ∷ d ∷ []) p ≡ 2
  eight_inside =
      let es = edges_of (a ∷ b ∷ c ∷ d ∷ []) in
      off_place es p (λ e. omega (arith, (border_count es p).0 e, unmet)) ∙ elim (off_number (tally_of es p)) [
        | inl (z, _) ↦ let w : ⊥ = omega (arith, ap nat_abs (sym eight_total ∙ z)) in absurd w
        | inr (_, i) ↦ i
      ]
