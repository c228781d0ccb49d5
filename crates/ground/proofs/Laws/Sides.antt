-- A triangle by sides. In order: its edges rise past a point at most once, and exactly once where the corners are not all low or all high;
-- so a triangle counts at most once up and once down; a point with all three sides above 0 is past exactly one rising edge and no falling
-- one, and on no edge; inside is where all three sides of a triangle listed counter-clockwise are above 0.
-- Not here: that inside, a side is above 0 (`Triangles`). Assumes nothing.
use mathlib.Core.Path.{◌≡◌, refl, sym, ap, ap₂, ◌∙◌}
use mathlib.Core.Bool.{Bool, true, false, cond}
use mathlib.Core.List.{[], ◌∷◌}
use mathlib.Core.Logic.{◌↔◌}
use Prim.Native.Nat.{zero, suc, ◌+◌, ◌≤◌}
use native.Mathlib.Omega.{arith}
use lib.IntN.{ℤ, pos, negsuc, ◌+ℤ◌, ◌-ℤ◌, ◌*ℤ◌, zero-*ℤ, *ℤ-zero}
use Rattle.whole.specs.Order.{◌≤ᶻ◌, ◌<ᶻ◌}
use Rattle.whole.proofs.Laws.Linear.{ints, int_rules}
use Rattle.whole.proofs.Laws.Order.{mul_positive, mul_nonneg}
use Rattle.ground.specs.Compare.{is_zero, is_positive, is_negative}
use Rattle.ground.specs.Plane.{Spot, determinant}
use Rattle.ground.specs.Edge.{edges_from, edges_of, on_edge}
use Rattle.ground.specs.Zone.{count_of, Tally, tally_of, place_number, off_border}
use Rattle.ground.specs.Listing.{place_in}
use Rattle.ground.proofs.Laws.Edges.{turn_around}
use Rattle.ground.proofs.Laws.Rule.{off_unequal}
use Rattle.ground.proofs.Laws.Tally.{tally_counts, off_place, border_count}
use Rattle.ground.proofs.Laws.Listing.{start_place}
use Rattle.ground.proofs.Laws.Weights.{counts}
use Rattle.ground.proofs.Laws.Triangles.{level, height_told, low, left, right, ups_counted, downs_counted, triangle_left}

-- ---- how often three corners rise past a point
rises_once : (la lb lc s1 s2 s3 : Bool) → counts la lb s1 + counts lb lc s2 + counts lc la s3 ≤ 1
rises_once la lb lc s1 s2 s3 = go la lb lc
  where
    bit : (s : Bool) → cond s 1 0 ≤ 1
    bit true = omega arith
    bit false = omega arith

    go : (la lb lc : Bool) → counts la lb s1 + counts lb lc s2 + counts lc la s3 ≤ 1
    go true true true = omega arith
    go true true false = omega (arith, bit s2)
    go true false true = omega (arith, bit s1)
    go true false false = omega (arith, bit s1)
    go false true true = omega (arith, bit s3)
    go false true false = omega (arith, bit s2)
    go false false true = omega (arith, bit s3)
    go false false false = omega arith

-- all three sides above 0
rises : (la lb lc : Bool) → ((la ≡ true) × (lb ≡ true) × (lc ≡ true) → ⊥) → ((la ≡ false) × (lb ≡ false) × (lc ≡ false) → ⊥)
    → counts la lb true + counts lb lc true + counts lc la true ≡ 1
rises true true true h k = absurd (h (refl, refl, refl))
rises true true false h k = refl
rises true false true h k = refl
rises true false false h k = refl
rises false true true h k = refl
rises false true false h k = refl
rises false false true h k = refl
rises false false false h k = absurd (k (refl, refl, refl))

falls : (la lb : Bool) → counts la lb false ≡ 0
falls true true = refl
falls true false = refl
falls false true = refl
falls false false = refl

module _ (p q r z : Spot) where
  -- at most one edge of a triangle counts upward, and at most one downward
  pub triangle_tally : ((tally_of (edges_of (p ∷ q ∷ r ∷ [])) z).ups ≤ 1) × ((tally_of (edges_of (p ∷ q ∷ r ∷ [])) z).downs ≤ 1)
  unfolding tally_of
  triangle_tally = (
    rw (ups_counted z p q r) (rises_once (low z p) (low z q) (low z r) (left z p q) (left z q r) (left z r p)),
    rw (downs_counted z p q r) (omega (arith, rises_once (low z r) (low z q) (low z p) (right z q r) (right z p q) (right z r p))),
  )

-- ---- weights above 0 that balance: heights are not all above 0, and not all at most 0, unless they are 0
module _ (A B C a b c : ℤ) (e : A *ℤ a +ℤ B *ℤ b +ℤ C *ℤ c ≡ pos 0) (hA : pos 0 <ᶻ A) (hB : pos 0 <ᶻ B) (hC : pos 0 <ᶻ C) where
  not_high : pos 0 <ᶻ a → pos 0 <ᶻ b → pos 0 <ᶻ c → ⊥
  not_high ha hb hc = no_way e (mul_positive A a hA ha) (mul_positive B b hB hb) (mul_positive C c hC hc)
    where
      no_way : A *ℤ a +ℤ B *ℤ b +ℤ C *ℤ c ≡ pos 0 → pos 0 <ᶻ A *ℤ a → pos 0 <ᶻ B *ℤ b → pos 0 <ᶻ C *ℤ c → ⊥
      no_way =
          ints (A ∷ B ∷ C ∷ a ∷ b ∷ c ∷ []) (λ ρ v n m. simp (int_rules, n, v 0, v 1, v 2, v 3, v 4, v 5) (omega arith))

  low_flat : a ≤ᶻ pos 0 → b ≤ᶻ pos 0 → c ≤ᶻ pos 0 → (a ≡ pos 0) × (b ≡ pos 0)
  low_flat ha hb hc =
      flat e (part A a hA ha) (part B b hB hb) (part C c hC hc) ha hb hc
    where
      less : (z : ℤ) → pos 0 <ᶻ z → pos 0 ≤ᶻ z -ℤ pos 1
      less z = ints (z ∷ []) (λ ρ v n m. simp (int_rules, n, m, v 0) (omega arith))

      turned : (z : ℤ) → z ≤ᶻ pos 0 → pos 0 ≤ᶻ pos 0 -ℤ z
      turned z = ints (z ∷ []) (λ ρ v n m. simp (int_rules, n, v 0) (omega arith))

      part : (X x : ℤ) → pos 0 <ᶻ X → x ≤ᶻ pos 0 → pos 0 ≤ᶻ (X -ℤ pos 1) *ℤ (pos 0 -ℤ x)
      part X x h k = mul_nonneg (X -ℤ pos 1) (pos 0 -ℤ x) (less X h) (turned x k)

      flat : A *ℤ a +ℤ B *ℤ b +ℤ C *ℤ c ≡ pos 0 → pos 0 ≤ᶻ (A -ℤ pos 1) *ℤ (pos 0 -ℤ a) → pos 0 ≤ᶻ (B -ℤ pos 1) *ℤ (pos 0 -ℤ b)
          → pos 0 ≤ᶻ (C -ℤ pos 1) *ℤ (pos 0 -ℤ c) → a ≤ᶻ pos 0 → b ≤ᶻ pos 0 → c ≤ᶻ pos 0 → (a ≡ pos 0) × (b ≡ pos 0)
      flat =
          ints (A ∷ B ∷ C ∷ a ∷ b ∷ c ∷ []) (λ ρ v n m. simp (int_rules, n, m, v 0, v 1, v 2, v 3, v 4, v 5) (omega arith))

-- an edge at z's own height has z at side 0
flat_side : (p q z : Spot) → p.y -ℤ z.y ≡ pos 0 → q.y -ℤ z.y ≡ pos 0 → determinant p q z ≡ pos 0
flat_side p q z i j =
    heights ∙ ap₂ (λ (a b : ℤ). (q.x -ℤ p.x) *ℤ (pos 0 -ℤ a) -ℤ (b -ℤ a) *ℤ (z.x -ℤ p.x)) i j
    ∙ none (q.x -ℤ p.x) (z.x -ℤ p.x)
  where
    heights : determinant p q z ≡ (q.x -ℤ p.x) *ℤ (pos 0 -ℤ (p.y -ℤ z.y)) -ℤ (q.y -ℤ z.y -ℤ (p.y -ℤ z.y)) *ℤ (z.x -ℤ p.x)
    heights =
        ints (p.x ∷ p.y ∷ q.x ∷ q.y ∷ z.x ∷ z.y ∷ []) (λ ρ v n m. simp (int_rules, n, v 0, v 1, v 2, v 3, v 4, v 5) (omega arith))

    none : (x y : ℤ) → x *ℤ (pos 0 -ℤ pos 0) -ℤ (pos 0 -ℤ pos 0) *ℤ y ≡ pos 0
    none x y = ap₂ (λ (s t : ℤ). s -ℤ t) (*ℤ-zero x) (zero-*ℤ y)

-- ---- all three sides above 0
pub positive_told : (z : ℤ) → pos 0 <ᶻ z → (is_positive z ≡ true) × (is_negative z ≡ false) × (is_zero z ≡ false)
positive_told (pos zero) h = absurd h.lt
positive_told (pos (suc n)) h = (refl, refl, refl)
positive_told (negsuc n) h = absurd h.lt

module _ (p q r z : Spot) (hA : pos 0 <ᶻ determinant q r z) (hB : pos 0 <ᶻ determinant r p z) (hC : pos 0 <ᶻ determinant p q z) where
  not_all_high : (low z p ≡ false) × (low z q ≡ false) × (low z r ≡ false) → ⊥
  not_all_high h =
      not_high (determinant q r z) (determinant r p z) (determinant p q z) (p.y -ℤ z.y) (q.y -ℤ z.y) (r.y -ℤ z.y)
      (level p q r z) hA hB hC
      (rw h.0 at (height_told p.y z.y)) (rw h.1 at (height_told q.y z.y)) (rw h.2 at (height_told r.y z.y))

  not_all_low : (low z p ≡ true) × (low z q ≡ true) × (low z r ≡ true) → ⊥
  not_all_low h =
      let f =
      low_flat (determinant q r z) (determinant r p z) (determinant p q z) (p.y -ℤ z.y) (q.y -ℤ z.y) (r.y -ℤ z.y)
      (level p q r z) hA hB hC
      (rw h.0 at (height_told p.y z.y)) (rw h.1 at (height_told q.y z.y)) (rw h.2 at (height_told r.y z.y)) in
      no_way (determinant p q z) (flat_side p q z f.0 f.1) hC
    where
      no_way : (C : ℤ) → C ≡ pos 0 → pos 0 <ᶻ C → ⊥
      no_way C = ints (C ∷ []) (λ ρ v n m. simp (int_rules, n, v 0) (omega arith))

  tests_A : (left z q r ≡ true) × (right z q r ≡ false) × (is_zero (determinant q r z) ≡ false)
  tests_A = positive_told (determinant q r z) hA

  tests_B : (left z r p ≡ true) × (right z r p ≡ false) × (is_zero (determinant r p z) ≡ false)
  tests_B = positive_told (determinant r p z) hB

  tests_C : (left z p q ≡ true) × (right z p q ≡ false) × (is_zero (determinant p q z) ≡ false)
  tests_C = positive_told (determinant p q z) hC

  -- past one rising edge, and no falling one
  pub sides_tally : tally_of (edges_of (p ∷ q ∷ r ∷ [])) z ≡ record { ups = 1; downs = 0 }
  sides_tally =
      tally_counts (edges_of (p ∷ q ∷ r ∷ [])) z 1 0
      (rw (ups_counted z p q r, tests_A.0, tests_B.0, tests_C.0)
      (rises (low z p) (low z q) (low z r) not_all_low not_all_high))
      (rw (downs_counted z p q r, tests_A.1, tests_B.1, tests_C.1)
      (omega (arith, falls (low z q) (low z p), falls (low z r) (low z q), falls (low z p) (low z r))))

  sides_unmet : count_of on_edge (edges_of (p ∷ q ∷ r ∷ [])) z ≡ 0
  unfolding count_of edges_of edges_from on_edge
  sides_unmet = rw (tests_A.2, tests_B.2, tests_C.2)

  pub sides_inside : place_in (p ∷ q ∷ r ∷ []) z ≡ 2
  sides_inside =
      off_place (edges_of (p ∷ q ∷ r ∷ [])) z
      (λ e. omega (arith, (border_count (edges_of (p ∷ q ∷ r ∷ [])) z).0 e, sides_unmet))
      ∙ ap (λ (t : Tally). place_number (off_border t)) sides_tally
      ∙ ap place_number (off_unequal (record { ups = 1; downs = 0 }) (λ e. omega arith))

-- inside a triangle listed counter-clockwise: on the left of all three edges
pub triangle_sides : (p q r z : Spot) → pos 0 <ᶻ determinant p q r → (place_in (p ∷ q ∷ r ∷ []) z ≡ 2)
    ↔ ((pos 0 <ᶻ determinant p q z) × (pos 0 <ᶻ determinant q r z) × (pos 0 <ᶻ determinant r p z))
triangle_sides p q r z h = (
  (λ i. (
    triangle_left p q r z h i,
    triangle_left q r p z (turn_around p q r h) (sym (start_place z (p ∷ []) (q ∷ r ∷ [])) ∙ i),
    triangle_left r p q z (turn_around q r p (turn_around p q r h)) (sym (start_place z (p ∷ q ∷ []) (r ∷ [])) ∙ i),
  )),
  (λ s. sides_inside p q r z s.1 s.2 s.0),
)
