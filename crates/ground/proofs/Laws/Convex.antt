-- A strictly convex zone that goes round once. In order: four of its corners are not low, high, low, high in turn, whatever height parts low from
-- high; so a way round it that begins low rises once at the most, and falls as often; so at most one edge counts upward and one
-- downward, either way round; so its totals are from -1 to 1, and the rule by odd or even says the same. Assumes nothing.
use mathlib.Core.Path.{◌≡◌, refl, sym, ap, ◌∙◌}
use mathlib.Core.Bool.{Bool, true, false, not, cond, ◌&&◌}
use mathlib.Core.List.{List, [], ◌∷◌, reverse}
use mathlib.Core.Logic.{◌⊎◌, inl, inr, ⊎_elim}
use Prim.Native.Nat.{ℕ, ◌+◌, ◌≤◌}
use native.Mathlib.Omega.{arith}
use lib.IntN.{ℤ, pos, ◌-ℤ◌, ◌*ℤ◌}
use Rattle.whole.specs.Order.{◌≤ᶻ◌, ◌<ᶻ◌}
use Rattle.whole.proofs.Laws.Linear.{ints, int_rules}
use Rattle.whole.proofs.Laws.Order.{mul_positive, mul_nonneg}
use Rattle.ground.specs.Plane.{Spot, determinant}
use Rattle.ground.specs.Edge.{edges_from, edges_of, is_up, is_down}
use Rattle.ground.specs.Zone.{count_of, Tally, tally_of, place_of}
use Rattle.ground.specs.Parity.{place_by_parity, Small}
use Rattle.ground.specs.Listing.{total_in}
use Rattle.ground.specs.Convex.{LeftOf, All, Fan, Round, Convex}
use Rattle.ground.proofs.Laws.Compare.{at_most_says, below_says, below_not}
use Rattle.ground.proofs.Laws.Edges.{turn_around}
use Rattle.ground.proofs.Laws.Listing.{back_tally}
use Rattle.ground.proofs.Laws.Weights.{lt_le, difference_nonneg, difference_above}
use Rattle.ground.proofs.Laws.Triangles.{low, left, right, edge_up, edge_down}
use Rattle.ground.proofs.Laws.Parity.{small_place, few_small}

-- ---- four corners in turn
-- bcd·a - acd·b + abd·c - abc·d is 0, of heights over z too: with a and c low, b and d high it would be below 0
not_in_turn : (a b c d : Spot) (z : ℤ) → LeftOf a b c → LeftOf a b d → LeftOf a c d → LeftOf b c d
    → a.y ≤ᶻ z → z <ᶻ b.y → c.y ≤ᶻ z → z <ᶻ d.y → ⊥
not_in_turn a b c d z abc abd acd bcd la hb lc hd =
    clash
    (mul_positive (determinant a c d) (b.y -ℤ z) acd (difference_above z b.y hb))
    (mul_positive (determinant a b c) (d.y -ℤ z) abc (difference_above z d.y hd))
    (mul_nonneg (determinant b c d) (z -ℤ a.y) (lt_le (pos 0) (determinant b c d) bcd) (difference_nonneg a.y z la))
    (mul_nonneg (determinant a b d) (z -ℤ c.y) (lt_le (pos 0) (determinant a b d) abd) (difference_nonneg c.y z lc))
  where
    clash : pos 0 <ᶻ determinant a c d *ℤ (b.y -ℤ z) → pos 0 <ᶻ determinant a b c *ℤ (d.y -ℤ z)
        → pos 0 ≤ᶻ determinant b c d *ℤ (z -ℤ a.y) → pos 0 ≤ᶻ determinant a b d *ℤ (z -ℤ c.y) → ⊥
    clash =
        ints (a.x ∷ a.y ∷ b.x ∷ b.y ∷ c.x ∷ c.y ∷ d.x ∷ d.y ∷ z ∷ [])
        (λ ρ v n m. simp (int_rules, n, v 0, v 1, v 2, v 3, v 4, v 5, v 6, v 7, v 8) (omega arith))

-- ---- how often a way goes from low to high
abbrev climb : Bool → Bool → ℕ
climb la lb = cond (la && not lb) 1 0

either : (t : Bool) → (t ≡ true) ⊎ (t ≡ false)
either true = inl refl
either false = inr refl

to_low : (la : Bool) {lb : Bool} → lb ≡ true → climb la lb ≡ 0
to_low true e = rw e
to_low false e = refl

from_high : {la : Bool} (lb : Bool) → la ≡ false → climb la lb ≡ 0
from_high lb e = rw e

climb_once : (la lb : Bool) → climb la lb ≤ 1
climb_once true true = omega arith
climb_once true false = omega arith
climb_once false lb = omega arith

-- any way to part low from high by which no four corners are low, high, low, high in turn
module _ (is_low : Spot → Bool) (alternate : (a b c d : Spot) → LeftOf a b c → LeftOf a b d → LeftOf a c d → LeftOf b c d
    → is_low a ≡ true → is_low b ≡ false → is_low c ≡ true → is_low d ≡ false → ⊥) where
  -- from a by cs to z
  abbrev rises : Spot → Spot → List Spot → ℕ
  rises z a [] = climb (is_low a) (is_low z)
  rises z a (b ∷ cs) = climb (is_low a) (is_low b) + rises z b cs

  stays_low : (z c : Spot) (ds : List Spot) → is_low z ≡ true → All (λ d. is_low d ≡ true) ds → rises z c ds ≡ 0
  stays_low z c [] hz h = to_low (is_low c) hz
  stays_low z c (d ∷ ds) hz h = omega (arith, to_low (is_low c) h.0, stays_low z d ds hz h.1)

  -- after low, high, low
  low_after : (a b c : Spot) (ds : List Spot) → LeftOf a b c → is_low a ≡ true → is_low b ≡ false → is_low c ≡ true
      → All (LeftOf a b) ds → All (LeftOf a c) ds → All (LeftOf b c) ds → All (λ d. is_low d ≡ true) ds
  low_after a b c [] abc la hb lc f g h = tt
  low_after a b c (d ∷ ds) abc la hb lc f g h = (
    ⊎_elim (λ e. e) (λ e. absurd (alternate a b c d abc f.0 g.0 h.0 la hb lc e)) (either (is_low d)),
    low_after a b c ds abc la hb lc f.1 g.1 h.1,
  )

  -- a is low and b is high: no rise from b on to a
  no_more : (a b : Spot) (cs : List Spot) → is_low a ≡ true → is_low b ≡ false → All (LeftOf a b) cs → Fan a cs → Fan b cs → Round cs
      → rises a b cs ≡ 0
  no_more a b [] la hb f g h r = from_high (is_low a) hb
  no_more a b (c ∷ cs) la hb f g h r =
      ⊎_elim
      (λ e. omega (arith, to_low (is_low b) e, stays_low a c cs la (low_after a b c cs f.0 la hb e f.1 g.0 h.0)))
      (λ e. omega (arith, from_high (is_low c) hb, no_more a c cs la e g.0 g.1 r.0 r.1))
      (either (is_low c))

  rise_once : (a c : Spot) (cs : List Spot) → is_low a ≡ true → Fan a cs → Round cs → rises a c cs ≤ 1
  rise_once a c [] la f r = climb_once (is_low c) (is_low a)
  rise_once a c (d ∷ ds) la f r =
      ⊎_elim
      (λ e. omega (arith, to_low (is_low c) e, rise_once a d ds la f.1 r.1))
      (λ e. omega (arith, climb_once (is_low c) (is_low d), no_more a d ds la e f.0 f.1 r.0 r.1))
      (either (is_low d))

-- ---- low is at the point's height or below it
module _ (p : Spot) where
  abbrev high : Spot → Bool
  high c = not (low p c)

  is_low_lem : (c : Spot) → low p c ≡ true → c.y ≤ᶻ p.y
  is_low_lem c = (at_most_says c.y p.y).0

  is_high : (c : Spot) → low p c ≡ false → p.y <ᶻ c.y
  is_high c e = (below_says p.y c.y).0 (below_not c.y p.y ∙ ap not e)

  lows : (a b c d : Spot) → LeftOf a b c → LeftOf a b d → LeftOf a c d → LeftOf b c d
      → low p a ≡ true → low p b ≡ false → low p c ≡ true → low p d ≡ false → ⊥
  lows a b c d abc abd acd bcd la hb lc hd = not_in_turn a b c d p.y abc abd acd bcd (is_low_lem a la) (is_high b hb) (is_low_lem c lc) (is_high d hd)

  not_not : (t : Bool) → not t ≡ false → t ≡ true
  not_not true e = refl
  not_not false e = sym e

  not_yet : (t : Bool) → not t ≡ true → t ≡ false
  not_yet true e = sym e
  not_yet false e = refl

  highs : (a b c d : Spot) → LeftOf a b c → LeftOf a b d → LeftOf a c d → LeftOf b c d
      → high a ≡ true → high b ≡ false → high c ≡ true → high d ≡ false → ⊥
  highs a b c d abc abd acd bcd ha lb hc ld =
      lows b c d a bcd (turn_around a b c abc) (turn_around a b d abd) (turn_around a c d acd)
      (not_not (low p b) lb) (not_yet (low p c) hc) (not_not (low p d) ld) (not_yet (low p a) ha)

  -- a way falls where it rises from high to low
  abbrev ups : Spot → Spot → List Spot → ℕ
  ups = rises (low p) lows

  abbrev downs : Spot → Spot → List Spot → ℕ
  downs = rises high highs

  -- a closed way falls as often as it rises
  step_balanced : (la lb : Bool) → climb la lb + cond la 0 1 ≡ climb (not la) (not lb) + cond lb 0 1
  step_balanced true true = refl
  step_balanced true false = refl
  step_balanced false true = refl
  step_balanced false false = refl

  way_balanced : (z a : Spot) (cs : List Spot) → ups z a cs + cond (low p a) 0 1 ≡ downs z a cs + cond (low p z) 0 1
  way_balanced z a [] = step_balanced (low p a) (low p z)
  way_balanced z a (b ∷ cs) = omega (arith, step_balanced (low p a) (low p b), way_balanced z b cs)

  few : (a : Spot) (cs : List Spot) → Fan a cs → Round cs → (ups a a cs ≤ 1) × (downs a a cs ≤ 1)
  few a cs f r =
      ⊎_elim
      (λ e. let h = rise_once (low p) lows a a cs e f r in (h, omega (arith, way_balanced a a cs)))
      (λ e. let h = rise_once high highs a a cs (ap not e) f r in (omega (arith, way_balanced a a cs), h))
      (either (low p a))

  -- ---- edges that count are among those that rise, and among those that fall
  among : (s t : Bool) → cond (s && t) 1 0 ≤ cond s 1 0
  among true true = omega arith
  among true false = omega arith
  among false t = omega arith

  fall : (la lb : Bool) → cond (lb && not la) 1 0 ≡ climb (not la) (not lb)
  fall true true = refl
  fall true false = refl
  fall false true = refl
  fall false false = refl

  ups_among : (z a : Spot) (cs : List Spot) → count_of is_up (edges_from z a cs) p ≤ ups z a cs
  unfolding count_of edges_from
  ups_among z a [] = rw (edge_up p a z) (omega (arith, among (low p a && not (low p z)) (left p a z)))
  ups_among z a (b ∷ cs) = rw (edge_up p a b) (omega (arith, among (low p a && not (low p b)) (left p a b), ups_among z b cs))

  downs_among : (z a : Spot) (cs : List Spot) → count_of is_down (edges_from z a cs) p ≤ downs z a cs
  unfolding count_of edges_from
  downs_among z a [] =
      rw (edge_down p a z) (omega (arith, among (low p z && not (low p a)) (right p a z), fall (low p a) (low p z)))
  downs_among z a (b ∷ cs) =
      rw (edge_down p a b)
      (omega (arith, among (low p b && not (low p a)) (right p a b), fall (low p a) (low p b), downs_among z b cs))

  round_tally : (cs : List Spot) → Round cs → ((tally_of (edges_of cs) p).ups ≤ 1) × ((tally_of (edges_of cs) p).downs ≤ 1)
  unfolding tally_of edges_of count_of
  round_tally [] r = (omega arith, omega arith)
  round_tally (a ∷ cs) r =
      let h = few a cs r.0 r.1 in
      (omega (arith, ups_among a a cs), omega (arith, downs_among a a cs))

  -- ---- either way round
  pub convex_tally : (cs : List Spot) → Convex cs → ((tally_of (edges_of cs) p).ups ≤ 1) × ((tally_of (edges_of cs) p).downs ≤ 1)
  convex_tally cs (inl r) = round_tally cs r
  convex_tally cs (inr r) =
      let h = round_tally (reverse cs) r in
      let e = back_tally p cs in
      (omega (arith, ap (λ (t : Tally). t.downs) e), omega (arith, ap (λ (t : Tally). t.ups) e))

  -- the totals are from -1 to 1
  pub convex_small : (cs : List Spot) → Convex cs → Small (total_in cs p)
  convex_small cs r = let t = convex_tally cs r in few_small (tally_of (edges_of cs) p) t.0 t.1

  -- the place is the same by both rules
  pub convex_parity : (cs : List Spot) → Convex cs → place_by_parity (edges_of cs) p ≡ place_of (edges_of cs) p
  convex_parity cs r = small_place (edges_of cs) p (convex_small cs r)
