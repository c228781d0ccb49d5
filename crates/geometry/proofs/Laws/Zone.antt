-- All edges of a zone, and its refusals. In order: one more edge in the count, which no edge enters twice; the place off the border; the
-- count and the walk over the edges of a flat list; the refusals in their order; no two results satisfy the promise. Not here: one edge (`Edges`). Assumes nothing.
use mathlib.Core.Path.{◌≡◌, refl, sym, ap, ap₂, ◌∙◌, subst}
use mathlib.Core.Bool.{Bool, true, false, cond}
use mathlib.Core.List.{List, [], ◌∷◌}
use Prim.Native.Nat.{ℕ, suc, ◌+◌, ◌*◌, ◌/◌, ◌%◌, ◌≤◌, ◌<◌}
use native.Mathlib.Nat.{le_refl}
use native.Mathlib.Omega.{arith}
use lib.Dec.{T, eqb, leb, ltb}
use lib.ListN.{length, drop, length-drop, drop_of_length-le}
use lib.Ieee.{Float, nan}
use borrow.Author.Tests.{ltb-true, le-leb, lt-leb, eq-eqb, ne_eqb}
use Rattle.refusal.specs.Outcome.{Outcome, answers, refuses, Fixes, too_many, not_accepted, too_few_corners, odd_length, kind_number}
use Rattle.refusal.specs.declared.Refusal.{Refusal}
use Rattle.refusal.specs.Search.{passing_from, AllPass}
use Rattle.refusal.specs.Judged.{require, also}
use Rattle.refusal.proofs.Laws.Judged.{require_holds, require_fails}
use Rattle.refusal.proofs.Laws.Outcome.{outcome_once}
use Rattle.refusal.proofs.Laws.Search.{passing_answered, passing_other, failing_other}
use Rattle.point.specs.declared.Point.{Point}
use Rattle.point.specs.Accepted.{accepted_of, accepting_from, Accepted}
use Rattle.point.specs.Spot.{spot_of}
use Rattle.ground.specs.Plane.{Spot}
use Rattle.ground.specs.Edge.{Edge, edge, edges_of, on_edge, is_up, is_down}
use Rattle.ground.specs.Zone.{count_of, tally_of, Lies, outside, border, inside, off_border, walk, place_of}
use Rattle.ground.proofs.Laws.Edges.{crossing_once}
use Rattle.ground.proofs.Laws.Rule.{off_equal, off_unequal}
use Rattle.geometry.specs.Zone.{fewest, most, corners_of, place_in, corner_at, next_of, NextSays, Zoned, place_said, zone_said, zone_of, ZoneSays}
use Rattle.geometry.specs.Parts.{crossing_of, with_edge, counts_of}
use Rattle.geometry.specs.declared.answer.Crossing.TheVariants.{None, Up, Down}
use Rattle.geometry.specs.declared.zones.Counts.{Counts}
use Rattle.geometry.specs.declared.answer.Place.{Place}
use Rattle.geometry.specs.declared.answer.Place.TheVariants.{Outside, Border, Inside}
use Rattle.geometry.proofs.Laws.Edges.{edges_drop, edges_length}
use Rattle.std.specs.Prelude.{Err, Ok, Result}

-- ---- the count
-- an edge adds to one count, or to none
abbrev counts : ℕ → ℕ → Counts
counts m n = record { ups = m; downs = n }

edge_adds : (u d : Bool) (m n : ℕ) → (u ≡ true → d ≡ false)
    → with_edge (counts m n) (cond u Up (cond d Down None)) ≡ counts (cond u 1 0 + m) (cond d 1 0 + n)
edge_adds true true m n h = absurd (subst T (h refl) tt)
edge_adds true false m n h = ap₂ counts (omega arith) (omega arith)
edge_adds false true m n h = ap₂ counts (omega arith) (omega arith)
edge_adds false false m n h = ap₂ counts (omega arith) (omega arith)

counts_turn : (e : Edge) (es : List Edge) (p : Spot) → with_edge (counts_of es p) (crossing_of e p) ≡ counts_of (e ∷ es) p
unfolding count_of
counts_turn e es p = edge_adds (is_up e p) (is_down e p) (count_of is_up es p) (count_of is_down es p) (crossing_once e p)

count_most : (is : Edge → Spot → Bool) (es : List Edge) (p : Spot) → count_of is es p ≤ length es
unfolding count_of
count_most is [] p = le_refl 0
count_most is (e ∷ es) p = go (is e p) (count_most is es p)
  where
    go : (b : Bool) → count_of is es p ≤ length es → cond b 1 0 + count_of is es p ≤ suc (length es)
    go true h = omega arith
    go false h = omega arith

-- ---- the place
-- what is answered off the border, and by the walk from edge k on
abbrev pub off_of : List Edge → Spot → Lies
off_of es p = off_border (tally_of es p)

abbrev pub walk_from : List Float → Point → ℕ → Lies
walk_from xs p k = walk k (drop k (edges_of (corners_of xs))) (spot_of p) (off_of (edges_of (corners_of xs)) (spot_of p))

pub walk_start : (xs : List Float) (p : Point) → walk_from xs p 0 ≡ place_in xs p
unfolding place_in place_of
walk_start xs p = refl

module _ (es : List Edge) (p : Spot) (t : Counts) (e : t ≡ counts_of es p) where
  pub off_inside : (t.ups ≡ t.downs → ⊥) → inside ≡ off_of es p
  unfolding tally_of
  off_inside h =
      sym (off_unequal (tally_of es p) (λ i. h (ap (λ (t : Counts). t.ups) e ∙ i ∙ sym (ap (λ (t : Counts). t.downs) e))))

  pub off_outside : t.ups ≡ t.downs → outside ≡ off_of es p
  unfolding tally_of
  off_outside h =
      sym (off_equal (tally_of es p) (sym (ap (λ (t : Counts). t.ups) e) ∙ h ∙ ap (λ (t : Counts). t.downs) e))

-- ---- the edges of a flat list, from edge k on
-- a corner's next one is a corner
pub next_inside : (k n : ℕ) → k < n → next_of n k < n
next_inside k n h = go (ltb (k + 1) n) refl
  where
    go : (b : Bool) → ltb (k + 1) n ≡ b → cond b (k + 1) 0 < n
    go true e = ltb-true (k + 1) n e
    go false e = omega arith

module _ (xs : List Float) (n : ℕ) (p : Point) (size : length xs ≡ 2 * n) where
  abbrev at : ℕ → Edge
  at k = edge (spot_of (corner_at xs k)) (spot_of (corner_at xs (next_of n k)))

  row_end : (k : ℕ) → n ≤ k → drop k (edges_of (corners_of xs)) ≡ []
  row_end k h =
      let l : length (edges_of (corners_of xs)) ≤ k = omega (arith, edges_length xs n size) in
      drop_of_length-le (edges_of (corners_of xs)) l

  -- the count goes from the last edge to the first
  pub counts_end : counts 0 0 ≡ counts_of (drop n (edges_of (corners_of xs))) (spot_of p)
  unfolding count_of
  counts_end = sym (ap (λ (es : List Edge). counts_of es (spot_of p)) (row_end n (le_refl n)))

  pub counts_before : (j k : ℕ) → k ≡ j + 1 → j < n
      → with_edge (counts_of (drop k (edges_of (corners_of xs))) (spot_of p)) (crossing_of (at j) (spot_of p))
      ≡ counts_of (drop j (edges_of (corners_of xs))) (spot_of p)
  counts_before j k e h =
      ap (λ (i : ℕ). with_edge (counts_of (drop i (edges_of (corners_of xs))) (spot_of p)) (crossing_of (at j) (spot_of p))) e
      ∙ counts_turn (at j) (drop (j + 1) (edges_of (corners_of xs))) (spot_of p)
      ∙ ap (λ (es : List Edge). counts_of es (spot_of p)) (sym (edges_drop xs n j size h))

  pub count_few : (is : Edge → Spot → Bool) (k : ℕ) → count_of is (drop k (edges_of (corners_of xs))) (spot_of p) ≤ n
  count_few is k =
      let es = edges_of (corners_of xs) in
      omega (arith, count_most is (drop k es) (spot_of p), length-drop k es, edges_length xs n size)

  -- the walk goes from the first edge to the last
  pub walk_here : (k : ℕ) → k < n → on_edge (at k) (spot_of p) ≡ true → walk_from xs p k ≡ border k
  unfolding walk
  walk_here k h e = rw (edges_drop xs n k size h, e)

  pub walk_later : (k : ℕ) → k < n → on_edge (at k) (spot_of p) ≡ false
      → walk_from xs p k ≡ walk_from xs p (k + 1)
  unfolding walk
  walk_later k h e = rw (edges_drop xs n k size h, e)

  pub walk_end : (k : ℕ) → n ≤ k → walk_from xs p k ≡ off_of (edges_of (corners_of xs)) (spot_of p)
  unfolding walk
  walk_end k h = rw (row_end k h)

-- a zone that is not refused
pub zone_zoned : (xs : List Float) → (length xs % 2 ≡ 1 → ⊥) → fewest ≤ length xs / 2 → length xs / 2 ≤ most
    → answers (tt {0}) ≡ accepting_from 2 xs tt → Zoned xs (length xs / 2)
zone_zoned xs even some few h = record {
  corners = omega arith;
  some = some;
  few = few;
  accepted = λ k l. record {
    x = all (2 * k) (omega arith);
    y = all (2 * k + 1) (omega arith);
  };
}
  where
    all : AllPass accepted_of nan xs
    all = (passing_answered accepted_of not_accepted nan tt 2 xs tt (sym h)).0

-- ---- the refusals in their order
module _ (xs : List Float) (p : Point) where
  abbrev placed : Lies
  placed = place_in xs p

  -- what is judged after each test
  after_many : Unit {0} → Outcome Lies
  after_many u = accepting_from 0 (p.x ∷ p.y ∷ xs) placed

  after_few : Unit {0} → Outcome Lies
  after_few u = also (require (leb (length xs / 2) most) too_many 0) after_many

  after_odd : Unit {0} → Outcome Lies
  after_odd u = also (require (leb fewest (length xs / 2)) too_few_corners 0) after_few

  in_order : also (require (eqb (length xs % 2) 0) odd_length 0) after_odd ≡ zone_of xs p
  unfolding zone_of after_odd after_few after_many
  in_order = refl

  pub zone_odd : length xs % 2 ≡ 1 → refuses odd_length 0 ≡ zone_of xs p
  zone_odd h = sym (require_fails odd_length 0 after_odd (ne_eqb (length xs % 2) 0 (λ e. let z : ⊥ = omega arith in z))) ∙ in_order

  module _ (even : length xs % 2 ≡ 1 → ⊥) where
    past_odd : after_odd tt ≡ zone_of xs p
    past_odd = sym (require_holds odd_length 0 after_odd (eq-eqb (length xs % 2) 0 (omega arith))) ∙ in_order

    pub zone_small : length xs / 2 < fewest → refuses too_few_corners 0 ≡ zone_of xs p
    unfolding after_odd
    zone_small h = sym (require_fails too_few_corners 0 after_few (lt-leb fewest (length xs / 2) h)) ∙ past_odd

    module _ (some : fewest ≤ length xs / 2) where
      past_few : after_few tt ≡ zone_of xs p
      unfolding after_odd
      past_few = sym (require_holds too_few_corners 0 after_few (le-leb fewest (length xs / 2) some)) ∙ past_odd

      pub zone_large : most < length xs / 2 → refuses too_many 0 ≡ zone_of xs p
      unfolding after_few
      zone_large h = sym (require_fails too_many 0 after_many (lt-leb (length xs / 2) most h)) ∙ past_few

      module _ (few : length xs / 2 ≤ most) where
        -- no test of the list fails: then the coordinates are judged
        pub judged : accepting_from 0 (p.x ∷ p.y ∷ xs) placed ≡ zone_of xs p
        unfolding after_few after_many
        judged = sym (require_holds too_many 0 after_many (le-leb (length xs / 2) most few)) ∙ past_few

        pub zone_x : accepted_of p.x ≡ false → refuses not_accepted 0 ≡ zone_of xs p
        unfolding passing_from
        zone_x h = let e : refuses not_accepted 0 ≡ accepting_from 0 (p.x ∷ p.y ∷ xs) placed = rw h in e ∙ judged

        pub zone_y : accepted_of p.x ≡ true → accepted_of p.y ≡ false → refuses not_accepted 1 ≡ zone_of xs p
        unfolding passing_from
        zone_y h k = let e : refuses not_accepted 1 ≡ accepting_from 0 (p.x ∷ p.y ∷ xs) placed = rw (h, k) in e ∙ judged

        module _ (point : Accepted p) where
          corners_judged : accepting_from 2 xs placed ≡ zone_of xs p
          unfolding passing_from
          corners_judged =
              let e : accepting_from 2 xs placed ≡ accepting_from 0 (p.x ∷ p.y ∷ xs) placed = rw (point.x, point.y) in
              e ∙ judged

          pub zone_corner : (r : Refusal) → refuses (kind_number r.kind) r.place ≡ accepting_from 2 xs (tt {0}) → ZoneSays xs p (Err r)
          unfolding zone_said
          zone_corner r h = sym (failing_other accepted_of not_accepted 2 nan xs tt placed (sym h)) ∙ corners_judged

          pub zone_place : answers (tt {0}) ≡ accepting_from 2 xs tt → (place : Place) → place_said place ≡ placed → ZoneSays xs p (Ok place)
          unfolding zone_said
          zone_place h place e = ap answers e ∙ sym (passing_other accepted_of not_accepted 2 nan xs tt placed (sym h)) ∙ corners_judged

-- ---- no two results satisfy the promise
pub place_once : (a b : Place) → place_said a ≡ place_said b → a ≡ b
unfolding place_said
place_once Outside Outside e = refl
place_once Outside (Border k) e = cc
place_once Outside Inside e = cc
place_once (Border k) Outside e = cc
place_once (Border k) (Border j) e = ap Border (cc)
place_once (Border k) Inside e = cc
place_once Inside Outside e = cc
place_once Inside (Border k) e = cc
place_once Inside Inside e = refl

pub zone_fixed : (xs : List Float) (p : Point) → Fixes (λ (z : Result Place Refusal). ZoneSays xs p z)
unfolding zone_said
zone_fixed xs p a b h k = outcome_once place_said place_once a b (h ∙ sym k)

pub next_of_fixed : (n k : ℕ) → Fixes (NextSays n k)
next_of_fixed n k a b p q = p ∙ sym q
