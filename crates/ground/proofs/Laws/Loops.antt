-- A list that passes a corner twice is two loops, as in a figure of eight. In order: its edges are those of both; its total is both totals added;
-- its border is that of both, and off it the place by that of both; a list of corners twice over doubles its total, and has the same
-- place, at the same edge. Assumes nothing.
use mathlib.Core.Path.{◌≡◌, refl, sym, ap, ◌∙◌}
use mathlib.Core.List.{List, [], ◌∷◌, ◌++◌}
use mathlib.Core.Logic.{◌⊎◌, inl, inr, ⊎_elim, ⊎_map, ◌↔◌}
use Prim.Native.Nat.{ℕ, zero, suc, ◌+◌, ◌<◌}
use native.Mathlib.Omega.{arith}
use lib.IntN.{ℤ, pos, ◌+ℤ◌}
use lib.ListN.{length}
use Rattle.whole.proofs.Laws.Linear.{ints, int_rules}
use Rattle.ground.specs.Plane.{Spot}
use Rattle.ground.specs.Edge.{Edge, edges_of, on_edge}
use Rattle.ground.specs.Zone.{count_of, tally_of, total_of, Lies, off_border, walk, place_of}
use Rattle.ground.specs.Listing.{place_in, total_in, together}
use Rattle.ground.proofs.Laws.Rule.{total_together, off_told, off_inside, off_outside, off_joined_inside, off_joined_outside, off_number}
use Rattle.ground.proofs.Laws.Tally.{count_append, tally_append, walked, walk_append, off_place, border_count}
use Rattle.ground.proofs.Laws.Listing.{edges_seam}

module _ (a : Spot) (cs ds : List Spot) where
  edges_loops : edges_of (a ∷ cs ++ a ∷ ds) ≡ edges_of (a ∷ cs) ++ edges_of (a ∷ ds)
  unfolding edges_of
  edges_loops = edges_seam a a a cs ds

  module _ (p : Spot) where
    abbrev whole : List Edge
    whole = edges_of (a ∷ cs ++ a ∷ ds)

    abbrev one : List Edge
    one = edges_of (a ∷ cs)

    abbrev two : List Edge
    two = edges_of (a ∷ ds)

    -- both totals added
    pub loops_total : total_in (a ∷ cs) p +ℤ total_in (a ∷ ds) p ≡ total_in (a ∷ cs ++ a ∷ ds) p
    loops_total =
        sym (ap (λ (es : List Edge). total_of (tally_of es p)) edges_loops ∙ ap total_of (tally_append one two p)
        ∙ total_together (tally_of one p) (tally_of two p))

    -- the border of both
    pub loops_border : (place_in (a ∷ cs ++ a ∷ ds) p ≡ 1) ↔ ((place_in (a ∷ cs) p ≡ 1) ⊎ (place_in (a ∷ ds) p ≡ 1))
    loops_border = (
      λ e. split (count_of on_edge one p) (count_of on_edge two p) refl refl (omega (arith, (border_count whole p).0 e, on)),
      ⊎_elim (λ e. (border_count whole p).1 (omega (arith, (border_count one p).0 e, on)))
          (λ e. (border_count whole p).1 (omega (arith, (border_count two p).0 e, on))),
    )
      where
        on : count_of on_edge whole p ≡ count_of on_edge one p + count_of on_edge two p
        on = ap (λ (es : List Edge). count_of on_edge es p) edges_loops ∙ count_append on_edge one two p

        split : (m n : ℕ) → count_of on_edge one p ≡ m → count_of on_edge two p ≡ n → 0 < m + n
            → (place_in (a ∷ cs) p ≡ 1) ⊎ (place_in (a ∷ ds) p ≡ 1)
        split zero n i j h = inr ((border_count two p).1 (omega arith))
        split (suc m) n i j h = inl ((border_count one p).1 (omega arith))

    module _ (off_one : place_in (a ∷ cs) p ≡ 1 → ⊥) (off_two : place_in (a ∷ ds) p ≡ 1 → ⊥) where
      off_whole : place_in (a ∷ cs ++ a ∷ ds) p ≡ 1 → ⊥
      off_whole e = ⊎_elim off_one off_two (loops_border.0 e)

      -- inside: inside one of the loops, or both
      pub loops_inside : place_in (a ∷ cs ++ a ∷ ds) p ≡ 2 → (place_in (a ∷ cs) p ≡ 2) ⊎ (place_in (a ∷ ds) p ≡ 2)
      loops_inside i =
          rw (off_place one p off_one, off_place two p off_two)
          (off_joined_inside (tally_of one p) (tally_of two p) (tally_of whole p) loops_total (sym (off_place whole p off_whole) ∙ i))

      -- inside one of the loops and outside the other: inside
      pub loops_one : ((place_in (a ∷ cs) p ≡ 2) × (place_in (a ∷ ds) p ≡ 0)) ⊎ ((place_in (a ∷ cs) p ≡ 0) × (place_in (a ∷ ds) p ≡ 2))
          → place_in (a ∷ cs ++ a ∷ ds) p ≡ 2
      loops_one h = elim (off_number (tally_of whole p)) [
        | inr (z, i) ↦ off_place whole p off_whole ∙ i
        | inl (z, o) ↦
            absurd (clash (place_in (a ∷ cs) p) (place_in (a ∷ ds) p) h
            (⊎_map (λ (e, f). (off_place one p off_one ∙ e, off_place two p off_two ∙ f))
            (λ (e, f). (off_place one p off_one ∙ e, off_place two p off_two ∙ f))
            (off_joined_outside (tally_of one p) (tally_of two p) (tally_of whole p) loops_total o)))
      ]
        where
          clash : (m n : ℕ) → ((m ≡ 2) × (n ≡ 0)) ⊎ ((m ≡ 0) × (n ≡ 2)) → ((m ≡ 2) × (n ≡ 2)) ⊎ ((m ≡ 0) × (n ≡ 0)) → ⊥
          clash m n (inl (e, f)) (inl (g, h)) = omega arith
          clash m n (inl (e, f)) (inr (g, h)) = omega arith
          clash m n (inr (e, f)) (inl (g, h)) = omega arith
          clash m n (inr (e, f)) (inr (g, h)) = omega arith

-- ---- twice over
edges_twice : (cs : List Spot) → edges_of (cs ++ cs) ≡ edges_of cs ++ edges_of cs
unfolding edges_of
edges_twice [] = refl
edges_twice (a ∷ cs) = edges_loops a cs cs

module _ (cs : List Spot) (p : Spot) where
  abbrev es : List Edge
  es = edges_of cs

  twice_tally : tally_of (edges_of (cs ++ cs)) p ≡ together (tally_of es p) (tally_of es p)
  twice_tally = ap (λ (fs : List Edge). tally_of fs p) (edges_twice cs) ∙ tally_append es es p

  -- the total is doubled
  pub twice_total : total_in (cs ++ cs) p ≡ total_in cs p +ℤ total_in cs p
  twice_total = ap total_of twice_tally ∙ total_together (tally_of es p) (tally_of es p)

  -- twice nothing is nothing, and nothing else is
  twice_off : off_border (tally_of (edges_of (cs ++ cs)) p) ≡ off_border (tally_of es p)
  twice_off = elim (off_told (tally_of es p)) [
    | inl (z, o) ↦ (off_outside _).1 (twice_total ∙ double (total_in cs p) z) ∙ sym o
    | inr (z, i) ↦ (off_inside _).1 (λ e. z (half (total_in cs p) (sym twice_total ∙ e))) ∙ sym i
  ]
    where
      double : (z : ℤ) → z ≡ pos 0 → z +ℤ z ≡ pos 0
      double z = ints (z ∷ []) (λ ρ v n m. simp (int_rules, n, v 0) (omega arith))

      half : (z : ℤ) → z +ℤ z ≡ pos 0 → z ≡ pos 0
      half z = ints (z ∷ []) (λ ρ v n m. simp (int_rules, n, v 0) (omega arith))

  -- the place is the same, on the border at the same edge
  pub twice_place : place_of (edges_of (cs ++ cs)) p ≡ place_of es p
  unfolding place_of
  twice_place =
      ap (λ (fs : List Edge). walk 0 fs p off) (edges_twice cs) ∙ walk_append 0 es es p off
      ∙ elim (walked es p) [
        | inl (met, same) ↦ same 0 (walk (0 + length es) es p off) (off_border (tally_of es p))
        | inr none ↦ none 0 (walk (0 + length es) es p off) ∙ none (0 + length es) off ∙ twice_off ∙ sym (none 0 (off_border (tally_of es p)))
      ]
    where
      off : Lies
      off = off_border (tally_of (edges_of (cs ++ cs)) p)
