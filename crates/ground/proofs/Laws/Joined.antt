-- Two zones that share an edge, or a chain of edges, and their joint outline. In order: the edges of the three lists; what they tally: each
-- edge of the chain that counts is up in one zone and down in the other, so that both totals add up to the outline's; edges with the point on
-- them; over any listings, the border and the place in the outline and in the two; lists that are so joined, the chain walked by both zones the
-- same way or not, and their totals.
-- Not here: zones that cross or share more than one chain. Assumes nothing.
use mathlib.Core.Path.{◌≡◌, sym, ap, ap₂, ◌∙◌}
use mathlib.Core.List.{List, [], ◌∷◌, ◌++◌, reverse, append_assoc, reverse-cons, reverse-append}
use mathlib.Core.Logic.{◌⊎◌, inl, inr, ⊎_elim, ⊎_map, ◌↔◌}
use Prim.Native.Nat.{ℕ, zero, suc, ◌+◌, ◌<◌}
use native.Mathlib.Omega.{arith}
use lib.IntN.{ℤ, neg_ℤ, ◌+ℤ◌, ◌-ℤ◌}
use Rattle.whole.proofs.Laws.Linear.{ints, int_rules}
use Rattle.ground.specs.Plane.{Spot}
use Rattle.ground.specs.Edge.{Edge, edges_from, edges_of, on_edge}
use Rattle.ground.specs.Zone.{count_of, Tally, tally_of, total_of, place_number, off_border}
use Rattle.ground.specs.Parity.{Agreed}
use Rattle.ground.specs.Listing.{Turned, Relisted, place_in, total_in, together, opposite, Met, Joined, shared_edges}
use Rattle.ground.proofs.Laws.Rule.{total_opposite, total_together, off_joined_inside, off_joined_once, off_joined_outside}
use Rattle.ground.proofs.Laws.Tally.{count_append, tally_append, off_place, border_count, met_count}
use Rattle.ground.proofs.Laws.Listing.{edges_seam, way_on, way_tally, relisted_place, turned_back_total, relisted_agreed, relisted_itself}

module _ (a b : Spot) (chain cs ds : List Spot) where
  -- ---- the edges of the three lists
  edges_one : edges_of (a ∷ chain ++ b ∷ cs) ≡ edges_from b a chain ++ edges_from a b cs
  unfolding edges_of
  edges_one = edges_seam a a b chain cs

  edges_two : edges_of (b ∷ reverse chain ++ a ∷ ds) ≡ edges_from a b (reverse chain) ++ edges_from b a ds
  unfolding edges_of
  edges_two = edges_seam b b a (reverse chain) ds

  edges_outline : edges_of (b ∷ cs ++ a ∷ ds) ≡ edges_from a b cs ++ edges_from b a ds
  unfolding edges_of
  edges_outline = edges_seam b b a cs ds

  module _ (p : Spot) where
    -- the tally of the chain, walked from a to b
    abbrev shared : Tally
    shared = tally_of (edges_from b a chain) p

    tally_one : tally_of (edges_of (a ∷ chain ++ b ∷ cs)) p ≡ together shared (tally_of (edges_from a b cs) p)
    tally_one = ap (λ (es : List Edge). tally_of es p) edges_one ∙ tally_append (edges_from b a chain) (edges_from a b cs) p

    tally_two : tally_of (edges_of (b ∷ reverse chain ++ a ∷ ds)) p ≡ together (opposite shared) (tally_of (edges_from b a ds) p)
    tally_two =
        ap (λ (es : List Edge). tally_of es p) edges_two ∙ tally_append (edges_from a b (reverse chain)) (edges_from b a ds) p
        ∙ ap (λ (t : Tally). together t (tally_of (edges_from b a ds) p)) (way_tally p a b chain)

    tally_outline : tally_of (edges_of (b ∷ cs ++ a ∷ ds)) p ≡ together (tally_of (edges_from a b cs) p) (tally_of (edges_from b a ds) p)
    tally_outline = ap (λ (es : List Edge). tally_of es p) edges_outline ∙ tally_append (edges_from a b cs) (edges_from b a ds) p

    -- both totals add up to the outline's
    pub joined_total : total_in (a ∷ chain ++ b ∷ cs) p +ℤ total_in (b ∷ reverse chain ++ a ∷ ds) p ≡ total_in (b ∷ cs ++ a ∷ ds) p
    joined_total =
        let c = tally_of (edges_from a b cs) p in
        let d = tally_of (edges_from b a ds) p in
        ap₂ (λ (y z : ℤ). y +ℤ z)
        (ap total_of tally_one ∙ total_together shared c)
        (ap total_of tally_two ∙ total_together (opposite shared) d ∙ ap (λ (z : ℤ). z +ℤ total_of d) (total_opposite shared))
        ∙ once_each_way (total_of shared) (total_of c) (total_of d)
        ∙ sym (ap total_of tally_outline ∙ total_together c d)
      where
        once_each_way : (s c d : ℤ) → (s +ℤ c) +ℤ (neg_ℤ s +ℤ d) ≡ c +ℤ d
        once_each_way s c d = ints (s ∷ c ∷ d ∷ []) (λ ρ v n m. simp (int_rules, v 0, v 1, v 2) (omega arith))

    -- ---- edges with the point on them: those of the outline's two parts, and of the chain in both zones
    pub joined_on :
        (count_of on_edge (edges_of (a ∷ chain ++ b ∷ cs)) p ≡ count_of on_edge (edges_from b a chain) p + count_of on_edge (edges_from a b cs) p)
        × (count_of on_edge (edges_of (b ∷ reverse chain ++ a ∷ ds)) p
        ≡ count_of on_edge (edges_from b a chain) p + count_of on_edge (edges_from b a ds) p)
        × (count_of on_edge (edges_of (b ∷ cs ++ a ∷ ds)) p ≡ count_of on_edge (edges_from a b cs) p + count_of on_edge (edges_from b a ds) p)
    joined_on = (
      rw edges_one (count_append on_edge (edges_from b a chain) (edges_from a b cs) p),
      rw (edges_two, ← (way_on p a b chain)) (count_append on_edge (edges_from a b (reverse chain)) (edges_from b a ds) p),
      rw edges_outline (count_append on_edge (edges_from a b cs) (edges_from b a ds) p),
    )

-- ---- over any listings
module _ (cs ds : List Spot) (p : Spot) (r : Relisted cs ds) where
  -- on the border where an edge of another listing has the point on it
  border_listed : (place_in cs p ≡ 1) ↔ (0 < count_of on_edge (edges_of ds) p)
  border_listed = rw (relisted_place p cs ds r) (border_count (edges_of ds) p)

  -- off the border, by the other listing's tally
  off_listed : (place_in cs p ≡ 1 → ⊥) → place_in cs p ≡ place_number (off_border (tally_of (edges_of ds) p))
  off_listed h = relisted_place p cs ds r ∙ off_place (edges_of ds) p (λ e. h (relisted_place p cs ds r ∙ e))

module _ {one two outline : List Spot} (j : Joined one two outline) (p : Spot) where
  abbrev one_listed : List Spot
  one_listed = j.a ∷ j.chain ++ j.b ∷ j.cs

  abbrev two_listed : List Spot
  two_listed = j.b ∷ reverse j.chain ++ j.a ∷ j.ds

  abbrev outline_listed : List Spot
  outline_listed = j.b ∷ j.cs ++ j.a ∷ j.ds

  -- a point on an edge that they share is on the border of both
  pub chain_border : Met (shared_edges j) p → (place_in one p ≡ 1) × (place_in two p ≡ 1)
  chain_border m =
      let on = joined_on j.a j.b j.chain j.cs j.ds p in
      let h = (met_count (shared_edges j) p).1 m in
      ((border_listed one one_listed p j.first).1 (omega arith), (border_listed two two_listed p j.second).1 (omega arith))

  -- the outline's border is the border of one of the two
  pub joint_border : place_in outline p ≡ 1 → (place_in one p ≡ 1) ⊎ (place_in two p ≡ 1)
  joint_border e =
      let on = joined_on j.a j.b j.chain j.cs j.ds p in
      let h = (border_listed outline outline_listed p j.whole).0 e in
      ⊎_map (λ l. (border_listed one one_listed p j.first).1 (omega arith)) (λ l. (border_listed two two_listed p j.second).1 (omega arith))
      (some (count_of on_edge (edges_from j.a j.b j.cs) p) (count_of on_edge (edges_from j.b j.a j.ds) p) (omega arith))
    where
      some : (m n : ℕ) → 0 < m + n → (0 < m) ⊎ (0 < n)
      some zero n h = inr (omega arith)
      some (suc m) n h = inl (omega arith)

  -- and the border of one of the two, but for what they share, is the outline's
  pub outer_border : (Met (shared_edges j) p → ⊥) → (place_in one p ≡ 1) ⊎ (place_in two p ≡ 1) → place_in outline p ≡ 1
  outer_border h e =
      let on = joined_on j.a j.b j.chain j.cs j.ds p in
      let some : (0 < count_of on_edge (edges_of one_listed) p) ⊎ (0 < count_of on_edge (edges_of two_listed) p) =
      ⊎_map (border_listed one one_listed p j.first).0 (border_listed two two_listed p j.second).0 e in
      (border_listed outline outline_listed p j.whole).1
      (⊎_elim (λ l. omega (arith, unmet)) (λ l. omega (arith, unmet)) some)
    where
      none : (k : ℕ) → (0 < k → ⊥) → k ≡ 0
      none k f = omega arith

      unmet : count_of on_edge (shared_edges j) p ≡ 0
      unmet = none (count_of on_edge (shared_edges j) p) (λ l. h ((met_count (shared_edges j) p).0 l))

  module _ (off_one : place_in one p ≡ 1 → ⊥) (off_two : place_in two p ≡ 1 → ⊥) where
    abbrev tallied : List Spot → Tally
    tallied cs = tally_of (edges_of cs) p

    -- inside the outline: inside one of the two, or both
    pub joined_inside : place_in outline p ≡ 2 → (place_in one p ≡ 2) ⊎ (place_in two p ≡ 2)
    joined_inside i =
        rw (off_listed one one_listed p j.first off_one, off_listed two two_listed p j.second off_two)
        (off_joined_inside (tallied one_listed) (tallied two_listed) (tallied outline_listed)
        (joined_total j.a j.b j.chain j.cs j.ds p)
        (sym (off_listed outline outline_listed p j.whole (λ e. omega arith)) ∙ i))

    -- and where all three totals are odd or 0: inside one of the two, outside the other
    pub joined_kept : Agreed (total_in one p) → Agreed (total_in two p) → Agreed (total_in outline p) → place_in outline p ≡ 2
        → ((place_in one p ≡ 2) × (place_in two p ≡ 0)) ⊎ ((place_in one p ≡ 0) × (place_in two p ≡ 2))
    joined_kept s t u i =
        rw (off_listed one one_listed p j.first off_one, off_listed two two_listed p j.second off_two)
        (off_joined_once (tallied one_listed) (tallied two_listed) (tallied outline_listed)
        (joined_total j.a j.b j.chain j.cs j.ds p)
        (relisted_agreed p one one_listed j.first s) (relisted_agreed p two two_listed j.second t)
        (relisted_agreed p outline outline_listed j.whole u)
        (sym (off_listed outline outline_listed p j.whole (λ e. omega arith)) ∙ i))

    -- outside the outline: inside both of the two, or outside both
    pub joined_outside : place_in outline p ≡ 0
        → ((place_in one p ≡ 2) × (place_in two p ≡ 2)) ⊎ ((place_in one p ≡ 0) × (place_in two p ≡ 0))
    joined_outside i =
        rw (off_listed one one_listed p j.first off_one, off_listed two two_listed p j.second off_two)
        (off_joined_outside (tallied one_listed) (tallied two_listed) (tallied outline_listed)
        (joined_total j.a j.b j.chain j.cs j.ds p)
        (sym (off_listed outline outline_listed p j.whole (λ e. omega arith)) ∙ i))

-- ---- which lists are joined
module _ (a b : Spot) (chain cs ds : List Spot) where
  -- the chain walked the other way by the second zone; with an empty chain, an edge
  pub joined_opposite : Joined (a ∷ chain ++ b ∷ cs) (b ∷ reverse chain ++ a ∷ ds) (b ∷ cs ++ a ∷ ds)
  joined_opposite = record {
    a = a;
    b = b;
    chain = chain;
    cs = cs;
    ds = ds;
    first = relisted_itself (a ∷ chain ++ b ∷ cs);
    second = relisted_itself (b ∷ reverse chain ++ a ∷ ds);
    whole = relisted_itself (b ∷ cs ++ a ∷ ds);
  }

  -- walked the same way by both: the second, backwards, walks it the other way
  alike_listed : Turned (reverse (a ∷ chain ++ b ∷ ds)) (b ∷ reverse chain ++ a ∷ reverse ds)
  alike_listed = record {
    front = reverse ds;
    back = b ∷ reverse chain ++ a ∷ [];
    one = backwards;
    other = sym (append_assoc (b ∷ reverse chain) (a ∷ []) (reverse ds));
  }
    where
      backwards : reverse (a ∷ chain ++ b ∷ ds) ≡ reverse ds ++ (b ∷ reverse chain ++ a ∷ [])
      backwards =
          reverse-append (a ∷ chain) (b ∷ ds)
          ∙ ap₂ (λ (s t : List Spot). s ++ t) (reverse-cons b ds) (reverse-cons a chain)
          ∙ append_assoc (reverse ds) (b ∷ []) (reverse chain ++ a ∷ [])

  pub joined_alike : Joined (a ∷ chain ++ b ∷ cs) (a ∷ chain ++ b ∷ ds) (b ∷ cs ++ a ∷ reverse ds)
  joined_alike = record {
    a = a;
    b = b;
    chain = chain;
    cs = cs;
    ds = reverse ds;
    first = relisted_itself (a ∷ chain ++ b ∷ cs);
    second = inr alike_listed;
    whole = relisted_itself (b ∷ cs ++ a ∷ reverse ds);
  }

  -- then the outline's total is the first's less the second's
  pub alike_total : (p : Spot) → total_in (a ∷ chain ++ b ∷ cs) p -ℤ total_in (a ∷ chain ++ b ∷ ds) p ≡ total_in (b ∷ cs ++ a ∷ reverse ds) p
  alike_total p =
      ap (λ (z : ℤ). total_in (a ∷ chain ++ b ∷ cs) p +ℤ z) (sym (turned_back_total p (a ∷ chain ++ b ∷ ds) _ alike_listed))
      ∙ joined_total a b chain cs (reverse ds) p
