-- The place does not depend on the corner that comes first, nor on the way round. In order: edges of a list with a seam; a list begun at
-- another corner has the same tally; a way between two corners, and a list, walked backwards has the opposite tally, and the same points on
-- it; so the place is the same, and the total is the same or turned round; both laws in one. The number of the border's edge may change; the
-- place does not. Assumes nothing.
use mathlib.Core.Path.{◌≡◌, refl, sym, ap, ap₂, ◌∙◌, subst}
use mathlib.Core.Bool.{Bool, cond}
use mathlib.Core.List.{List, [], ◌∷◌, ◌++◌, reverse, append-nil, reverse-cons, reverse-append, reverse-reverse}
use mathlib.Core.Logic.{◌⊎◌, inl, inr}
use Prim.Native.Nat.{ℕ, ◌+◌}
use native.Mathlib.Omega.{arith}
use lib.IntN.{ℤ, neg_ℤ}
use Rattle.ground.specs.Plane.{Spot}
use Rattle.ground.specs.Edge.{Edge, edge, edges_from, edges_of, on_edge, is_up, is_down}
use Rattle.ground.specs.Zone.{count_of, tally_of, total_of, off_border}
use Rattle.ground.specs.Parity.{Agreed}
use Rattle.ground.specs.Listing.{Turned, Relisted, turned_round, place_in, total_in, opposite}
use Rattle.ground.proofs.Laws.Edges.{on_round, up_round, down_round}
use Rattle.ground.proofs.Laws.Odd.{agreed_turned}
use Rattle.ground.proofs.Laws.Rule.{total_opposite, off_opposite}
use Rattle.ground.proofs.Laws.Tally.{count_append, count_exchanged, tally_counts, alike_place}

-- from a by cs to b, and on by ds to the first
pub edges_seam : (first a b : Spot) (cs ds : List Spot) → edges_from first a (cs ++ b ∷ ds) ≡ edges_from b a cs ++ edges_from first b ds
unfolding edges_from
edges_seam first a b [] ds = refl
edges_seam first a b (c ∷ cs) ds = ap (λ (es : List Edge). edge a c ∷ es) (edges_seam first c b cs ds)

module _ (p : Spot) where
  -- ---- begun at another corner
  start_count : (is : Edge → Spot → Bool) (cs ds : List Spot) → count_of is (edges_of (cs ++ ds)) p ≡ count_of is (edges_of (ds ++ cs)) p
  unfolding edges_of
  start_count is [] ds = ap (λ (bs : List Spot). count_of is (edges_of bs) p) (sym (append-nil ds))
  start_count is (a ∷ cs) [] = ap (λ (bs : List Spot). count_of is (edges_of bs) p) (append-nil (a ∷ cs))
  start_count is (a ∷ cs) (b ∷ ds) =
      rw (edges_seam a a b cs ds, edges_seam b b a ds cs) (count_exchanged is (edges_from b a cs) (edges_from a b ds) p)

  pub start_on : (cs ds : List Spot) → count_of on_edge (edges_of (cs ++ ds)) p ≡ count_of on_edge (edges_of (ds ++ cs)) p
  start_on = start_count on_edge

  pub start_tally : (cs ds : List Spot) → tally_of (edges_of (cs ++ ds)) p ≡ tally_of (edges_of (ds ++ cs)) p
  unfolding tally_of
  start_tally cs ds = tally_counts (edges_of (cs ++ ds)) p _ _ (start_count is_up cs ds) (start_count is_down cs ds)

  -- ---- backwards
  count_as : (is js : Edge → Spot → Bool) (es : List Edge) → ((e : Edge) → is e p ≡ js e p) → count_of is es p ≡ count_of js es p
  unfolding count_of
  count_as is js [] h = refl
  count_as is js (e ∷ es) h = ap₂ (λ (t : Bool) (n : ℕ). cond t 1 0 + n) (h e) (count_as is js es h)

  -- from b back to a, by corners between
  count_back : (is : Edge → Spot → Bool) (a b : Spot) (cs : List Spot)
      → count_of is (edges_from a b (reverse cs)) p ≡ count_of (λ e q. is (turned_round e) q) (edges_from b a cs) p
  unfolding edges_from count_of
  count_back is a b [] = refl
  count_back is a b (c ∷ cs) =
      ap (λ (ds : List Spot). count_of is (edges_from a b ds) p) (reverse-cons c cs)
      ∙ ap (λ (es : List Edge). count_of is es p) (edges_seam a b c (reverse cs) [])
      ∙ count_append is (edges_from c b (reverse cs)) (edge c a ∷ []) p
      ∙ last (count_of is (edges_from c b (reverse cs)) p) (count_of (λ e q. is (turned_round e) q) (edges_from b c cs) p) (count_back is c b cs)
    where
      last : (m n : ℕ) → m ≡ n → m + (cond (is (edge c a) p) 1 0 + 0) ≡ cond (is (edge c a) p) 1 0 + n
      last m n e = omega arith

  module _ (a b : Spot) (cs : List Spot) where
    pub way_on : count_of on_edge (edges_from a b (reverse cs)) p ≡ count_of on_edge (edges_from b a cs) p
    way_on = count_back on_edge a b cs ∙ count_as (λ e q. on_edge (turned_round e) q) on_edge (edges_from b a cs) (λ e. on_round e p)

    pub way_tally : tally_of (edges_from a b (reverse cs)) p ≡ opposite (tally_of (edges_from b a cs) p)
    unfolding tally_of
    way_tally =
        tally_counts (edges_from a b (reverse cs)) p _ _
        (count_back is_up a b cs ∙ count_as (λ e q. is_up (turned_round e) q) is_down (edges_from b a cs) (λ e. up_round e p))
        (count_back is_down a b cs ∙ count_as (λ e q. is_down (turned_round e) q) is_up (edges_from b a cs) (λ e. down_round e p))

  pub back_on : (cs : List Spot) → count_of on_edge (edges_of (reverse cs)) p ≡ count_of on_edge (edges_of cs) p
  unfolding edges_of
  back_on [] = refl
  back_on (a ∷ cs) =
      ap (λ (bs : List Spot). count_of on_edge (edges_of bs) p) (reverse-cons a cs) ∙ start_on (reverse cs) (a ∷ []) ∙ way_on a a cs

  pub back_tally : (cs : List Spot) → tally_of (edges_of (reverse cs)) p ≡ opposite (tally_of (edges_of cs) p)
  unfolding edges_of tally_of count_of
  back_tally [] = refl
  back_tally (a ∷ cs) =
      ap (λ (bs : List Spot). tally_of (edges_of bs) p) (reverse-cons a cs) ∙ start_tally (reverse cs) (a ∷ []) ∙ way_tally a a cs

  -- ---- the same place
  pub start_place : (cs ds : List Spot) → place_in (cs ++ ds) p ≡ place_in (ds ++ cs) p
  start_place cs ds = alike_place p (edges_of (cs ++ ds)) (edges_of (ds ++ cs)) (start_on cs ds) (ap off_border (start_tally cs ds))

  pub back_place : (cs : List Spot) → place_in (reverse cs) p ≡ place_in cs p
  back_place cs =
      alike_place p (edges_of (reverse cs)) (edges_of cs) (back_on cs) (ap off_border (back_tally cs) ∙ off_opposite (tally_of (edges_of cs) p))

  turned_place : (cs ds : List Spot) → Turned cs ds → place_in cs p ≡ place_in ds p
  turned_place cs ds t =
      let place : List Spot → ℕ = λ bs. place_in bs p in
      ap place t.one ∙ start_place t.front t.back ∙ sym (ap place t.other)

  -- every listing of one round of corners has the same place
  pub relisted_place : (cs ds : List Spot) → Relisted cs ds → place_in cs p ≡ place_in ds p
  relisted_place cs ds (inl t) = turned_place cs ds t
  relisted_place cs ds (inr t) = sym (back_place cs) ∙ turned_place (reverse cs) ds t

  -- ---- the total: the same, begun at another corner; backwards, turned round
  pub turned_total : (cs ds : List Spot) → Turned cs ds → total_in ds p ≡ total_in cs p
  turned_total cs ds t =
      let total : List Spot → ℤ = λ bs. total_in bs p in
      ap total t.other ∙ ap total_of (start_tally t.back t.front) ∙ sym (ap total t.one)

  pub back_total : (cs : List Spot) → total_in (reverse cs) p ≡ neg_ℤ (total_in cs p)
  back_total cs = ap total_of (back_tally cs) ∙ total_opposite (tally_of (edges_of cs) p)

  -- both: backwards, and begun at another corner
  pub turned_back_total : (cs ds : List Spot) → Turned (reverse cs) ds → total_in ds p ≡ neg_ℤ (total_in cs p)
  turned_back_total cs ds t = turned_total (reverse cs) ds t ∙ back_total cs

  pub relisted_total : (cs ds : List Spot) → Relisted cs ds → (total_in ds p ≡ total_in cs p) ⊎ (total_in ds p ≡ neg_ℤ (total_in cs p))
  relisted_total cs ds (inl t) = inl (turned_total cs ds t)
  relisted_total cs ds (inr t) = inr (turned_back_total cs ds t)

  -- odd or 0 in one listing, so in every other
  pub relisted_agreed : (cs ds : List Spot) → Relisted cs ds → Agreed (total_in cs p) → Agreed (total_in ds p)
  relisted_agreed cs ds r h = elim (relisted_total cs ds r) [
    | inl e ↦ subst Agreed (sym e) h
    | inr e ↦ subst Agreed (sym e) (agreed_turned (total_in cs p) h)
  ]

-- ---- other listings
pub relisted_itself : (cs : List Spot) → Relisted cs cs
relisted_itself cs = inl (record { front = []; back = cs; one = refl; other = sym (append-nil cs) })

pub relisted_back : (cs ds : List Spot) → Relisted cs ds → Relisted ds cs
relisted_back cs ds (inl t) = inl (record { front = t.back; back = t.front; one = t.other; other = t.one })
relisted_back cs ds (inr t) = inr (record {
  front = reverse t.front;
  back = reverse t.back;
  one = ap reverse t.other ∙ reverse-append t.back t.front;
  other = sym (reverse-reverse cs) ∙ ap reverse t.one ∙ reverse-append t.front t.back;
})
