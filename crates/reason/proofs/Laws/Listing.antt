-- All edges of a zone: the entries of those that count. In order: an entry behind the others; edge k of a flat list, in the entries and in the counts;
-- the entries as they are put, one edge after the other. Not here: one edge (`Crossing`). Assumes nothing.
use mathlib.Core.Path.{◌≡◌, refl, sym, ap, ap₂, ◌∙◌, subst}
use mathlib.Core.Bool.{Bool, true, false, cond}
use mathlib.Core.List.{List, [], ◌∷◌, ◌++◌, map, append_assoc, append-nil}
use Prim.Native.Nat.{ℕ, zero, suc, ◌+◌, ◌/◌, ◌≤◌, ◌<◌}
use native.Mathlib.Omega.{arith}
use lib.ListN.{length, take, drop, set, length-set, drop_of_length-le}
use lib.Dec.{T}
use lib.Ieee.{Float}
use Rattle.point.specs.declared.Point.{Point}
use Rattle.point.specs.Spot.{spot_of}
use Rattle.ground.specs.Edge.{Edge, edges_of, is_up, is_down}
use Rattle.ground.specs.Zone.{count_of}
use Rattle.ground.specs.Reason.{up, down, entry, added_if, list_from}
use Rattle.ground.proofs.Laws.Edges.{crossing_once}
use Rattle.geometry.specs.Zone.{most, corners_of, edge_at}
use Rattle.geometry.specs.Parts.{crossing_of}
use Rattle.geometry.specs.declared.answer.Crossing.{Crossing}
use Rattle.geometry.specs.declared.answer.Crossing.TheVariants.{None, Up, Down}
use Rattle.geometry.proofs.Laws.Edges.{edges_drop, edges_length}
use Rattle.reason.specs.Why.{code}
use Rattle.reason.specs.Parts.{edge_from, IsZone, EndsSays, with_edge, ListedSays}
use Rattle.reason.specs.declared.crossing.Ends.{Ends}
use Rattle.reason.specs.declared.listing.Listed.{Listed}

-- ---- an entry behind the others
put_behind : (xs : List ℕ) (m v : ℕ) → m < length xs → take (suc m) (set xs m v) ≡ take m xs ++ v ∷ []
put_behind [] m v h = let z : ⊥ = omega arith in absurd z
put_behind (x ∷ xs) zero v h = refl
put_behind (x ∷ xs) (suc m) v h = ap (λ (l : List ℕ). x ∷ l) (put_behind xs m v (omega arith))

-- one more stands, and those that follow are one less
stand_more : (xs : List ℕ) (m i v : ℕ) (rest : List ℕ) → i ≡ suc m → m < length xs → take i (set xs m v) ++ rest ≡ take m xs ++ v ∷ rest
stand_more xs m i v rest e h =
    ap (λ (j : ℕ). take j (set xs m v) ++ rest) e
    ∙ ap (λ (l : List ℕ). l ++ rest) (put_behind xs m v h)
    ∙ append_assoc (take m xs) (v ∷ []) rest

-- what an edge adds to a count
abbrev one : Bool → ℕ
one t = cond t 1 0

-- the edges of a flat list
abbrev row : List Float → List Edge
row xs = edges_of (corners_of xs)

-- the entries from edge k on, as bytes
abbrev codes : List Float → Point → ℕ → List ℕ
codes xs p k = map code (list_from k (drop k (row xs)) (spot_of p))

module _ (xs : List Float) (p : Point) where
  -- ---- the entries of the edges before k stand
  pub record Listing (k : ℕ) (l : Listed) : Type 0 where
    pub within : k ≤ length xs / 2
    pub few : l.ups + l.downs ≤ k
    pub ups : l.ups + count_of is_up (drop k (row xs)) (spot_of p) ≡ count_of is_up (row xs) (spot_of p)
    pub downs : l.downs + count_of is_down (drop k (row xs)) (spot_of p) ≡ count_of is_down (row xs) (spot_of p)
    pub stand : take (l.ups + l.downs) l.entries ++ codes xs p k ≡ codes xs p 0
    pub kept : length l.entries ≡ most

  pub listing_start : (entries : List ℕ) → length entries ≡ most → Listing 0 (record { ups = 0; downs = 0; entries = entries })
  listing_start entries h = record {
    within = omega arith;
    few = omega arith;
    ups = omega arith;
    downs = omega arith;
    stand = refl;
    kept = h;
  }

module _ (xs : List Float) (p : Point) (z : IsZone xs) where
  -- ---- edge k of the list
  count_at : (is : Edge → _ → Bool) (k : ℕ) → k < length xs / 2
      → count_of is (drop k (row xs)) (spot_of p) ≡ cond (is (edge_at xs k) (spot_of p)) 1 0 + count_of is (drop (k + 1) (row xs)) (spot_of p)
  unfolding count_of
  count_at is k h = ap (λ (l : List Edge). count_of is l (spot_of p)) (edges_drop xs (length xs / 2) k z.corners h)

  codes_at : (k : ℕ) → k < length xs / 2
      → codes xs p k ≡ map code (added_if (is_up (edge_at xs k) (spot_of p)) (entry k up)
      (added_if (is_down (edge_at xs k) (spot_of p)) (entry k down) (list_from (k + 1) (drop (k + 1) (row xs)) (spot_of p))))
  unfolding list_from
  codes_at k h = ap (λ (l : List Edge). map code (list_from k l (spot_of p))) (edges_drop xs (length xs / 2) k z.corners h)

  codes_by : (k : ℕ) → k < length xs / 2 → (u d : Bool) → is_up (edge_at xs k) (spot_of p) ≡ u → is_down (edge_at xs k) (spot_of p) ≡ d
      → codes xs p k ≡ map code (added_if u (entry k up) (added_if d (entry k down) (list_from (k + 1) (drop (k + 1) (row xs)) (spot_of p))))
  codes_by k h u d i j =
      codes_at k h
      ∙ ap₂ (λ (s t : Bool). map code (added_if s (entry k up) (added_if t (entry k down) (list_from (k + 1) (drop (k + 1) (row xs)) (spot_of p))))) i j

  module _ (k : ℕ) (c : Listed) (l : Listing xs p k c) (h : k < length xs / 2) where
    room : c.ups + c.downs < length c.entries
    room = omega (arith, l.few, l.kept, z.few)

    -- by how edge k counts
    turn : (u d : Bool) → is_up (edge_at xs k) (spot_of p) ≡ u → is_down (edge_at xs k) (spot_of p) ≡ d → (u ≡ true → d ≡ false)
        → Listing xs p (k + 1) (with_edge c k (cond u Up (cond d Down None)))
    turn true true i j once = absurd (subst T (once refl) tt)
    turn true false i j once = record {
      within = omega arith;
      few = omega (arith, l.few);
      ups = omega (arith, l.ups, count_at is_up k h, ap one i);
      downs = omega (arith, l.downs, count_at is_down k h, ap one j);
      stand = stand_more c.entries (c.ups + c.downs) (c.ups + 1 + c.downs) (code (entry k up)) (codes xs p (k + 1)) (omega arith) room
          ∙ ap (λ (t : List ℕ). take (c.ups + c.downs) c.entries ++ t) (sym (codes_by k h true false i j)) ∙ l.stand;
      kept = length-set c.entries (c.ups + c.downs) (code (entry k up)) ∙ l.kept;
    }
    turn false true i j once = record {
      within = omega arith;
      few = omega (arith, l.few);
      ups = omega (arith, l.ups, count_at is_up k h, ap one i);
      downs = omega (arith, l.downs, count_at is_down k h, ap one j);
      stand = stand_more c.entries (c.ups + c.downs) (c.ups + (c.downs + 1)) (code (entry k down)) (codes xs p (k + 1)) (omega arith) room
          ∙ ap (λ (t : List ℕ). take (c.ups + c.downs) c.entries ++ t) (sym (codes_by k h false true i j)) ∙ l.stand;
      kept = length-set c.entries (c.ups + c.downs) (code (entry k down)) ∙ l.kept;
    }
    turn false false i j once = record {
      within = omega arith;
      few = omega (arith, l.few);
      ups = omega (arith, l.ups, count_at is_up k h, ap one i);
      downs = omega (arith, l.downs, count_at is_down k h, ap one j);
      stand = ap (λ (t : List ℕ). take (c.ups + c.downs) c.entries ++ t) (sym (codes_by k h false false i j)) ∙ l.stand;
      kept = l.kept;
    }

    pub listing_turn : (e : Ends) → EndsSays xs k e → (x : Crossing) → x ≡ crossing_of (edge_from e.from e.to) (spot_of p)
        → Listing xs p (k + 1) (with_edge c k x)
    listing_turn e ends x is =
        subst (λ (y : Crossing). Listing xs p (k + 1) (with_edge c k y))
        (sym (is ∙ ap (λ (f : Edge). crossing_of f (spot_of p)) ends.edge))
        (turn (is_up (edge_at xs k) (spot_of p)) (is_down (edge_at xs k) (spot_of p)) refl refl (crossing_once (edge_at xs k) (spot_of p)))

  pub listing_done : (k : ℕ) (c : Listed) → Listing xs p k c → length xs / 2 ≤ k → ListedSays xs p c
  unfolding count_of list_from
  listing_done k c l h =
      let most : length (row xs) ≤ k = omega (arith, edges_length xs (length xs / 2) z.corners) in
      let over : drop k (row xs) ≡ [] = drop_of_length-le (row xs) most in
      let no_ups : count_of is_up (drop k (row xs)) (spot_of p) ≡ 0 = ap (λ (t : List Edge). count_of is_up t (spot_of p)) over in
      let no_downs : count_of is_down (drop k (row xs)) (spot_of p) ≡ 0 = ap (λ (t : List Edge). count_of is_down t (spot_of p)) over in
      let none : codes xs p k ≡ [] = ap (λ (t : List Edge). map code (list_from k t (spot_of p))) over in
      record {
        ups = omega (arith, l.ups);
        downs = omega (arith, l.downs);
        stand = sym (append-nil (take (c.ups + c.downs) c.entries))
            ∙ ap (λ (t : List ℕ). take (c.ups + c.downs) c.entries ++ t) (sym none) ∙ l.stand;
        kept = l.kept;
      }
