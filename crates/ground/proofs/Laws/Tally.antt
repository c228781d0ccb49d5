-- Lists of edges tallied, whatever is made of the tally. In order: counts and tallies of two lists one after the other, in either order; the
-- walk, which comes to an edge or to its end; the place by the number of edges that have the point, and the tally; on the border where some edge
-- of the list has the point, and only there.
-- Not here: the rule that makes a place of a tally (`Rule`); lists of corners (`Listing`). Assumes nothing.
use mathlib.Core.Path.{◌≡◌, refl, sym, ap, ap₂, ◌∙◌}
use mathlib.Core.Bool.{Bool, true, false, cond}
use mathlib.Core.List.{List, [], ◌∷◌, ◌++◌, Memᴰ}
use mathlib.Core.Logic.Iff
use mathlib.Core.Logic.{◌↔◌, ◌⊎◌, inl, inr, ⊎_elim}
use Prim.Native.Nat.{ℕ, zero, suc, ◌+◌, ◌<◌}
use native.Mathlib.Omega.{arith}
use lib.IntN.{pos}
use lib.ListN.{length}
use Rattle.ground.specs.Plane.{Spot}
use Rattle.ground.specs.Edge.{Edge, on_edge, is_up, is_down}
use Rattle.ground.specs.Zone.{count_of, tally_of, total_of, Lies, border, place_number, off_border, walk, place_of}
use Rattle.ground.specs.Listing.{turned_round, together, Met}
use Rattle.ground.proofs.Laws.Edges.{on_round}
use Rattle.ground.proofs.Laws.Rule.{off_not_border, number_inside}

-- ---- one list after the other
pub count_append : (is : Edge → Spot → Bool) (es fs : List Edge) (p : Spot) → count_of is (es ++ fs) p ≡ count_of is es p + count_of is fs p
unfolding count_of
count_append is [] fs p = omega arith
count_append is (e ∷ es) fs p = omega (arith, count_append is es fs p)

pub count_exchanged : (is : Edge → Spot → Bool) (es fs : List Edge) (p : Spot) → count_of is (es ++ fs) p ≡ count_of is (fs ++ es) p
count_exchanged is es fs p = omega (arith, count_append is es fs p, count_append is fs es p)

-- a tally by its two counts
pub tally_counts : (es : List Edge) (p : Spot) (u d : ℕ) → count_of is_up es p ≡ u → count_of is_down es p ≡ d
    → tally_of es p ≡ record { ups = u; downs = d }
unfolding tally_of
tally_counts es p u d i j = ap₂ (λ (u d : ℕ). record { ups = u; downs = d }) i j

module _ (es fs : List Edge) (p : Spot) where
  pub tally_append : tally_of (es ++ fs) p ≡ together (tally_of es p) (tally_of fs p)
  unfolding tally_of
  tally_append = tally_counts (es ++ fs) p _ _ (count_append is_up es fs p) (count_append is_down es fs p)

  pub tally_exchanged : tally_of (es ++ fs) p ≡ tally_of (fs ++ es) p
  unfolding tally_of
  tally_exchanged = tally_counts (es ++ fs) p _ _ (count_exchanged is_up es fs p) (count_exchanged is_down es fs p)

-- ---- the walk
-- some edge has the point, and the walk never comes to what is answered off the border; or none has it, and that is what it answers
abbrev Walked : List Edge → Spot → Type 0
Walked es p = (Met es p × ((k : ℕ) (l m : Lies) → walk k es p l ≡ walk k es p m)) ⊎ ((k : ℕ) (l : Lies) → walk k es p l ≡ l)

pub walked : (es : List Edge) (p : Spot) → Walked es p
unfolding walk
walked [] p = inr (λ k l. refl)
walked (e ∷ es) p = go (on_edge e p) refl (walked es p)
  where
    go : (t : Bool) → on_edge e p ≡ t → Walked es p → Walked (e ∷ es) p
    go true h w = inl (record { at = e; listed = Memᴰ.head refl; on = h }, λ k l m. rw h)
    go false h (inl (met, same)) =
        inl (record { at = met.at; listed = Memᴰ.tail met.listed; on = met.on }, λ k l m. rw h (same (k + 1) l m))
    go false h (inr off) = inr (λ k l. rw h (off (k + 1) l))

-- one list after the other
pub walk_append : (k : ℕ) (es fs : List Edge) (p : Spot) (l : Lies) → walk k (es ++ fs) p l ≡ walk k es p (walk (k + length es) fs p l)
unfolding walk
walk_append k [] fs p l = ap (λ (i : ℕ). walk i fs p l) (omega arith)
walk_append k (e ∷ es) fs p l =
    ap (cond (on_edge e p) (border k)) (walk_append (k + 1) es fs p l ∙ ap (λ (i : ℕ). walk (k + 1) es p (walk i fs p l)) (omega arith))

-- ---- the place's number
-- the border's if some edge has the point on it; otherwise as off the border
abbrev pub met_or : ℕ → ℕ → ℕ
met_or zero n = n
met_or (suc k) n = 1

walk_number : (k : ℕ) (es : List Edge) (p : Spot) (off : Lies)
    → place_number (walk k es p off) ≡ met_or (count_of on_edge es p) (place_number off)
unfolding walk count_of
walk_number k [] p off = refl
walk_number k (e ∷ es) p off = go (on_edge e p) (walk_number (k + 1) es p off)
  where
    go : (t : Bool) → place_number (walk (k + 1) es p off) ≡ met_or (count_of on_edge es p) (place_number off)
        → place_number (cond t (border k) (walk (k + 1) es p off)) ≡ met_or (cond t 1 0 + count_of on_edge es p) (place_number off)
    go true h =
        let s : 1 + count_of on_edge es p ≡ suc (count_of on_edge es p) = omega arith in
        sym (ap (λ (n : ℕ). met_or n (place_number off)) s)
    go false h =
        let s : 0 + count_of on_edge es p ≡ count_of on_edge es p = omega arith in
        h ∙ sym (ap (λ (n : ℕ). met_or n (place_number off)) s)

pub place_number_lem : (es : List Edge) (p : Spot)
    → place_number (place_of es p) ≡ met_or (count_of on_edge es p) (place_number (off_border (tally_of es p)))
unfolding place_of
place_number_lem es p = walk_number 0 es p (off_border (tally_of es p))

-- as many edges with the point on them, and the same of the tally: the same place
pub alike_place : (p : Spot) (es fs : List Edge) → count_of on_edge es p ≡ count_of on_edge fs p
    → off_border (tally_of es p) ≡ off_border (tally_of fs p) → place_number (place_of es p) ≡ place_number (place_of fs p)
alike_place p es fs on off =
    place_number_lem es p ∙ ap₂ (λ (n : ℕ) (l : Lies). met_or n (place_number l)) on off ∙ sym (place_number_lem fs p)

-- on no edge: as off the border
pub off_place : (es : List Edge) (p : Spot) → (place_number (place_of es p) ≡ 1 → ⊥)
    → place_number (place_of es p) ≡ place_number (off_border (tally_of es p))
off_place es p h =
    place_number_lem es p ∙ go (count_of on_edge es p) (place_number (off_border (tally_of es p))) (λ e. h (place_number_lem es p ∙ e))
  where
    go : (k n : ℕ) → (met_or k n ≡ 1 → ⊥) → met_or k n ≡ n
    go zero n h = refl
    go (suc k) n h = absurd (h refl)

-- inside: the total is not 0
pub inside_total : (es : List Edge) (p : Spot) → place_number (place_of es p) ≡ 2 → total_of (tally_of es p) ≡ pos 0 → ⊥
inside_total es p i = number_inside (tally_of es p) (sym (off_place es p (λ e. omega arith)) ∙ i)

-- ---- on the border
count_some : {e : Edge} {es : List Edge} (is : Edge → Spot → Bool) (p : Spot) → Memᴰ e es → is e p ≡ true
    → (k : ℕ) × (count_of is es p ≡ suc k)
unfolding count_of
count_some {e} is p (Memᴰ.head {x = f} {xs = fs} i) h =
    (count_of is fs p, ap (λ (t : Bool). cond t 1 0 + count_of is fs p) (ap (λ (g : Edge). is g p) (sym i) ∙ h) ∙ omega arith)
count_some is p (Memᴰ.tail {x = f} {xs = fs} m) h =
    let k = count_some is p m h in
    (cond (is f p) 1 0 + k.0, omega (arith, k.1))

met_some : (es : List Edge) (p : Spot) (k : ℕ) → count_of on_edge es p ≡ suc k → Met es p
unfolding count_of
met_some [] p k e = let z : ⊥ = omega arith in absurd z
met_some (f ∷ es) p k e = go (on_edge f p) refl (met_some es p)
  where
    go : (t : Bool) → on_edge f p ≡ t → ((k : ℕ) → count_of on_edge es p ≡ suc k → Met es p) → Met (f ∷ es) p
    go true h rest = record { at = f; listed = Memᴰ.head refl; on = h }
    go false h rest =
        let none : ◌≡◌ {A = ℕ} (cond (on_edge f p) 1 0) 0 = ap (λ (t : Bool). cond t 1 0) h in
        let m = rest k (omega arith) in
        record { at = m.at; listed = Memᴰ.tail m.listed; on = m.on }

pub border_count : (es : List Edge) (p : Spot) → (place_number (place_of es p) ≡ 1) ↔ (0 < count_of on_edge es p)
border_count es p = simp place_number_lem (go (count_of on_edge es p))
  where
    off : ℕ
    off = place_number (off_border (tally_of es p))

    go : (k : ℕ) → (met_or k off ≡ 1) ↔ (0 < k)
    go zero = ((λ e. absurd (off_not_border (tally_of es p) e)), (λ h. let z : ⊥ = omega arith in absurd z))
    go (suc k) = ((λ e. omega arith), (λ h. refl))

pub met_count : (es : List Edge) (p : Spot) → (0 < count_of on_edge es p) ↔ Met es p
met_count es p = (found (count_of on_edge es p) refl, λ m. let k = count_some on_edge p m.listed m.on in omega (arith, k.1))
  where
    found : (k : ℕ) → count_of on_edge es p ≡ k → 0 < k → Met es p
    found zero i h = let z : ⊥ = omega arith in absurd z
    found (suc k) i h = met_some es p k i

pub border_met : (es : List Edge) (p : Spot) → (place_number (place_of es p) ≡ 1) ↔ Met es p
border_met es p = Iff.trans (border_count es p) (met_count es p)

-- an edge of two lists, in the same direction or the other: a point on it is on the border of both
pub shared_border : (es fs : List Edge) (p : Spot) (e : Edge) → Memᴰ e es → Memᴰ e fs ⊎ Memᴰ (turned_round e) fs
    → on_edge e p ≡ true → (place_number (place_of es p) ≡ 1) × (place_number (place_of fs p) ≡ 1)
shared_border es fs p e i k h = (
  (border_met es p).1 (record { at = e; listed = i; on = h }),
  (border_met fs p).1
      (⊎_elim (λ m. record { at = e; listed = m; on = h }) (λ m. record { at = turned_round e; listed = m; on = on_round e p ∙ h }) k),
)
