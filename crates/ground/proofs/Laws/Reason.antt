-- Why a point has its place. In order: an edge is listed if and only if it counts, with that turn; the numbers rise; how many entries there are; their
-- total is the zone's; a reason has the zone's place; what it says that a point is a corner of an edge. Assumes nothing.
use mathlib.Core.Path.{◌≡◌, refl, sym, ap, ap₂, ◌∙◌, subst}
use mathlib.Core.Bool.{Bool, true, false, cond, ◌&&◌, ◌||◌}
use mathlib.Core.List.Memᴰ
use mathlib.Core.List.{List, [], ◌∷◌, Memᴰ}
use mathlib.Core.Logic.{◌⊎◌, inl, inr, ◌↔◌, ⊎_elim}
use Prim.Native.Nat.{ℕ, zero, suc, ◌+◌, ◌≤◌, ◌<◌}
use native.Mathlib.Nat.{le_refl}
use native.Mathlib.Omega.{arith}
use lib.Dec.{T}
use lib.IntN.{ℤ, ◌+ℤ◌, +ℤ_idl}
use lib.ListN.{length}
use Rattle.ground.specs.Compare.{equal}
use Rattle.ground.specs.Plane.{Spot}
use Rattle.ground.specs.Edge.{Edge, is_up, is_down}
use Rattle.ground.specs.Zone.{Tally, count_of, tally_of, total_of, Lies, outside, border, inside, place_of}
use Rattle.ground.specs.Reason.{Turn, up, down, counts, Entry, entry, added_if, list_from, RiseFrom, total_listed, same_spot, is_corner, on_border, edge_of, reason_at, reason_of, place_said}
use Rattle.ground.proofs.Laws.Compare.{equal_says}
use Rattle.ground.proofs.Laws.Edges.{crossing_once}
use Rattle.ground.proofs.Laws.Rule.{total_together}

-- ---- an edge is listed if and only if it counts
added : (t : Bool) (x y : Entry) (ys : List Entry) → Memᴰ x (added_if t y ys) ↔ (((t ≡ true) × (x ≡ y)) ⊎ Memᴰ x ys)
added true x y ys = (λ m. ⊎_elim (λ e. inl (refl, e)) (λ d. inr d) (Memᴰ.cases_cons m), λ s. ⊎_elim (λ h. Memᴰ.head h.1) (λ d. Memᴰ.tail d) s)
added false x y ys = (λ m. inr m, λ s. ⊎_elim (λ h. absurd (subst T (sym h.0) tt)) (λ d. d) s)

-- of edges that are numbered from k on, the one that is numbered n counts with turn t
pub record CountsFrom (k : ℕ) (es : List Edge) (p : Spot) (n : ℕ) (t : Turn) : Type 0 where
  pub after : ℕ
  pub number : n ≡ k + after
  pub within : after < length es
  pub counted : counts t (edge_of es after p) p ≡ true

entry_number : (k n : ℕ) (s t : Turn) → entry n t ≡ entry k s → n ≡ k
entry_number k n s t e = ap (λ (x : Entry). x.edge) e

entry_turn : (k n : ℕ) (s t : Turn) → entry n t ≡ entry k s → t ≡ s
entry_turn k n s t e = ap (λ (x : Entry). x.turn) e

-- one edge more in front
module _ (k : ℕ) (e : Edge) (es : List Edge) (p : Spot) (n : ℕ) (t : Turn) where
  here : (s : Turn) → counts s e p ≡ true → entry n t ≡ entry k s → CountsFrom k (e ∷ es) p n t
  here s h i = record {
    after = 0;
    number = omega (arith, entry_number k n s t i);
    within = omega arith;
    counted = subst (λ (u : Turn). counts u e p ≡ true) (sym (entry_turn k n s t i)) h;
  }

  later : CountsFrom (k + 1) es p n t → CountsFrom k (e ∷ es) p n t
  later c = record {
    after = suc c.after;
    number = omega (arith, c.number);
    within = omega (arith, c.within);
    counted = c.counted;
  }

  found : (Memᴰ (entry n t) (list_from (k + 1) es p) → CountsFrom (k + 1) es p n t)
      → Memᴰ (entry n t) (list_from k (e ∷ es) p) → CountsFrom k (e ∷ es) p n t
  unfolding list_from
  found next m =
      ⊎_elim (λ h. here up h.0 h.1) (λ d. ⊎_elim (λ h. here down h.0 h.1) (λ r. later (next r)) ((added _ _ _ _).0 d)) ((added _ _ _ _).0 m)

  rest : List Entry
  rest = list_from (k + 1) es p

  downs : List Entry
  downs = added_if (is_down e p) (entry k down) (list_from (k + 1) es p)

  front : n ≡ k → (s : Turn) → t ≡ s → counts s e p ≡ true → Memᴰ (entry n t) (list_from k (e ∷ es) p)
  unfolding list_from rest downs
  front h up u c = (added (is_up e p) (entry n t) (entry k up) downs).1 (inl (c, ap₂ entry h u))
  front h down u c =
      (added (is_up e p) (entry n t) (entry k up) downs).1
      (inr ((added (is_down e p) (entry n t) (entry k down) rest).1 (inl (c, ap₂ entry h u))))

  behind : Memᴰ (entry n t) (list_from (k + 1) es p) → Memᴰ (entry n t) (list_from k (e ∷ es) p)
  unfolding list_from rest downs
  behind m =
      (added (is_up e p) (entry n t) (entry k up) downs).1 (inr ((added (is_down e p) (entry n t) (entry k down) rest).1 (inr m)))

  listed : (CountsFrom (k + 1) es p n t → Memᴰ (entry n t) (list_from (k + 1) es p))
      → CountsFrom k (e ∷ es) p n t → Memᴰ (entry n t) (list_from k (e ∷ es) p)
  listed next c = go c.after c.number c.within c.counted
    where
      go : (i : ℕ) → n ≡ k + i → i < suc (length es) → counts t (edge_of (e ∷ es) i p) p ≡ true
          → Memᴰ (entry n t) (list_from k (e ∷ es) p)
      go zero h l b = front (omega arith) t refl b
      go (suc i) h l b = behind (next (record { after = i; number = omega arith; within = omega arith; counted = b }))

pub listed_from : (k : ℕ) (es : List Edge) (p : Spot) (n : ℕ) (t : Turn) → Memᴰ (entry n t) (list_from k es p) ↔ CountsFrom k es p n t
unfolding list_from
listed_from k [] p n t = (λ m. absurd (Memᴰ.not-nil m), λ c. let z : ⊥ = omega (arith, c.within) in absurd z)
listed_from k (e ∷ es) p n t =
    let next = listed_from (k + 1) es p n t in
    (found k e es p n t next.0, listed k e es p n t next.1)

-- in a zone, by the number of the edge
pub listed_counts : (es : List Edge) (p : Spot) (n : ℕ) (t : Turn)
    → Memᴰ (entry n t) (list_from 0 es p) ↔ ((n < length es) × (counts t (edge_of es n p) p ≡ true))
listed_counts es p n t = (
  λ m. let c = (listed_from 0 es p n t).0 m in
      let same : c.after ≡ n = omega (arith, c.number) in
      (omega (arith, c.within), subst (λ (i : ℕ). counts t (edge_of es i p) p ≡ true) same c.counted),
  λ (l, c). (listed_from 0 es p n t).1 (record { after = n; number = omega arith; within = l; counted = c }),
)

-- ---- the numbers rise
rise_weaker : (j k : ℕ) (xs : List Entry) → j ≤ k → RiseFrom k xs → RiseFrom j xs
rise_weaker j k [] h r = tt
rise_weaker j k (x ∷ xs) h r = (omega (arith, r.0), r.1)

pub listed_rise : (k : ℕ) (es : List Edge) (p : Spot) → RiseFrom k (list_from k es p)
unfolding list_from
listed_rise k [] p = tt
listed_rise k (e ∷ es) p = go (is_up e p) (is_down e p) (crossing_once e p) (list_from (k + 1) es p) (listed_rise (k + 1) es p)
  where
    go : (u d : Bool) → (u ≡ true → d ≡ false) → (xs : List Entry) → RiseFrom (k + 1) xs
        → RiseFrom k (added_if u (entry k up) (added_if d (entry k down) xs))
    go true true once xs r = absurd (subst T (once refl) tt)
    go true false once xs r = (le_refl k, rise_weaker (suc k) (k + 1) xs (omega arith) r)
    go false true once xs r = (le_refl k, rise_weaker (suc k) (k + 1) xs (omega arith) r)
    go false false once xs r = rise_weaker k (k + 1) xs (omega arith) r

-- ---- how many entries: one for each edge that counts upward, and one for each that counts downward
pub listed_many : (k : ℕ) (es : List Edge) (p : Spot) → length (list_from k es p) ≡ count_of is_up es p + count_of is_down es p
unfolding list_from count_of
listed_many k [] p = refl
listed_many k (e ∷ es) p = go (is_up e p) (is_down e p) (list_from (k + 1) es p) (listed_many (k + 1) es p)
  where
    go : (u d : Bool) (xs : List Entry) → length xs ≡ count_of is_up es p + count_of is_down es p
        → length (added_if u (entry k up) (added_if d (entry k down) xs)) ≡ (cond u 1 0 + count_of is_up es p) + (cond d 1 0 + count_of is_down es p)
    go true true xs h = omega arith
    go true false xs h = omega arith
    go false true xs h = omega arith
    go false false xs h = omega arith

-- no more than there are edges
pub listed_few : (k : ℕ) (es : List Edge) (p : Spot) → length (list_from k es p) ≤ length es
unfolding list_from
listed_few k [] p = le_refl 0
listed_few k (e ∷ es) p = go (is_up e p) (is_down e p) (crossing_once e p) (list_from (k + 1) es p) (listed_few (k + 1) es p)
  where
    go : (u d : Bool) → (u ≡ true → d ≡ false) → (xs : List Entry) → length xs ≤ length es
        → length (added_if u (entry k up) (added_if d (entry k down) xs)) ≤ suc (length es)
    go true true once xs h = absurd (subst T (once refl) tt)
    go true false once xs h = omega arith
    go false true once xs h = omega arith
    go false false once xs h = omega arith

-- ---- the total of the entries is the zone's
abbrev one : Bool → Bool → Tally
one u d = record { ups = cond u 1 0; downs = cond d 1 0 }

total_added : (k : ℕ) (u d : Bool) (xs : List Entry) → (u ≡ true → d ≡ false)
    → total_listed (added_if u (entry k up) (added_if d (entry k down) xs)) ≡ total_of (one u d) +ℤ total_listed xs
unfolding total_listed total_of
total_added k true true xs once = absurd (subst T (once refl) tt)
total_added k true false xs once = refl
total_added k false true xs once = refl
total_added k false false xs once = sym (+ℤ_idl (total_listed xs))

pub listed_total : (k : ℕ) (es : List Edge) (p : Spot) → total_listed (list_from k es p) ≡ total_of (tally_of es p)
unfolding list_from tally_of count_of total_listed total_of
listed_total k [] p = refl
listed_total k (e ∷ es) p =
    total_added k (is_up e p) (is_down e p) (list_from (k + 1) es p) (crossing_once e p)
    ∙ ap (λ (z : ℤ). total_of (one (is_up e p) (is_down e p)) +ℤ z) (listed_total (k + 1) es p)
    ∙ sym (total_together (one (is_up e p) (is_down e p)) (tally_of es p))

-- ---- a reason has the zone's place
pub reason_place : (es : List Edge) (p : Spot) → place_said (reason_of es p) ≡ place_of es p
unfolding reason_of
reason_place es p = go (place_of es p)
  where
    go : (l : Lies) → place_said (reason_at l es p) ≡ l
    go outside = refl
    go (border k) = refl
    go inside = refl

-- ---- a corner of an edge is equal in value to one of its ends
same_says : (a b : Spot) → (same_spot a b ≡ true) ↔ (a ≡ b)
same_says a b = (
  λ h. let (i, j) = both_true (equal a.x b.x) (equal a.y b.y) h in
      ap₂ spot ((equal_says a.x b.x).0 i) ((equal_says a.y b.y).0 j),
  λ e. rw ((equal_says a.x b.x).1 (ap (λ (s : Spot). s.x) e), (equal_says a.y b.y).1 (ap (λ (s : Spot). s.y) e)),
)
  where
    spot : ℤ → ℤ → Spot
    spot x y = record { x = x; y = y }

    both_true : (s t : Bool) → (s && t) ≡ true → (s ≡ true) × (t ≡ true)
    both_true true t e = (refl, e)
    both_true false t e = absurd (subst T (sym e) tt)

pub corner_says : (e : Edge) (p : Spot) → (is_corner e p ≡ true) ↔ ((e.from ≡ p) ⊎ (e.to ≡ p))
unfolding is_corner
corner_says e p = (
  λ h. found (same_spot e.from p) (same_spot e.to p) refl refl h,
  λ s. ⊎_elim (λ i. ap (λ (t : Bool). t || same_spot e.to p) ((same_says e.from p).1 i)) (λ i. last (same_spot e.from p) ((same_says e.to p).1 i)) s,
)
  where
    found : (s t : Bool) → same_spot e.from p ≡ s → same_spot e.to p ≡ t → (s || t) ≡ true → (e.from ≡ p) ⊎ (e.to ≡ p)
    found true t i j h = inl ((same_says e.from p).0 i)
    found false true i j h = inr ((same_says e.to p).0 j)
    found false false i j h = absurd (subst T (sym h) tt)

    last : (s : Bool) → same_spot e.to p ≡ true → (s || same_spot e.to p) ≡ true
    last true i = refl
    last false i = i

-- and of a reason on the border: it is judged of the edge that is answered
pub reason_corner : (es : List Edge) (p : Spot) (k : ℕ) (corner : Bool) → reason_of es p ≡ on_border k corner → corner ≡ is_corner (edge_of es k p) p
unfolding reason_of
reason_corner es p k corner e = go (place_of es p) e
  where
    go : (l : Lies) → reason_at l es p ≡ on_border k corner → corner ≡ is_corner (edge_of es k p) p
    go outside e = absurd (let z : ◌≡◌ {A = ℕ} 0 1 = cc in omega arith)
    go inside e = absurd (let z : ◌≡◌ {A = ℕ} 0 1 = cc in omega arith)
    go (border j) e =
        let same : j ≡ k = cc in
        let judged : corner ≡ is_corner (edge_of es j p) p = cc in
        judged ∙ ap (λ (i : ℕ). is_corner (edge_of es i p) p) same
