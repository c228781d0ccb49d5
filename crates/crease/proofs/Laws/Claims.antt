-- Claims by the places of a release alone. In order: what the zones below one claim, with one zone more; the claim of all zones holds, and no other
-- does. Not here: which of the four it is in another order (`Words`). Assumes nothing.
use mathlib.Core.Path.{◌≡◌, refl, sym, ap, ap₂, ◌∙◌, subst}
use mathlib.Core.List.{List, [], ◌∷◌}
use mathlib.Core.Logic.{inl, inr}
use Prim.Native.Nat.{ℕ, suc, ◌+◌, ◌≤◌, ◌<◌}
use native.Mathlib.Nat.{zero-add, add-zero, eq-or-lt_of_le, le_antisymm}
use native.Mathlib.Omega.{arith}
use lib.ListN.{length, get_or, get_or-eq_default}
use Rattle.whole.proofs.Laws.Order.{lt_or_le}
use Rattle.ground.specs.Zone.{Lies, outside, border, inside, place_number}
use Rattle.crease.specs.Claim.{On, Off, Holds}
use Rattle.crease.specs.Parts.{with_zone, claim_from}
use Rattle.crease.specs.declared.answer.Pair.{Pair}
use Rattle.crease.specs.declared.answer.Claim.{Claim}
use Rattle.crease.specs.declared.answer.Claim.TheVariants.{Border, None, Alone, Shared}

-- ---- the zones below n, by the numbers of their places
-- what holds below n, and of n, holds below n + 1
with_one : (n : ℕ) (P : ℕ → Type 0) → ((i : ℕ) → i < n → P i) → P n → (i : ℕ) → i < n + 1 → P i
with_one n P h last i l = elim (eq-or-lt_of_le l) [
  | inl e ↦ let same : n ≡ i = omega arith in subst P same last
  | inr k ↦ h i (omega arith)
]

abbrev Before : ℕ → Claim → (ℕ → ℕ) → Type 0
Before n (Border k) at = (k < n) × (at k ≡ 1) × ((i : ℕ) → i < k → ¬ (at i ≡ 1))
Before n None at = (i : ℕ) → i < n → (¬ (at i ≡ 1)) × (¬ (at i ≡ 2))
Before n (Alone k) at = (k < n) × (at k ≡ 2) × ((i : ℕ) → i < n → (¬ (at i ≡ 1)) × (at i ≡ 2 → i ≡ k))
Before n (Shared both) at =
    (both.second < n) × (at both.first ≡ 2) × (at both.second ≡ 2) × (both.first < both.second)
    × ((i : ℕ) → i < n → ¬ (at i ≡ 1)) × ((i : ℕ) → i < both.second → at i ≡ 2 → i ≡ both.first)

module _ (at : ℕ → ℕ) (n : ℕ) where
  one_more : (claim : Claim) (place : Lies) → at n ≡ place_number place → Before n claim at → Before (n + 1) (with_zone claim n place) at
  one_more (Border k) outside e (l, on, first) = (omega arith, on, first)
  one_more (Border k) (border edge) e (l, on, first) = (omega arith, on, first)
  one_more (Border k) inside e (l, on, first) = (omega arith, on, first)
  one_more None outside e h = with_one n _ h (λ f. omega arith, λ f. omega arith)
  one_more None (border edge) e h = (omega arith, e, λ i l. (h i l).0)
  one_more None inside e h =
      (omega arith, e, with_one n _ (λ i l. ((h i l).0, λ f. absurd ((h i l).1 f))) (λ f. omega arith, λ f. refl))
  one_more (Alone k) outside e (l, has, only) =
      (omega arith, has, with_one n _ only (λ f. omega arith, λ f. let z : ⊥ = omega arith in absurd z))
  one_more (Alone k) (border edge) e (l, has, only) = (omega arith, e, λ i l. (only i l).0)
  one_more (Alone k) inside e (l, has, only) =
      (omega arith, has, e, l, with_one n _ (λ i l. (only i l).0) (λ f. omega arith), λ i l f. (only i l).1 f)
  one_more (Shared both) outside e (l, one, two, less, off, only) =
      (omega arith, one, two, less, with_one n _ off (λ f. omega arith), only)
  one_more (Shared both) (border edge) e (l, one, two, less, off, only) = (omega arith, e, off)
  one_more (Shared both) inside e (l, one, two, less, off, only) =
      (omega arith, one, two, less, with_one n _ off (λ f. omega arith), only)

all_zones : (at : ℕ → ℕ) (places : List Lies) (n : ℕ) (claim : Claim)
    → ((i : ℕ) → i < length places → at (n + i) ≡ place_number (get_or places i outside))
    → Before n claim at → Before (n + length places) (claim_from n claim places) at
all_zones at [] n claim same h = subst (λ (m : ℕ). Before m claim at) (sym (add-zero n)) h
all_zones at (place ∷ places) n claim same h =
    let here : at n ≡ place_number place = ap at (sym (add-zero n)) ∙ same 0 (omega arith) in
    let size : n + 1 + length places ≡ n + length (place ∷ places) = omega arith in
    subst (λ (m : ℕ). Before m (claim_from (n + 1) (with_zone claim n place) places) at) size
    (all_zones at places (n + 1) (with_zone claim n place)
    (λ i l. let next : n + 1 + i ≡ n + suc i = omega arith in ap at next ∙ same (suc i) (omega arith))
    (one_more at n claim place here h))

-- ---- the claim of all zones holds
-- beyond the last zone stands `outside`
pub within : (places : List Lies) (i m : ℕ) → place_number (get_or places i outside) ≡ m → 0 < m → i < length places
within places i m e some = elim (lt_or_le i (length places)) [
  | inl l ↦ l
  | inr l ↦ let z : ⊥ = omega (arith, ap place_number (get_or-eq_default places outside l)) in absurd z
]

module _ (places : List Lies) where
  abbrev at : ℕ → ℕ
  at i = place_number (get_or places i outside)

  -- no zone beyond the last is on a border
  off_all : ((i : ℕ) → i < length places → ¬ (at i ≡ 1)) → Off places
  off_all off i e = off i (within places i 1 e (omega arith)) e

  whole : (claim : Claim) → Before (length places) claim at → Holds claim places
  whole (Border k) (l, on, first) = (on, first)
  whole None h = (off_all (λ i l. (h i l).0), λ i e. (h i (within places i 2 e (omega arith))).1 e)
  whole (Alone k) (l, has, only) = (off_all (λ i l. (only i l).0), has, λ i e. (only i (within places i 2 e (omega arith))).1 e)
  whole (Shared both) (l, one, two, less, off, only) = (off_all off, one, two, less, λ i e l. only i l e)

  pub claim_holds : Holds (claim_from 0 None places) places
  claim_holds =
      whole (claim_from 0 None places)
      (subst (λ (n : ℕ). Before n (claim_from 0 None places) at) (zero-add (length places))
      (all_zones at places 0 None (λ i l. ap at (zero-add i)) (λ i l. let z : ⊥ = omega arith in absurd z)))

  -- ---- and no other
  pair_once : (a b : Pair) → a.first ≡ b.first → a.second ≡ b.second → a ≡ b
  pair_once a b e f = let of : ℕ → ℕ → Pair = λ i j. record { first = i; second = j } in ap₂ of e f

  -- the first border is no later than another
  border_least : (j k : ℕ) → Holds (Border j) places → On places k → j ≤ k
  border_least j k (on, first) f = elim (lt_or_le k j) [ inl l ↦ absurd (first k l f) | inr l ↦ l ]

  -- of two pairs, the second zone of the one is no later than that of the other
  second_least : (a b : Pair) → Holds (Shared a) places → Holds (Shared b) places → a.second ≤ b.second
  second_least a b (_, _, _, _, only) (_, one, two, less, _) = elim (lt_or_le b.second a.second) [
    | inl l ↦ let z : ⊥ = omega (arith, only b.second two l, only b.first one (omega arith)) in absurd z
    | inr l ↦ l
  ]

  alone_shared : (k : ℕ) (both : Pair) → Holds (Alone k) places → Holds (Shared both) places → ⊥
  alone_shared k both (_, _, only) (_, one, two, less, _) = omega (arith, only both.first one, only both.second two)

  pub holds_once : (a b : Claim) → Holds a places → Holds b places → a ≡ b
  holds_once (Border j) (Border k) h g = ap Border (le_antisymm (border_least j k h g.0) (border_least k j g h.0))
  holds_once (Border j) None h g = absurd (g.0 j h.0)
  holds_once (Border j) (Alone k) h g = absurd (g.0 j h.0)
  holds_once (Border j) (Shared b) h g = absurd (g.0 j h.0)
  holds_once None (Border k) h g = absurd (h.0 k g.0)
  holds_once None None h g = refl
  holds_once None (Alone k) h g = absurd (h.1 k g.1)
  holds_once None (Shared b) h g = absurd (h.1 b.first g.1)
  holds_once (Alone j) (Border k) h g = absurd (h.0 k g.0)
  holds_once (Alone j) None h g = absurd (g.1 j h.1)
  holds_once (Alone j) (Alone k) h g = ap Alone (g.2 j h.1)
  holds_once (Alone j) (Shared b) h g = absurd (alone_shared j b h g)
  holds_once (Shared a) (Border k) h g = absurd (h.0 k g.0)
  holds_once (Shared a) None h g = absurd (g.1 a.first h.1)
  holds_once (Shared a) (Alone k) h g = absurd (alone_shared k a g h)
  holds_once (Shared a) (Shared b) h g =
      let second = le_antisymm (second_least a b h g) (second_least b a g h) in
      let (_, one, _, less, _) = h in
      let (_, _, _, _, only) = g in
      ap Shared (pair_once a b (only a.first one (omega arith)) second)
