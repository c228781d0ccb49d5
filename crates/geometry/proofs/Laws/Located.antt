-- Where a point lies: off every edge of a zone, or on a first one. Not here: what is answered off the border (`Calls`). Assumes nothing.
use mathlib.Core.Path.{◌≡◌, refl, sym, ◌∙◌, subst}
use mathlib.Core.Bool.{Bool, true, false}
use mathlib.Core.List.{List}
use mathlib.Core.Logic.{◌⊎◌, inl, inr}
use Prim.Native.Nat.{ℕ, zero, suc, ◌+◌, ◌*◌, ◌/◌, ◌≤◌, ◌<◌, zero-le}
use native.Mathlib.Nat.{zero-add, eq-or-lt_of_le}
use native.Mathlib.Omega.{arith}
use lib.ListN.{length}
use lib.Ieee.{Float}
use Rattle.ground.specs.Edge.{edges_of, on_edge}
use Rattle.ground.specs.Zone.{border}
use Rattle.point.specs.declared.Point.{Point}
use Rattle.point.specs.Spot.{spot_of}
use Rattle.geometry.specs.Zone.{corners_of, place_in, edge_at}
use Rattle.geometry.specs.Reasons.{FirstOn, OffBorder}
use Rattle.geometry.proofs.Laws.Zone.{off_of, walk_from, walk_start, walk_here, walk_later, walk_end}

-- ---- the border: the walk from edge j on, of m edges
module _ (xs : List Float) (p : Point) (size : length xs ≡ 2 * (length xs / 2)) where
  abbrev n : ℕ
  n = length xs / 2

  -- the edges from j on do not have the point, or k is the first that does
  abbrev Passes : ℕ → Type 0
  Passes j = (walk_from xs p j ≡ off_of (edges_of (corners_of xs)) (spot_of p)) × ((i : ℕ) → j ≤ i → i < n → on_edge (edge_at xs i) (spot_of p) ≡ false)

  abbrev Meets : ℕ → ℕ → Type 0
  Meets j k =
      (walk_from xs p j ≡ border k) × (k < n) × (on_edge (edge_at xs k) (spot_of p) ≡ true) × ((i : ℕ) → j ≤ i → i < k → on_edge (edge_at xs i) (spot_of p) ≡ false)

  walked : (m j : ℕ) → j + m ≡ n → Passes j ⊎ ((k : ℕ) × Meets j k)
  walked zero j e = inl (walk_end xs n p size j (omega arith), λ i h l. let z : ⊥ = omega arith in absurd z)
  walked (suc m) j e = go (on_edge (edge_at xs j) (spot_of p)) refl (walked m (j + 1) (omega arith))
    where
      inside : j < n
      inside = omega arith

      also : (b : Bool) → on_edge (edge_at xs j) (spot_of p) ≡ b → (k : ℕ) → ((i : ℕ) → j + 1 ≤ i → i < k → on_edge (edge_at xs i) (spot_of p) ≡ b)
          → (i : ℕ) → j ≤ i → i < k → on_edge (edge_at xs i) (spot_of p) ≡ b
      also b t k f i h l = elim (eq-or-lt_of_le h) [
        | inl e ↦ subst (λ (i : ℕ). on_edge (edge_at xs i) (spot_of p) ≡ b) e t
        | inr g ↦ f i (omega arith) l
      ]

      go : (b : Bool) → on_edge (edge_at xs j) (spot_of p) ≡ b → Passes (j + 1) ⊎ ((k : ℕ) × Meets (j + 1) k) → Passes j ⊎ ((k : ℕ) × Meets j k)
      go true t w = inr (j, (walk_here xs n p size j inside t, inside, t, λ i h l. let z : ⊥ = omega arith in absurd z))
      go false t (inl (off, none)) = inl (walk_later xs n p size j inside t ∙ off, also false t n none)
      go false t (inr (k, (on, l, h, before))) = inr (k, (walk_later xs n p size j inside t ∙ on, l, h, also false t k before))

  -- off every edge, or on a first one
  pub located : (OffBorder xs p × (place_in xs p ≡ off_of (edges_of (corners_of xs)) (spot_of p)))
      ⊎ ((k : ℕ) × FirstOn xs p k × (place_in xs p ≡ border k))
  located = elim (walked n 0 (zero-add n)) [
    | inl (off, none) ↦ inl (λ k l. none k zero-le l, sym (walk_start xs p) ∙ off)
    | inr (k, (on, l, h, before)) ↦
        inr (k, record { inside = l; on = h; before = λ i g. before i zero-le g }, sym (walk_start xs p) ∙ on)
  ]
