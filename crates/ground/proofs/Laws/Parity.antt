-- The rule by odd or even beside the rule in force. In order: the total is odd where an odd number of edges count, up and down together; so of one
-- tally the two rules say the same exactly where the total is odd or 0; so of a point exactly where it is on an edge, or its total is odd or 0;
-- and so where it is from -1 to 1, as it is where at most one edge counts upward and one downward: in every triangle.
-- Not here: strictly convex zones (`Convex`). Assumes nothing.
use mathlib.Core.Path.{◌≡◌, refl, sym, ap, ◌∙◌}
use mathlib.Core.Bool.{Bool, true, false, cond}
use mathlib.Core.List.{List, [], ◌∷◌}
use mathlib.Core.Logic.{◌⊎◌, inl, inr, ◌↔◌}
use Prim.Native.Nat.{ℕ, ◌+◌, ◌%◌, ◌≤◌}
use native.Mathlib.Omega.{arith}
use lib.Dec.{eqb}
use lib.IntN.{pos, negsuc, nat_abs}
use borrow.Author.Tests.{eqb-true, eqb-false}
use Rattle.whole.proofs.Laws.Parts.{up, dn, ≤_parts}
use Rattle.ground.specs.Plane.{Spot}
use Rattle.ground.specs.Edge.{Edge, edges_of}
use Rattle.ground.specs.Zone.{Tally, tally_of, total_of, outside, inside, place_number, off_border, place_of}
use Rattle.ground.specs.Parity.{by_parity, place_by_parity, Odd, Agreed, Small}
use Rattle.ground.specs.Listing.{total_in, Met}
use Rattle.ground.proofs.Laws.Odd.{distance, small_agreed}
use Rattle.ground.proofs.Laws.Rule.{total_parts, off_told, off_not_border}
use Rattle.ground.proofs.Laws.Tally.{walked, border_met}
use Rattle.ground.proofs.Laws.Sides.{triangle_tally}

-- ---- of one tally
total_odd : (t : Tally) → nat_abs (total_of t) % 2 ≡ (t.ups + t.downs) % 2
total_odd t = alike (up (total_of t)) (dn (total_of t)) t.ups t.downs (nat_abs (total_of t)) (distance (total_of t)) (total_parts t)
  where
    alike : (a b m n d : ℕ) → d ≡ a + b → a + n ≡ b + m → d % 2 ≡ (m + n) % 2
    alike a b m n d i e = omega arith

parity_told : (t : Tally) → (Odd (total_of t) × (by_parity t ≡ inside)) ⊎ ((Odd (total_of t) → ⊥) × (by_parity t ≡ outside))
unfolding by_parity
parity_told t = go (eqb ((t.ups + t.downs) % 2) 1) refl
  where
    go : (b : Bool) → eqb ((t.ups + t.downs) % 2) 1 ≡ b
        → (Odd (total_of t) × (cond b inside outside ≡ inside)) ⊎ ((Odd (total_of t) → ⊥) × (cond b inside outside ≡ outside))
    go true e = inl (total_odd t ∙ eqb-true ((t.ups + t.downs) % 2) 1 e, refl)
    go false e = inr (λ h. eqb-false ((t.ups + t.downs) % 2) 1 e (sym (total_odd t) ∙ h), refl)

-- both rules make the same of a tally exactly where its total is odd or 0
pub parity_agrees : (t : Tally) → (by_parity t ≡ off_border t) ↔ Agreed (total_of t)
parity_agrees t = elim (parity_told t) [
  | inl (odd, i) ↦ elim (off_told t) [
    | inl (z, o) ↦ let no : ⊥ = omega (arith, odd, ap nat_abs z) in absurd no
    | inr (z, j) ↦ (λ e. inl odd, λ h. i ∙ sym j)
  ]
  | inr (even, i) ↦ elim (off_told t) [
    | inl (z, o) ↦ (λ e. inr z, λ h. i ∙ sym o)
    | inr (z, j) ↦ (
      λ e. absurd (let no : ⊥ = omega (arith, ap place_number (sym i ∙ e ∙ j)) in no),
      λ h. elim h [ inl odd ↦ absurd (even odd) | inr e ↦ absurd (z e) ],
    )
  ]
]

-- ---- of one point
-- the place is the same by both rules exactly where some edge has the point, or the total is odd or 0
pub parity_place : (es : List Edge) (p : Spot)
    → (place_by_parity es p ≡ place_of es p) ↔ (Met es p ⊎ Agreed (total_of (tally_of es p)))
unfolding place_by_parity place_of
parity_place es p = elim (walked es p) [
  | inl (met, same) ↦ (λ e. inl met, λ h. same 0 (by_parity (tally_of es p)) (off_border (tally_of es p)))
  | inr off ↦ (
    λ e. inr ((parity_agrees (tally_of es p)).0 (sym (off 0 (by_parity (tally_of es p))) ∙ e ∙ off 0 (off_border (tally_of es p)))),
    λ h. elim h [
      | inl met ↦ absurd (off_not_border (tally_of es p) (sym (ap place_number (off 0 (off_border (tally_of es p)))) ∙ (border_met es p).1 met))
      | inr agree ↦ off 0 (by_parity (tally_of es p)) ∙ (parity_agrees (tally_of es p)).1 agree ∙ sym (off 0 (off_border (tally_of es p)))
    ],
  )
]

-- ---- totals from -1 to 1
-- the place is the same by both rules
pub small_place : (es : List Edge) (p : Spot) → Small (total_of (tally_of es p)) → place_by_parity es p ≡ place_of es p
small_place es p s = (parity_place es p).1 (inr (small_agreed (total_of (tally_of es p)) s))

-- at most one edge up and one down
pub few_small : (t : Tally) → t.ups ≤ 1 → t.downs ≤ 1 → Small (total_of t)
unfolding up dn
few_small t u d = (
  (≤_parts (negsuc 0) (total_of t)).1 (omega (arith, total_parts t)),
  (≤_parts (total_of t) (pos 1)).1 (omega (arith, total_parts t)),
)

-- ---- triangles, in any listing, and with corners on one line too
pub triangle_small : (a b c p : Spot) → Small (total_in (a ∷ b ∷ c ∷ []) p)
triangle_small a b c p = let t = triangle_tally a b c p in few_small (tally_of (edges_of (a ∷ b ∷ c ∷ [])) p) t.0 t.1

pub triangle_parity : (a b c p : Spot) → place_by_parity (edges_of (a ∷ b ∷ c ∷ [])) p ≡ place_of (edges_of (a ∷ b ∷ c ∷ [])) p
triangle_parity a b c p = small_place (edges_of (a ∷ b ∷ c ∷ [])) p (triangle_small a b c p)
