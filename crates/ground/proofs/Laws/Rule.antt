-- What is made of a tally off the border: its total, ups less downs, is 0 or not. In order: the total of an opposite tally, of two tallies in
-- one, and when it is 0; outside where it is 0 and inside where it is not, as a place and as its number; the same for the opposite tally; two
-- tallies whose totals add up to a third's. But for computed examples only this file goes by the text of the rule.
-- Not here: how edges are tallied (`Tally`); the rule by odd or even (`Parity`). Assumes nothing.
use mathlib.Core.Path.{◌≡◌, refl, sym, ap, ap₂, ◌∙◌, subst}
use mathlib.Core.Bool.{Bool, cond}
use mathlib.Core.List.{[], ◌∷◌}
use mathlib.Core.Logic.{◌⊎◌, inl, inr, ◌↔◌}
use Prim.Native.Nat.{ℕ, zero, suc, ◌+◌}
use native.Mathlib.Omega.{arith}
use lib.IntN.{ℤ, pos, negsuc, neg_ℤ, nat_abs, ◌+ℤ◌, ◌-ℤ◌}
use Rattle.whole.proofs.Laws.Parts.{up, dn, difference_parts, ≡_parts}
use Rattle.whole.proofs.Laws.Linear.{ints, int_rules}
use Rattle.ground.specs.Compare.{is_zero}
use Rattle.ground.specs.Zone.{Tally, total_of, outside, border, inside, place_number, off_border}
use Rattle.ground.specs.Parity.{Odd, Agreed}
use Rattle.ground.specs.Listing.{together, opposite}
use Rattle.ground.proofs.Laws.Compare.{negated_zero}
use Rattle.ground.proofs.Laws.Odd.{odd_sum}

-- ---- totals
-- listed backwards: turned round
pub total_opposite : (t : Tally) → total_of (opposite t) ≡ neg_ℤ (total_of t)
unfolding total_of
total_opposite t = other_way (pos t.ups) (pos t.downs)
  where
    other_way : (u d : ℤ) → d -ℤ u ≡ neg_ℤ (u -ℤ d)
    other_way u d = ints (u ∷ d ∷ []) (λ ρ v n m. simp (int_rules, v 0, v 1) (omega arith))

-- two lists of edges in one: added
pub total_together : (s t : Tally) → total_of (together s t) ≡ total_of s +ℤ total_of t
unfolding total_of
total_together s t = in_turn (pos s.ups) (pos t.ups) (pos s.downs) (pos t.downs)
  where
    in_turn : (u v d e : ℤ) → (u +ℤ v) -ℤ (d +ℤ e) ≡ (u -ℤ d) +ℤ (v -ℤ e)
    in_turn u v d e = ints (u ∷ v ∷ d ∷ e ∷ []) (λ ρ v n m. simp (int_rules, v 0, v 1, v 2, v 3) (omega arith))

pub total_parts : (t : Tally) → up (total_of t) + t.downs ≡ dn (total_of t) + t.ups
unfolding total_of
total_parts t = difference_parts t.ups t.downs

-- as many ups as downs
pub total_zero : (t : Tally) → (total_of t ≡ pos 0) ↔ (t.ups ≡ t.downs)
unfolding up dn
total_zero t = (
  λ e. omega (arith, total_parts t, ap up e, ap dn e),
  λ e. (≡_parts (total_of t) (pos 0)).1 (omega (arith, total_parts t)),
)

-- ---- the place
-- outside where the total is 0, and inside where it is not
pub off_told : (t : Tally) → ((total_of t ≡ pos 0) × (off_border t ≡ outside)) ⊎ ((total_of t ≡ pos 0 → ⊥) × (off_border t ≡ inside))
unfolding off_border
off_told t = go (total_of t)
  where
    go : (z : ℤ) → ((z ≡ pos 0) × (cond (is_zero z) outside inside ≡ outside)) ⊎ ((z ≡ pos 0 → ⊥) × (cond (is_zero z) outside inside ≡ inside))
    go (pos zero) = inl (refl, refl)
    go (pos (suc n)) = inr (λ e. omega (arith, ap nat_abs e), refl)
    go (negsuc n) = inr (λ e. omega (arith, ap nat_abs e), refl)

module _ (t : Tally) where
  pub off_outside : (off_border t ≡ outside) ↔ (total_of t ≡ pos 0)
  off_outside = elim (off_told t) [
    | inl (z, o) ↦ (λ e. z, λ e. o)
    | inr (z, i) ↦ (λ e. absurd (let no : ⊥ = omega (arith, ap place_number (sym i ∙ e)) in no), λ e. absurd (z e))
  ]

  pub off_inside : (off_border t ≡ inside) ↔ (total_of t ≡ pos 0 → ⊥)
  off_inside = elim (off_told t) [
    | inl (z, o) ↦ (λ e. absurd (let no : ⊥ = omega (arith, ap place_number (sym o ∙ e)) in no), λ h. absurd (h z))
    | inr (z, i) ↦ (λ e. z, λ h. i)
  ]

  pub off_border_lem : (k : ℕ) → off_border t ≡ border k → ⊥
  off_border_lem k e = elim (off_told t) [
    | inl (z, o) ↦ omega (arith, ap place_number (sym o ∙ e))
    | inr (z, i) ↦ omega (arith, ap place_number (sym i ∙ e))
  ]

  -- by the two counts
  pub off_equal : t.ups ≡ t.downs → off_border t ≡ outside
  off_equal e = off_outside.1 ((total_zero t).1 e)

  pub off_unequal : (t.ups ≡ t.downs → ⊥) → off_border t ≡ inside
  off_unequal h = off_inside.1 (λ e. h ((total_zero t).0 e))

  -- by its number: 0 outside, 2 inside
  pub off_number : ((total_of t ≡ pos 0) × (place_number (off_border t) ≡ 0)) ⊎ ((total_of t ≡ pos 0 → ⊥) × (place_number (off_border t) ≡ 2))
  off_number = elim (off_told t) [ inl (z, o) ↦ inl (z, ap place_number o) | inr (z, i) ↦ inr (z, ap place_number i) ]

  pub off_not_border : place_number (off_border t) ≡ 1 → ⊥
  off_not_border e = elim off_number [ inl (z, o) ↦ omega arith | inr (z, i) ↦ omega arith ]

  pub number_inside : place_number (off_border t) ≡ 2 → total_of t ≡ pos 0 → ⊥
  number_inside e = elim off_number [ inl (z, o) ↦ absurd (let no : ⊥ = omega arith in no) | inr (z, i) ↦ z ]

  pub number_outside : place_number (off_border t) ≡ 0 → total_of t ≡ pos 0
  number_outside e = elim off_number [ inl (z, o) ↦ z | inr (z, i) ↦ absurd (let no : ⊥ = omega arith in no) ]

-- listed backwards: the same place
pub off_opposite : (t : Tally) → off_border (opposite t) ≡ off_border t
unfolding off_border
off_opposite t =
    ap (λ (z : ℤ). cond (is_zero z) outside inside) (total_opposite t)
    ∙ ap (λ (b : Bool). cond b outside inside) (negated_zero (total_of t))

-- ---- two tallies whose totals add up to a third's
module _ (s t u : Tally) (sum : total_of s +ℤ total_of t ≡ total_of u) where
  zero_both : total_of s ≡ pos 0 → total_of t ≡ pos 0 → total_of u ≡ pos 0
  zero_both e f = sym sum ∙ ap₂ (λ (y z : ℤ). y +ℤ z) e f

  -- inside by the third: inside by one of the two, or by both
  pub off_joined_inside : place_number (off_border u) ≡ 2 → (place_number (off_border s) ≡ 2) ⊎ (place_number (off_border t) ≡ 2)
  off_joined_inside i = elim (off_number s) [
    | inr (h, e) ↦ inl e
    | inl (h, e) ↦ elim (off_number t) [
      | inr (k, f) ↦ inr f
      | inl (k, f) ↦ absurd (number_inside u i (zero_both h k))
    ]
  ]

  -- outside by the third: inside by both of the two, or by neither
  pub off_joined_outside : place_number (off_border u) ≡ 0
      → ((place_number (off_border s) ≡ 2) × (place_number (off_border t) ≡ 2))
      ⊎ ((place_number (off_border s) ≡ 0) × (place_number (off_border t) ≡ 0))
  off_joined_outside o = elim (off_number s) [
    | inl (h, e) ↦ elim (off_number t) [
      | inl (k, f) ↦ inr (e, f)
      | inr (k, f) ↦ absurd (k (other (total_of s) (total_of t) (sum ∙ number_outside u o) h))
    ]
    | inr (h, e) ↦ elim (off_number t) [
      | inl (k, f) ↦ absurd (h (one (total_of s) (total_of t) (sum ∙ number_outside u o) k))
      | inr (k, f) ↦ inl (e, f)
    ]
  ]
    where
      other : (y z : ℤ) → y +ℤ z ≡ pos 0 → y ≡ pos 0 → z ≡ pos 0
      other y z = ints (y ∷ z ∷ []) (λ ρ v n m. simp (int_rules, n, v 0, v 1) (omega arith))

      one : (y z : ℤ) → y +ℤ z ≡ pos 0 → z ≡ pos 0 → y ≡ pos 0
      one y z = ints (y ∷ z ∷ []) (λ ρ v n m. simp (int_rules, n, v 0, v 1) (omega arith))

  -- all three totals odd or 0: inside by the third is inside by one of the two, and not by the other
  pub off_joined_once : Agreed (total_of s) → Agreed (total_of t) → Agreed (total_of u) → place_number (off_border u) ≡ 2
      → ((place_number (off_border s) ≡ 2) × (place_number (off_border t) ≡ 0))
      ⊎ ((place_number (off_border s) ≡ 0) × (place_number (off_border t) ≡ 2))
  off_joined_once a b c i = elim (off_number s) [
    | inl (h, e) ↦ elim (off_number t) [
      | inl (k, f) ↦ absurd (number_inside u i (zero_both h k))
      | inr (k, f) ↦ inr (e, f)
    ]
    | inr (h, e) ↦ elim (off_number t) [
      | inl (k, f) ↦ inl (e, f)
      | inr (k, f) ↦
          absurd (odd_sum (total_of s) (total_of t) (odd a h) (odd b k) (subst Odd (sym sum) (odd c (number_inside u i))))
    ]
  ]
    where
      odd : {z : ℤ} → Agreed z → (z ≡ pos 0 → ⊥) → Odd z
      odd (inl o) h = o
      odd (inr e) h = absurd (h e)
