-- The difference of two patterns. In order: the writer's two halves; the reader's two halves; reading back what is stored, and storing what
-- was read; the promise. Assumes nothing.
use Rattle.std.proofs.Common.{◌≡◌, ℕ, ◌+◌, ◌-◌, ◌*◌, ◌/◌, ◌%◌, ◌^◌, ◌<◌, ◌≤◌, Bool, true, false, eqb, ltb, ℤ, sym, refl, ap, ◌∙◌, arith, ltb-false, ltb-true, le-ltb, lt-ltb, eq-eqb, ne_eqb, eqb-true}
use borrow.Author.Tests.{eqb-false}
use Rattle.refusal.specs.Outcome.{Fixes}
use Rattle.coordinate.specs.Difference.{difference, signed, folded, stored_of, unsigned, restored_of, StoredSays}
use Rattle.refusal.proofs.Laws.Judged.{cond_yes, cond_no}

-- ---- stored
-- d is the wrapped difference: with the preceding pattern it wraps to the pattern
module _ (pattern before d : ℕ) (hp : pattern < 2 ^ 64) (hb : before < 2 ^ 64) (hd : d < 2 ^ 64) (e : (d + before) % 2 ^ 64 ≡ pattern) where
  is_difference : difference pattern before ≡ d
  is_difference = omega arith

  pub stored_up : d < 2 ^ 63 → 2 * d ≡ stored_of pattern before
  unfolding stored_of
  stored_up h = sym (ap (λ (z : ℕ). folded (signed z)) is_difference ∙ ap folded (cond_yes _ _ (lt-ltb _ _ h)))

  pub stored_down : 2 ^ 63 ≤ d → 2 * (2 ^ 64 - 1 - d) + 1 ≡ stored_of pattern before
  unfolding stored_of
  stored_down h = sym (ap (λ (z : ℕ). folded (signed z)) is_difference ∙ ap folded (cond_no _ _ (le-ltb _ _ h)))

-- ---- restored
module _ (number before : ℕ) where
  pub restored_even : number % 2 ≡ 0 → (number / 2 + before) % 2 ^ 64 ≡ restored_of number before
  unfolding restored_of
  restored_even h = sym (ap (λ (d : ℤ). (unsigned d + before) % 2 ^ 64) (cond_yes _ _ (eq-eqb _ _ h)))

  pub restored_odd : (number % 2 ≡ 0 → ⊥) → (2 ^ 64 - 1 - number / 2 + before) % 2 ^ 64 ≡ restored_of number before
  unfolding restored_of
  restored_odd h = sym (ap (λ (d : ℤ). (unsigned d + before) % 2 ^ 64) (cond_no _ _ (ne_eqb _ _ h)))

  pub restored_below : restored_of number before < 2 ^ 64
  unfolding restored_of
  restored_below = omega arith

-- ---- both ways
module _ (pattern before : ℕ) (hp : pattern < 2 ^ 64) (hb : before < 2 ^ 64) where
  halves : (t : Bool) → ltb (difference pattern before) (2 ^ 63) ≡ t
      → (restored_of (stored_of pattern before) before ≡ pattern) × (stored_of pattern before < 2 ^ 64)
  halves true h =
      let l = ltb-true _ _ h in
      let s = stored_up pattern before (difference pattern before) hp hb (omega arith) (omega arith) l in
      rw (← s) (sym (restored_even (2 * difference pattern before) before (omega arith)) ∙ omega arith, omega arith)
  halves false h =
      let l = ltb-false _ _ h in
      let s = stored_down pattern before (difference pattern before) hp hb (omega arith) (omega arith) l in
      rw (← s)
      (sym (restored_odd (2 * (2 ^ 64 - 1 - difference pattern before) + 1) before (omega arith)) ∙ omega arith, omega arith)

  -- what is stored is read back
  pub restored_stored : restored_of (stored_of pattern before) before ≡ pattern
  restored_stored = (halves _ refl).0

  pub stored_below : stored_of pattern before < 2 ^ 64
  stored_below = (halves _ refl).1

-- what is read is stored again
module _ (number before : ℕ) (hn : number < 2 ^ 64) (hb : before < 2 ^ 64) where
  parity : (t : Bool) → eqb (number % 2) 0 ≡ t → stored_of (restored_of number before) before ≡ number
  parity true h =
      let e : number % 2 ≡ 0 = eqb-true _ _ h in
      let r = restored_even number before e in
      rw (← r) (sym (stored_up ((number / 2 + before) % 2 ^ 64) before (number / 2) (omega arith) hb (omega arith) refl (omega arith))
      ∙ omega arith)
  parity false h =
      let o : number % 2 ≡ 0 → ⊥ = eqb-false _ _ h in
      let r = restored_odd number before o in
      let d = 2 ^ 64 - 1 - number / 2 in
      rw (← r) (sym (stored_down ((d + before) % 2 ^ 64) before d (omega arith) hb (omega arith) refl (omega arith)) ∙ omega arith)

  pub stored_restored : stored_of (restored_of number before) before ≡ number
  stored_restored = parity _ refl

-- ---- the promise of what is stored, which no two results satisfy
pub stored_fixed : (pattern before : ℕ) → Fixes (StoredSays pattern before)
stored_fixed pattern before a b p q = p ∙ sym q
