-- One coordinate of a file. In order: a pattern that is no NaN's; a pattern judged; a number judged; what each refusal is; the promise. Not
-- here: that a coordinate is read back, and what one that was read tells (Laws.Taken). Assumes nothing.
use Rattle.std.proofs.Common.{◌≡◌, ℕ, ◌*◌, ◌%◌, ◌<◌, ◌≤◌, Bool, true, false, not, ◌||◌, T, eqb, List, sym, refl, ◌∙◌, subst, le-ltb, lt-ltb}
use lib.Ieee.{Float, nan, inf, fin, binary64, is_nan, nan_bits, of_bits, ones, hid, top}
use lib.Ieee.Bits.{nan_bits_above, nan_bits_is}
use Rattle.refusal.specs.Outcome.{answers, refuses, not_accepted, ends_early, not_shortest, Fixes}
use Rattle.point.specs.Accepted.{accepted_of, accepted_within}
use Rattle.number.specs.declared.answer.Number.{Number}
use Rattle.number.specs.Number.{number_of}
use Rattle.coordinate.specs.Difference.{restored_of}
use Rattle.coordinate.specs.Coordinate.{judged_of, coordinate_of, CoordinateSays}
use Rattle.refusal.proofs.Laws.Outcome.{outcome_once}
use Rattle.refusal.proofs.Laws.Judged.{also_answers, also_refuses, require_holds, require_fails, Each, each_answers, each_also, each_require}
use Rattle.number.proofs.Laws.Number.{number_each}

-- ---- patterns of NaNs
nan_refused : (x : Float) → is_nan x ≡ true → accepted_of x ≡ false
unfolding accepted_within is_nan
nan_refused nan e = refl
nan_refused (inf s) e = absurd (subst T (sym e) tt)
nan_refused (fin s m d) e = absurd (subst T (sym e) tt)

-- an accepted coordinate is a number
pub accepted_number : (x : Float) → accepted_of x ≡ true → T (not (is_nan x))
unfolding accepted_within is_nan
accepted_number nan e = absurd (subst T (sym e) tt)
accepted_number (inf s) e = tt
accepted_number (fin s m d) e = tt

pub pattern_number : (p : ℕ) → p % top binary64 ≤ ones binary64 * hid binary64 → T (not (nan_bits binary64 p))
pattern_number p h =
    subst (λ (t : Bool). T (not t)) (sym (nan_bits_above binary64 p ∙ le-ltb (ones binary64 * hid binary64) (p % top binary64) h)) tt

-- ---- a pattern judged
module _ (p start next : ℕ) where
  pub judged_accepted : accepted_of (of_bits binary64 p) ≡ true
      → answers (record { value = of_bits binary64 p; pattern = p; next = next }) ≡ judged_of p start next
  unfolding judged_of
  judged_accepted e = sym (require_holds _ _ _ e)

  pub judged_refused : accepted_of (of_bits binary64 p) ≡ false → refuses not_accepted start ≡ judged_of p start next
  unfolding judged_of
  judged_refused e = sym (require_fails _ _ _ e)

  pub judged_nan : ones binary64 * hid binary64 < p % top binary64 → refuses not_accepted start ≡ judged_of p start next
  judged_nan h =
      let above : nan_bits binary64 p ≡ true = nan_bits_above binary64 p ∙ lt-ltb (ones binary64 * hid binary64) (p % top binary64) h in
      judged_refused (nan_refused (of_bits binary64 p) (sym (nan_bits_is binary64 p) ∙ above))

-- what `judged` is proved by, at each of its exits
pub ruleset judging = (pattern_number, judged_accepted, judged_refused, judged_nan)

-- ---- a number judged
-- 6 or 7, then 3
abbrev pub is_coordinates : ℕ → Bool
is_coordinates n = eqb n ends_early || (eqb n not_shortest || eqb n not_accepted)

module _ (bytes : List ℕ) (start before : ℕ) where
  pub coordinate_judged : (n : Number) → answers n ≡ number_of bytes start
      → judged_of (restored_of n.value before) start n.next ≡ coordinate_of bytes start before
  unfolding coordinate_of
  coordinate_judged n e = sym (also_answers (λ (z : Number). judged_of (restored_of z.value before) start z.next) (sym e))

  pub coordinate_refused : (number place : ℕ) → refuses number place ≡ number_of bytes start
      → refuses number place ≡ coordinate_of bytes start before
  unfolding coordinate_of
  coordinate_refused number place e = sym (also_refuses (λ (z : Number). judged_of (restored_of z.value before) start z.next) (sym e))

  pub coordinate_each : (such : ℕ → ℕ → Type 0) → Each such (number_of bytes start) → such not_accepted start
      → Each such (coordinate_of bytes start before)
  unfolding coordinate_of judged_of
  coordinate_each such h bad = each_also such (number_of bytes start) _ h (λ n e.
      each_require such (accepted_of (of_bits binary64 (restored_of n.value before))) not_accepted start _ (λ _. bad) (λ _.
      each_answers such _))

  -- 6, 7 or 3, where the number begins
  pub coordinate_refusal : Each (λ number place. (is_coordinates number ≡ true) × (place ≡ start)) (coordinate_of bytes start before)
  coordinate_refusal =
      let such : ℕ → ℕ → Type 0 = λ number place. (is_coordinates number ≡ true) × (place ≡ start) in
      coordinate_each such (number_each such bytes start (λ _. (refl, refl)) (λ _. (refl, refl))) (refl, refl)

-- ---- the promise, which no two results satisfy
pub coordinate_at_fixed : (bytes : List ℕ) (start before : ℕ) → Fixes (CoordinateSays bytes start before)
coordinate_at_fixed bytes start before a b p q = outcome_once _ (λ c d e. e) a b (p ∙ sym q)
