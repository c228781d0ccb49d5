-- The grain of a list: the greatest power of two that divides every entry. In order: the zeros at a number's end; the grain of a longer
-- list; it divides every entry, and no greater power does; the grain of one entry, as the code reckons it.
-- Not here: what a list weighs over its grain (`Ceiling`, `Descent`). Assumes nothing.
use mathlib.Core.Path.{◌≡◌, refl, sym, ap, ◌∙◌, subst}
use mathlib.Core.Bool.{Bool, true, false, cond}
use mathlib.Core.List.{List, [], ◌∷◌}
use Prim.Native.Nat.{ℕ, zero, suc, ◌+◌, ◌-◌, ◌*◌, ◌/◌, ◌%◌, ◌^◌, ◌≤◌, ◌<◌, ◌∣◌, min, zero-le, suc-le-suc}
use native.Mathlib.Nat.{le_refl, le_trans, le_of_eq, le_of_lt, lt_of_lt_of_le, lt_of_not-le, not-le_of_lt, le_of_suc-le-suc}
use native.Mathlib.Nat.{zero-mul, pow-suc, min-le_left, min-le_right, min-eq_right, le-min}
use native.Mathlib.Nat.{one-dvd, dvd_trans, dvd-mul_left, mul-dvd-mul_right, le_of_dvd}
use native.Mathlib.Nat.{dvd_of_mul-dvd-mul_right, mod-eq-zero_of_dvd}
use native.Mathlib.Omega.{arith}
use lib.Count.{count_trailing_zeros, under, trailing_of_zero}
use lib.Dec.{T, eqb, lit≤}
use lib.IntN.{pos, neg_ℤ, nat_abs}
use lib.ListN.{length, get_or}
use lib.Pow.{pow-add, pow_pos, pow_mono}
use lib.Ieee.{Float, nan, inf, fin, binary64}
use lib.Ieee.Scale.{finite}
use borrow.Author.Tests.{eqb-true}
use Rattle.double.specs.Worth.{mag}
use Rattle.refusal.specs.Outcome.{answers}
use Rattle.double.specs.Apart.{said, apart_of}
use Rattle.refusal.specs.declared.Refusal.{Refusal}
use Rattle.refusal.proofs.Laws.Outcome.{never}
use Rattle.double.specs.declared.answer.Parts.{Parts}
use Rattle.double.proofs.Laws.Digits.{dvd_lower}
use Rattle.double.proofs.Laws.Units.{Real, mag_lt}
use Rattle.double.proofs.Laws.Worth.{worth_nat_abs}
use Rattle.double.proofs.Laws.Apart.{Means}
use Rattle.sum.specs.Ceiling.{digits, grain_of}
use Rattle.sum.proofs.Laws.Entries.{All, AllReal, all_at}
use Rattle.std.specs.Prelude.{Err, Ok, Result, IsOk}

-- ---- zeros at a number's end
trailing_dvd : (k n : ℕ) → 2 ^ count_trailing_zeros k n ∣ n
unfolding count_trailing_zeros
trailing_dvd zero n = one-dvd n
trailing_dvd (suc k) n = go (n % 2) refl (trailing_dvd k (n / 2))
  where
    halved : (n : ℕ) → 0 ≡ n % 2 → n / 2 * 2 ≡ n
    halved n h = omega arith

    go : (d : ℕ) → d ≡ n % 2 → 2 ^ count_trailing_zeros k (n / 2) ∣ n / 2 → 2 ^ under d (count_trailing_zeros k (n / 2)) ∣ n
    go zero e h =
        let t = count_trailing_zeros k (n / 2) in
        subst (λ (x : ℕ). x ∣ n) (sym (pow-suc 2 t)) (subst (λ (x : ℕ). 2 ^ t * 2 ∣ x) (halved n e) (mul-dvd-mul_right (2 ^ t) h 2))
    go (suc d) e h = one-dvd n

-- no greater power divides it, as far as k digits are looked at
trailing_most : (k n j : ℕ) → j ≤ k → 2 ^ j ∣ n → j ≤ count_trailing_zeros k n
unfolding count_trailing_zeros
trailing_most zero n j h d = h
trailing_most (suc k) n zero h d = zero-le
trailing_most (suc k) n (suc j) h d =
    subst (λ (x : ℕ). suc j ≤ under x (count_trailing_zeros k (n / 2))) (sym even)
    (suc-le-suc (trailing_most k (n / 2) j (le_of_suc-le-suc h) half))
  where
    doubled : 2 ^ j * 2 ∣ n
    doubled = subst (λ (x : ℕ). x ∣ n) (pow-suc 2 j) d

    even : n % 2 ≡ 0
    even = mod-eq-zero_of_dvd 2 (dvd_trans 2 (dvd-mul_left 2 (2 ^ j)) doubled)

    halved : (n : ℕ) → n % 2 ≡ 0 → n ≡ n / 2 * 2
    halved n h = omega arith

    half : 2 ^ j ∣ n / 2
    half = dvd_of_mul-dvd-mul_right (2 ^ j) (pow_pos 1) (subst (λ (x : ℕ). 2 ^ j * 2 ∣ x) (halved n even) doubled)

-- a power that divides a number of m digits has fewer
power_below : (t m n : ℕ) → 0 < n → n < 2 ^ m → 2 ^ t ∣ n → t < m
power_below t m n N h d = lt_of_not-le (λ (g : m ≤ t). not-le_of_lt (lt_of_lt_of_le h (pow_mono g)) (le_of_dvd N d))

-- a power that divides 2 ^ e times as much
power_apart : (t e s : ℕ) → e ≤ t → 2 ^ t ∣ s * 2 ^ e → 2 ^ (t - e) ∣ s
power_apart t e s h d =
    dvd_of_mul-dvd-mul_right (2 ^ (t - e)) (pow_pos e)
    (subst (λ (x : ℕ). x ∣ s * 2 ^ e) (ap (λ (x : ℕ). 2 ^ x) (back t e h) ∙ pow-add 2 (t - e) e) d)
  where
    back : (t e : ℕ) → e ≤ t → t ≡ t - e + e
    back t e h = omega arith

-- 2 ^ e times as much has e zeros more. It does not matter how many digits beyond its own are looked at.
trailing_scaled : (m k l s e : ℕ) → 0 < s → s < 2 ^ m → m ≤ k → m + e ≤ l → count_trailing_zeros l (s * 2 ^ e) ≡ count_trailing_zeros k s + e
trailing_scaled m k l s e S h a b =
    let z = count_trailing_zeros k s in
    let t = count_trailing_zeros l (s * 2 ^ e) in
    let few : z < m = power_below z m s S h (trailing_dvd k s) in
    let least : e ≤ t = trailing_most l (s * 2 ^ e) e (omega arith) (dvd-mul_left (2 ^ e) s) in
    let rest : 2 ^ (t - e) ∣ s = power_apart t e s least (trailing_dvd l (s * 2 ^ e)) in
    let short : t - e < m = power_below (t - e) m s S h rest in
    let below : t - e ≤ z = trailing_most k s (t - e) (omega arith) rest in
    let joined : 2 ^ (z + e) ∣ s * 2 ^ e =
    subst (λ (x : ℕ). x ∣ s * 2 ^ e) (sym (pow-add 2 z e)) (mul-dvd-mul_right (2 ^ z) (trailing_dvd k s) (2 ^ e)) in
    let reached : z + e ≤ t = trailing_most l (s * 2 ^ e) (z + e) (omega arith) joined in
    omega arith

-- ---- the grain of a list
grain_most : (xs : List Float) → grain_of xs ≤ digits
unfolding grain_of
grain_most [] = le_refl digits
grain_most (x ∷ xs) = go (eqb (mag binary64 x) 0) (grain_most xs)
  where
    go : (b : Bool) → grain_of xs ≤ digits → cond b (grain_of xs) (min (count_trailing_zeros digits (mag binary64 x)) (grain_of xs)) ≤ digits
    go true h = h
    go false h = le_trans (min-le_right (count_trailing_zeros digits (mag binary64 x)) (grain_of xs)) h

-- a zero's grain is no less than any other
pub grain_cons : (x : Float) (xs : List Float) → grain_of (x ∷ xs) ≡ min (count_trailing_zeros digits (mag binary64 x)) (grain_of xs)
unfolding grain_of
grain_cons x xs = go (eqb (mag binary64 x) 0) refl
  where
    go : (b : Bool) → eqb (mag binary64 x) 0 ≡ b
        → cond b (grain_of xs) (min (count_trailing_zeros digits (mag binary64 x)) (grain_of xs))
        ≡ min (count_trailing_zeros digits (mag binary64 x)) (grain_of xs)
    go false e = refl
    go true e =
        sym (ap (λ (n : ℕ). min (count_trailing_zeros digits n) (grain_of xs)) (eqb-true (mag binary64 x) 0 e)
        ∙ ap (λ (n : ℕ). min n (grain_of xs)) (trailing_of_zero digits) ∙ min-eq_right (grain_most xs))

-- 2 ^ j units divide x
abbrev Divided : ℕ → Float → Type 0
Divided j x = 2 ^ j ∣ mag binary64 x

divided_lower : (j k : ℕ) → j ≤ k → (xs : List Float) → All (Divided k) xs → All (Divided j) xs
divided_lower j k h [] a = tt
divided_lower j k h (x ∷ xs) a = (dvd_lower h a.0, divided_lower j k h xs a.1)

-- the grain is the greatest power of two that divides all entries: it divides every entry ..
pub grain_divides : (xs : List Float) → All (λ x. 2 ^ grain_of xs ∣ mag binary64 x) xs
grain_divides [] = tt
grain_divides (x ∷ xs) =
    let t = count_trailing_zeros digits (mag binary64 x) in
    let g = grain_of xs in
    subst (λ (j : ℕ). All (Divided j) (x ∷ xs)) (sym (grain_cons x xs))
    (dvd_lower (min-le_left t g) (trailing_dvd digits (mag binary64 x)), divided_lower (min t g) g (min-le_right t g) xs (grain_divides xs))

grain_reaches : (xs : List Float) (j : ℕ) → j ≤ digits → All (Divided j) xs → j ≤ grain_of xs
unfolding grain_of
grain_reaches [] j h a = h
grain_reaches (x ∷ xs) j h a =
    le_trans (le-min (trailing_most digits (mag binary64 x) j h a.0) (grain_reaches xs j h a.1)) (le_of_eq (sym (grain_cons x xs)))

-- .. and where an entry is no zero, no greater power does
pub grain_greatest : (xs : List Float) (j : ℕ) → AllReal xs → All (λ x. 2 ^ j ∣ mag binary64 x) xs
    → (i : ℕ) → i < length xs → 0 < mag binary64 (get_or xs i nan) → j ≤ grain_of xs
grain_greatest xs j r a i h N =
    let x = get_or xs i nan in
    let small : mag binary64 x < 2 ^ digits = mag_lt binary64 x (all_at (Real binary64) xs i nan r h) in
    grain_reaches xs j (le_of_lt (power_below j digits (mag binary64 x) N small (all_at (Divided j) xs i nan a h))) a

-- ---- the grain of one entry, by its parts
-- a finite double has parts, and is not refused
pub parts_taken : (x : Float) (t : Result Parts Refusal) (p : Parts) → t ≡ Ok p → said t ≡ apart_of x → apart_of x ≡ answers p
unfolding said
parts_taken x t p e h = sym h ∙ ap said e

-- a finite double is not refused
pub parts_answered : (x : Float) (t : Result Parts Refusal) → T (finite x) → said t ≡ apart_of x → IsOk t
unfolding said apart_of
parts_answered x (Ok p) f h = refl
parts_answered nan (Err r) f h = absurd f
parts_answered (inf s) (Err r) f h = absurd f
parts_answered (fin s m k) (Err r) f h = never (cc)

pub parts_mag : (x : Float) (p : Parts) → Means x p → mag binary64 x ≡ p.significand * 2 ^ p.exponent
parts_mag x p m = sym (worth_nat_abs x) ∙ ap nat_abs m.worth_is ∙ either p.negative (p.significand * 2 ^ p.exponent)
  where
    either : (s : Bool) (n : ℕ) → nat_abs (cond s (neg_ℤ (pos n)) (pos n)) ≡ n
    either false n = refl
    either true zero = refl
    either true (suc n) = refl

module _ (x : Float) (p : Parts) (means : Means x p) where
  pub twos_zero : p.significand ≡ 0 → digits ≡ count_trailing_zeros digits (mag binary64 x)
  twos_zero e =
      sym (ap (count_trailing_zeros digits) (parts_mag x p means ∙ ap (λ (n : ℕ). n * 2 ^ p.exponent) e ∙ zero-mul (2 ^ p.exponent))
      ∙ trailing_of_zero digits)

  pub twos_other : (p.significand ≡ 0 → ⊥) → count_trailing_zeros 64 p.significand + p.exponent ≡ count_trailing_zeros digits (mag binary64 x)
  twos_other h =
      sym (ap (count_trailing_zeros digits) (parts_mag x p means)
      ∙ trailing_scaled 53 64 digits p.significand p.exponent some means.significand_range (lit≤ tt) room)
    where
      some : 0 < p.significand
      some = omega arith

      room : 53 + p.exponent ≤ digits
      room = omega (arith, means.exponent_range)

-- ---- where the first pass begins
pub grain_none : digits ≡ grain_of []
unfolding grain_of
grain_none = refl
