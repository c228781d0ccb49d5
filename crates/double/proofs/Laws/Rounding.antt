-- A whole number rounded to p binary digits, ties to even: `rn p n`. In order: it is one of n's two neighbours, and the nearer one;
-- what has p digits stays; powers of two that divide n divide it; it has p digits, and none that has is nearer; order; errors;
-- 2 ^ t times as much. Not here: floats. Assumes nothing.
use mathlib.Core.Path.{◌≡◌, refl, sym, ap, ◌∙◌, subst}
use mathlib.Core.Logic.{◌⊎◌, inl, inr}
use mathlib.Core.Bool.{Bool, true, false, not}
use Prim.Native.Nat.{ℕ, zero, suc, ◌+◌, ◌-◌, ◌*◌, ◌/◌, ◌%◌, ◌^◌, ◌≤◌, ◌<◌, ◌∣◌, zero-le}
use Prim.Native.Nat.{compare, Ordering}
use native.Mathlib.Nat.{le_trans, le_of_eq, le_of_lt, lt_of_lt_of_le, eq-or-lt_of_le, zero-lt-suc, zero-mul, suc-mul}
use native.Mathlib.Nat.{mul_comm, mul_assoc, mul-le-mul_right, eq_of_mul-eq-mul_right, pow-succ', div-add-mod', mod-lt, div-mul_cancel}
use native.Mathlib.Nat.{dvd-zero, dvd-mul_left}
use native.Mathlib.Omega.{arith}
use lib.Dec.{T, is_le, compare_is_eq, leb, leb→le, nleb→lt, eqb→eq}
use lib.Pow.{pow-add, pow_pos, pow_mono}
use lib.Ieee.{size, nearest}
use lib.Ieee.Digits.{size-lt, size_reaches}
use lib.Ieee.Nearest.{closest, closest_same}
use Rattle.double.proofs.Laws.Digits.{cut, ulp, Rep, gap, pow_dvd, dvd_lower, multiple_above, size_scale}
use Rattle.double.proofs.Laws.Digits.{cut_enough, cut_full}
use Rattle.double.proofs.Laws.Digits.{rep_of, rep_small, rep_pow, rep_below, rep_above, rep_scale}

unfoldable pub rn : ℕ → ℕ → ℕ
rn p n = closest n (ulp p n) * ulp p n

-- ---- `closest`, by its two cases: the quotient, or the next number where the remainder is half the divisor or more
abbrev Cases : ℕ → ℕ → ℕ → Type 0
Cases n u c = ((c ≡ n / u) × (n % u * 2 ≤ u)) ⊎ ((c ≡ suc (n / u)) × (u ≤ n % u * 2))

tie : (q : ℕ) → (q + q % 2 ≡ q) ⊎ (q + q % 2 ≡ suc q)
tie q = go (q % 2) refl (mod-lt q (zero-lt-suc 1))
  where
    go : (r : ℕ) → q % 2 ≡ r → q % 2 < 2 → (q + q % 2 ≡ q) ⊎ (q + q % 2 ≡ suc q)
    go zero e l = inl (omega arith)
    go (suc r) e l = inr (omega arith)

closest_cases : (n u : ℕ) → Cases n u (closest n u)
closest_cases n u =
    go (compare (n % u * 2) u) (leb→le (n % u * 2) u) (nleb→lt (n % u * 2) u) (eqb→eq (n % u * 2) u)
  where
    go : (o : Ordering) → (T (is_le o) → n % u * 2 ≤ u) → (T (not (is_le o)) → u < n % u * 2) → (T (compare_is_eq o) → n % u * 2 ≡ u)
        → Cases n u (nearest (n / u) o)
    go Ordering.lt a b c = inl (refl, a tt)
    go Ordering.eq a b c = elim (tie (n / u)) [ inl e ↦ inl (e, a tt) | inr e ↦ inr (e, le_of_eq (sym (c tt))) ]
    go Ordering.gt a b c = inr (refl, le_of_lt (b tt))

-- ---- one of the two neighbours of n, the nearer one
-- lo is the last multiple of the step u at or below n, lo + u the next, and x the rounded n
record Rounds (n u lo x : ℕ) : Type 0 where
  under : lo ≤ n
  over : n < lo + u
  side : ((x ≡ lo) × ((n - lo) * 2 ≤ u)) ⊎ ((x ≡ lo + u) × (u ≤ (n - lo) * 2))

rn_rounds : (p n : ℕ) → Rounds n (ulp p n) (n / ulp p n * ulp p n) (rn p n)
unfolding rn
rn_rounds p n =
    let u = ulp p n in
    let q = n / u in
    let s : q * u + n % u ≡ n = div-add-mod' n u in
    let l : n % u < u = mod-lt n (pow_pos (cut p n)) in
    record {
      under = omega arith;
      over = omega arith;
      side = elim (closest_cases n u) [
        | inl c ↦ inl (ap (λ (x : ℕ). x * u) c.0, low_half q u n s c.1)
        | inr c ↦ inr (ap (λ (x : ℕ). x * u) c.0 ∙ suc-mul q u, high_half q u n s c.1)
      ];
    }
  where
    low_half : (q u n : ℕ) → q * u + n % u ≡ n → n % u * 2 ≤ u → (n - q * u) * 2 ≤ u
    low_half q u n s h = omega arith

    high_half : (q u n : ℕ) → q * u + n % u ≡ n → u ≤ n % u * 2 → u ≤ (n - q * u) * 2
    high_half q u n s h = omega arith

-- the error is at most half a last place
pub rn_half : (p n : ℕ) → gap (rn p n) n * 2 ≤ ulp p n
rn_half p n = go (rn_rounds p n)
  where
    go : {u lo x : ℕ} → Rounds n u lo x → gap x n * 2 ≤ u
    go r = elim r.side [
      | inl c ↦ omega (arith, r.under, r.over, c.0, c.1)
      | inr c ↦ omega (arith, r.under, r.over, c.0, c.1)
    ]

-- ---- what stays, and what divides
pub rn_dvd_ulp : (p n : ℕ) → ulp p n ∣ rn p n
unfolding rn
rn_dvd_ulp p n = dvd-mul_left (ulp p n) (closest n (ulp p n))

-- what has p digits stays
pub rn_kept : (p : ℕ) {n : ℕ} → Rep p n → rn p n ≡ n
rn_kept p {n} r = go (rn_rounds p n) (div-mul_cancel (ulp p n) r) (pow_pos (cut p n))
  where
    go : {u lo x : ℕ} → Rounds n u lo x → lo ≡ n → 0 < u → x ≡ n
    go r e U = elim r.side [ inl c ↦ omega (arith, c.0) | inr c ↦ omega (arith, r.under, c.1) ]

pub rn_zero : (p : ℕ) → rn p 0 ≡ 0
rn_zero p = rn_kept p (dvd-zero (ulp p 0))

-- any 2 ^ j that divides n divides the rounded n
pub rn_dvd : (p j : ℕ) {n : ℕ} → 2 ^ j ∣ n → 2 ^ j ∣ rn p n
rn_dvd p j {n} d = go (leb j (cut p n)) (leb→le j (cut p n)) (nleb→lt j (cut p n))
  where
    go : (b : Bool) → (T b → j ≤ cut p n) → (T (not b) → cut p n < j) → 2 ^ j ∣ rn p n
    go true a b = dvd_lower (a tt) (rn_dvd_ulp p n)
    go false a b = subst (λ (x : ℕ). 2 ^ j ∣ x) (sym (rn_kept p (dvd_lower (le_of_lt (b tt)) d))) d

-- ---- it has p digits, and of the numbers of p digits none is nearer to n
pub rn_near : (p n c : ℕ) → 0 < p → Rep p c → gap (rn p n) n ≤ gap c n
rn_near p n c P r = go (rn_rounds p n) (rep_below p n c P r) (rep_above p n c r) (leb c n) (leb→le c n) (nleb→lt c n)
  where
    go : {u lo x : ℕ} → Rounds n u lo x → (c ≤ n → c ≤ lo) → (n < c → lo + u ≤ c)
        → (b : Bool) → (T b → c ≤ n) → (T (not b) → n < c) → gap x n ≤ gap c n
    go s f g true a b = let h = f (a tt) in elim s.side [
      | inl d ↦ omega (arith, s.under, s.over, d.0, d.1)
      | inr d ↦ omega (arith, s.under, s.over, d.0, d.1)
    ]
    go s f g false a b = let h = g (b tt) in elim s.side [
      | inl d ↦ omega (arith, s.under, s.over, d.0, d.1)
      | inr d ↦ omega (arith, s.under, s.over, d.0, d.1)
    ]

pub rn_rep : (p n : ℕ) → 0 < p → Rep p (rn p n)
rn_rep p n P = rep_of p (cut p n) (rn p n) P (rn_dvd_ulp p n) (go (rn_rounds p n) next)
  where
    wide : (p k : ℕ) → k ≤ p + k
    wide p k = omega arith

    next : n / ulp p n * ulp p n + ulp p n ≤ 2 ^ (p + cut p n)
    next = multiple_above (ulp p n) n (2 ^ (p + cut p n)) (pow_pos (cut p n)) (pow_dvd (wide p (cut p n))) (cut_enough p n)

    go : {u lo x y : ℕ} → Rounds n u lo x → lo + u ≤ y → x ≤ y
    go s h = elim s.side [ inl d ↦ omega (arith, d.0) | inr d ↦ omega (arith, d.0) ]

-- ---- order: rounding keeps n's side of a number that has p digits
pub rn_le : (p n c : ℕ) → 0 < p → Rep p c → n ≤ c → rn p n ≤ c
rn_le p n c P r h = elim (eq-or-lt_of_le h) [
  | inl e ↦ le_of_eq (rn_kept p (subst (λ (x : ℕ). Rep p x) (sym e) r) ∙ e)
  | inr l ↦ go (rn_rounds p n) (rep_above p n c r l)
]
  where
    go : {u lo x : ℕ} → Rounds n u lo x → lo + u ≤ c → x ≤ c
    go s h = elim s.side [ inl d ↦ omega (arith, d.0) | inr d ↦ omega (arith, d.0) ]

pub rn_ge : (p n c : ℕ) → 0 < p → Rep p c → c ≤ n → c ≤ rn p n
rn_ge p n c P r h = go (rn_rounds p n) (rep_below p n c P r h)
  where
    go : {u lo x : ℕ} → Rounds n u lo x → c ≤ lo → c ≤ x
    go s h = elim s.side [ inl d ↦ omega (arith, d.0) | inr d ↦ omega (arith, d.0) ]

-- only 0 is rounded to 0
pub rn_zero_only : (p n : ℕ) → 0 < p → rn p n ≡ 0 → n ≡ 0
rn_zero_only p zero P e = refl
rn_zero_only p (suc n) P e = absurd (none (rn p (suc n)) (rn_ge p (suc n) 1 P (rep_pow p 0 P) (zero-lt-suc n)) e)
  where
    none : (z : ℕ) → 1 ≤ z → z ≡ 0 → ⊥
    none z h e = omega arith

-- ---- errors
-- half a last place is at most one part in 2 ^ p of every c from 2 ^ (p - 1) last places on
error_part : (p n c : ℕ) → 0 < p → (0 < cut p n → 2 ^ (p - 1 + cut p n) ≤ c) → gap (rn p n) n * 2 ^ p ≤ c
error_part p n c P reach = go (cut p n) refl
  where
    none : (g : ℕ) → g * 2 ≤ 1 → g ≡ 0
    none g h = omega arith

    up : (p : ℕ) → 0 < p → suc (p - 1) ≡ p
    up p P = omega arith

    go : (k : ℕ) → cut p n ≡ k → gap (rn p n) n * 2 ^ p ≤ c
    go zero e =
        let z = none (gap (rn p n) n) (subst (λ (k : ℕ). gap (rn p n) n * 2 ≤ 2 ^ k) e (rn_half p n)) in
        le_trans (le_of_eq (ap (λ (g : ℕ). g * 2 ^ p) z ∙ zero-mul (2 ^ p))) zero-le
    go (suc k) e =
        let g = gap (rn p n) n in
        let h = 2 ^ (p - 1) in
        let w : 2 ^ p ≡ 2 * h = ap (λ (x : ℕ). 2 ^ x) (sym (up p P)) ∙ pow-succ' 2 (p - 1) in
        le_trans (le_of_eq (ap (λ (x : ℕ). g * x) w ∙ sym (mul_assoc g 2 h)))
        (le_trans (mul-le-mul_right h (rn_half p n))
        (le_trans (le_of_eq (mul_comm (ulp p n) h ∙ sym (pow-add 2 (p - 1) (cut p n))))
        (reach (subst (λ (x : ℕ). 0 < x) (sym e) (zero-lt-suc k)))))

-- against n
pub rn_error : (p n : ℕ) → 0 < p → gap (rn p n) n * 2 ^ p ≤ n
rn_error p n P = error_part p n n P (cut_full p n P)

-- against the rounded n
pub rn_error_of : (p n : ℕ) → 0 < p → gap (rn p n) n * 2 ^ p ≤ rn p n
rn_error_of p n P =
    let k = p - 1 + cut p n in
    error_part p n (rn p n) P (λ c. rn_ge p n (2 ^ k) P (rep_pow p k P) (cut_full p n P c))

-- ---- 2 ^ t times as much
pub rn_scaled : (p n t : ℕ) → 0 < p → rn p (n * 2 ^ t) ≡ rn p n * 2 ^ t
unfolding rn
rn_scaled p n t P = go (leb p (size n)) (leb→le p (size n)) (nleb→lt p (size n))
  where
    more : (z x : ℕ) → p ≤ z → x ≡ z + t → x - p ≡ z - p + t
    more z x h e = omega arith

    -- where n has p digits or more, t more of them are dropped
    long : 0 < n → p ≤ size n → rn p (n * 2 ^ t) ≡ rn p n * 2 ^ t
    long N h =
        let k = cut p n in
        let e : cut p (n * 2 ^ t) ≡ k + t = more (size n) (size (n * 2 ^ t)) h (size_scale n t N) in
        let c : n * 2 ^ t * 2 ^ k ≡ n * 2 ^ (k + t) =
        mul_assoc n (2 ^ t) (2 ^ k) ∙ ap (λ (z : ℕ). n * z) (mul_comm (2 ^ t) (2 ^ k) ∙ sym (pow-add 2 k t)) in
        ap (λ (z : ℕ). closest (n * 2 ^ t) (2 ^ z) * 2 ^ z) e
        ∙ ap (λ (z : ℕ). z * 2 ^ (k + t)) (closest_same (n * 2 ^ t) (2 ^ (k + t)) n (2 ^ k) (pow_pos (k + t)) (pow_pos k) c)
        ∙ ap (λ (z : ℕ). closest n (2 ^ k) * z) (pow-add 2 k t)
        ∙ sym (mul_assoc (closest n (2 ^ k)) (2 ^ k) (2 ^ t))

    -- where it has fewer, none is dropped on either side
    short : size n < p → rn p (n * 2 ^ t) ≡ rn p n * 2 ^ t
    short h =
        let r : Rep p n = rep_small p n P (le_of_lt (lt_of_lt_of_le (size-lt n) (pow_mono (le_of_lt h)))) in
        rn_kept p (rep_scale p n t P r) ∙ ap (λ (z : ℕ). z * 2 ^ t) (sym (rn_kept p r))

    go : (b : Bool) → (T b → p ≤ size n) → (T (not b) → size n < p) → rn p (n * 2 ^ t) ≡ rn p n * 2 ^ t
    go true h k = long (size_reaches n 0 (lt_of_lt_of_le P (h tt))) (h tt)
    go false h k = short (k tt)

pub rep_unscale : (p n t : ℕ) → 0 < p → Rep p (n * 2 ^ t) → Rep p n
rep_unscale p n t P r =
    subst (λ (z : ℕ). Rep p z)
    (eq_of_mul-eq-mul_right (2 ^ t) (pow_pos t) (rn p n) n (sym (rn_scaled p n t P) ∙ rn_kept p r)) (rn_rep p n P)
