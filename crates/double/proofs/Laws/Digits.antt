-- Binary digits of whole numbers: `cut p n` counts the digits of n beyond the first p, `ulp p n` is the step between the numbers of
-- p digits at n, and `Rep p n` says that n has at most p digits but for zeros at its end.
-- In order: distances, powers of two as divisors, sizes, `Rep`. Not here: rounding (`Rounding`), and anything of floats. Assumes nothing.
use mathlib.Core.Path.{◌≡◌, sym, ap, ap₂, ◌∙◌, subst}
use mathlib.Core.Logic.{inl, inr}
use Prim.Native.Nat.{ℕ, suc, ◌+◌, ◌-◌, ◌*◌, ◌/◌, ◌^◌, ◌≤◌, ◌<◌, ◌∣◌, zero-le}
use native.Mathlib.Nat.{le_refl, le_trans, le_of_eq, le_of_lt, lt_of_lt_of_le, lt_of_le_of_lt, lt_of_not-le, not-le_of_lt, eq-or-lt_of_le}
use native.Mathlib.Nat.{add-mul, mul_comm, mul-sub}
use native.Mathlib.Nat.{add-zero, add_assoc, one-mul, suc-mul, mul-le-mul_right, lt_of_mul-lt-mul_right, div-add-mod', le-div_iff_mul-le}
use native.Mathlib.Nat.{dvd_refl, dvd_trans, dvd-mul_left, dvd-mul_right, div-mul_cancel, mul-dvd-mul_right, le_of_suc-le-suc}
use native.Mathlib.Omega.{arith}
use lib.Pow.{pow-add, pow_pos, pow_mono, pow-lt, shl_lt}
use lib.Ieee.{size}
use lib.Ieee.Digits.{size-lt, size_reaches, size-le}

-- how many digits of n are dropped to keep p
abbrev pub cut : ℕ → ℕ → ℕ
cut p n = size n - p

-- the step between the numbers of p digits at n: a unit in the last place
abbrev pub ulp : ℕ → ℕ → ℕ
ulp p n = 2 ^ cut p n

-- n has at most p digits but for zeros at its end
abbrev pub Rep : ℕ → ℕ → Type 0
Rep p n = ulp p n ∣ n

-- the distance of two numbers
abbrev pub gap : ℕ → ℕ → ℕ
gap a b = (a - b) + (b - a)

pub sub_mul : (a b l : ℕ) → (a - b) * l ≡ a * l - b * l
sub_mul a b l = mul_comm (a - b) l ∙ mul-sub l a b ∙ ap₂ (λ (x y : ℕ). x - y) (mul_comm l a) (mul_comm l b)

pub gap_mul : (a b l : ℕ) → gap a b * l ≡ gap (a * l) (b * l)
gap_mul a b l = add-mul (a - b) (b - a) l ∙ ap₂ (λ (x y : ℕ). x + y) (sub_mul a b l) (sub_mul b a l)

-- ---- powers of two as divisors
pub pow_dvd : {i j : ℕ} → i ≤ j → 2 ^ i ∣ 2 ^ j
pow_dvd {i} {j} h =
    subst (λ (x : ℕ). 2 ^ i ∣ x) (sym (pow-add 2 (j - i) i) ∙ ap (λ (x : ℕ). 2 ^ x) (back i j h)) (dvd-mul_left (2 ^ i) (2 ^ (j - i)))
  where
    back : (i j : ℕ) → i ≤ j → j - i + i ≡ j
    back i j h = omega arith

-- a lower power divides too
pub dvd_lower : {i j n : ℕ} → i ≤ j → 2 ^ j ∣ n → 2 ^ i ∣ n
dvd_lower {i} h d = dvd_trans (2 ^ i) (pow_dvd h) d

-- a multiple of u at or below n is at or below the last one
multiple_below : (u n c : ℕ) → 0 < u → u ∣ c → c ≤ n → c ≤ n / u * u
multiple_below u n c U d h =
    let e : c / u * u ≡ c = div-mul_cancel u d in
    subst (λ (x : ℕ). x ≤ n / u * u) e (mul-le-mul_right u ((le-div_iff_mul-le U).1 (subst (λ (x : ℕ). x ≤ n) (sym e) h)))

-- a multiple of u above n is at or above the next one
pub multiple_above : (u n c : ℕ) → 0 < u → u ∣ c → n < c → n / u * u + u ≤ c
multiple_above u n c U d h =
    let q = c / u in
    let e : q * u ≡ c = div-mul_cancel u d in
    let l : n / u * u < q * u = omega (arith, div-add-mod' n u) in
    let s : suc (n / u) * u ≤ q * u = mul-le-mul_right u (lt_of_mul-lt-mul_right u l) in
    omega (arith, suc-mul (n / u) u)

-- ---- sizes
pub size_mono : {a b : ℕ} → a ≤ b → size a ≤ size b
size_mono {a} {b} h = size-le a (size b) (lt_of_le_of_lt h (size-lt b))

pub size_gt : (n j : ℕ) → 2 ^ j ≤ n → j < size n
size_gt n j h = lt_of_not-le (λ (g : size n ≤ j). not-le_of_lt (lt_of_lt_of_le (size-lt n) (pow_mono g)) h)

-- 2 ^ t times as much has t digits more
pub size_scale : (n t : ℕ) → 0 < n → size (n * 2 ^ t) ≡ size n + t
size_scale n t N =
    let z = size n in
    let Z : 0 < z = size_gt n 0 N in
    let half : 2 ^ (z - 1) * 2 ^ t ≤ n * 2 ^ t = mul-le-mul_right (2 ^ t) (size_reaches n (z - 1) (less z Z)) in
    join z t (size (n * 2 ^ t)) Z (size-le (n * 2 ^ t) (z + t) (shl_lt z t (size-lt n)))
    (size_gt (n * 2 ^ t) (z - 1 + t) (le_trans (le_of_eq (pow-add 2 (z - 1) t)) half))
  where
    less : (z : ℕ) → 0 < z → z - 1 < z
    less z h = omega arith

    join : (z t x : ℕ) → 0 < z → x ≤ z + t → z - 1 + t < x → x ≡ z + t
    join z t x Z a b = omega arith

pub cut_mono : (p : ℕ) {a b : ℕ} → a ≤ b → cut p a ≤ cut p b
cut_mono p {a} {b} h = omega (arith, size_mono h)

-- p digits above the dropped ones are enough
pub cut_enough : (p n : ℕ) → n < 2 ^ (p + cut p n)
cut_enough p n = lt_of_lt_of_le (size-lt n) (pow_mono (cover (size n) p))
  where
    cover : (z p : ℕ) → z ≤ p + (z - p)
    cover z p = omega arith

-- where digits are dropped, p - 1 are too few
pub cut_full : (p n : ℕ) → 0 < p → 0 < cut p n → 2 ^ (p - 1 + cut p n) ≤ n
cut_full p n P c = size_reaches n (p - 1 + cut p n) (in_use (size n) p P c)
  where
    in_use : (z p : ℕ) → 0 < p → 0 < z - p → p - 1 + (z - p) < z
    in_use z p P h = omega arith

-- ---- `Rep`
-- a multiple of 2 ^ j that is at most 2 ^ p times as much
pub rep_of : (p j n : ℕ) → 0 < p → 2 ^ j ∣ n → n ≤ 2 ^ (p + j) → Rep p n
rep_of p j n P d h = elim (eq-or-lt_of_le h) [
  | inl e ↦ subst (λ (x : ℕ). ulp p x ∣ x) (sym e) (pow_dvd (spare (size (2 ^ (p + j))) p j P top))
  | inr l ↦ dvd_lower (few (size n) p j (size-le n (p + j) l)) d
]
  where
    top : size (2 ^ (p + j)) ≤ suc (p + j)
    top = size-le (2 ^ (p + j)) (suc (p + j)) (pow-lt (le_refl (suc (p + j))))

    few : (z p j : ℕ) → z ≤ p + j → z - p ≤ j
    few z p j h = omega arith

    spare : (z p j : ℕ) → 0 < p → z ≤ suc (p + j) → z - p ≤ p + j
    spare z p j P h = omega arith

-- .. and even less than one such multiple above it
pub rep_edge : (p j n : ℕ) → 0 < p → 2 ^ j ∣ n → n < 2 ^ (p + j) + 2 ^ j → Rep p n
rep_edge p j n P d h =
    let u = 2 ^ j in
    let q = n / u in
    let e : q * u ≡ n = div-mul_cancel u d in
    let w : 2 ^ (p + j) ≡ 2 ^ p * u = pow-add 2 p j in
    let l : q * u < suc (2 ^ p) * u = omega (arith, suc-mul (2 ^ p) u) in
    let m : q * u ≤ 2 ^ p * u = mul-le-mul_right u (le_of_suc-le-suc (lt_of_mul-lt-mul_right u l)) in
    rep_of p j n P d (omega arith)

pub rep_small : (p n : ℕ) → 0 < p → n ≤ 2 ^ p → Rep p n
rep_small p n P h = rep_of p 0 n P (subst (λ (x : ℕ). 1 ∣ x) (one-mul n) (dvd-mul_right 1 n)) (rw (add-zero) h)

-- a power of two has one digit
pub rep_pow : (p k : ℕ) → 0 < p → Rep p (2 ^ k)
rep_pow p k P = rep_of p k (2 ^ k) P (dvd_refl (2 ^ k)) (pow_mono (wide p k))
  where
    wide : (p k : ℕ) → k ≤ p + k
    wide p k = omega arith

-- the step at b divides every number of p digits from b on
pub rep_dvd : (p : ℕ) {b n : ℕ} → b ≤ n → Rep p n → ulp p b ∣ n
rep_dvd p h r = dvd_lower (cut_mono p h) r

-- between n and its neighbours, the last multiple of the step and the next, lies no number of p digits: below ..
pub rep_below : (p n c : ℕ) → 0 < p → Rep p c → c ≤ n → c ≤ n / ulp p n * ulp p n
rep_below p n c P r h = elim (eq-or-lt_of_le (cut_mono p h)) [
  | inl e ↦ multiple_below (ulp p n) n c (pow_pos (cut p n)) (subst (λ (x : ℕ). 2 ^ x ∣ c) e r) h
  | inr l ↦ le_trans (le_of_lt (cut_enough p c)) (le_trans (pow_mono (room p (cut p c) (cut p n) P l)) (half l))
]
  where
    room : (p j k : ℕ) → 0 < p → j < k → p + j ≤ p - 1 + k
    room p j k P h = omega arith

    last : (p k : ℕ) → k ≤ p - 1 + k
    last p k = omega arith

    half : cut p c < cut p n → 2 ^ (p - 1 + cut p n) ≤ n / ulp p n * ulp p n
    half l =
        multiple_below (ulp p n) n (2 ^ (p - 1 + cut p n)) (pow_pos (cut p n)) (pow_dvd (last p (cut p n)))
        (cut_full p n P (lt_of_le_of_lt zero-le l))

-- .. and above
pub rep_above : (p n c : ℕ) → Rep p c → n < c → n / ulp p n * ulp p n + ulp p n ≤ c
rep_above p n c r h = multiple_above (ulp p n) n c (pow_pos (cut p n)) (rep_dvd p (le_of_lt h) r) h

pub rep_scale : (p n t : ℕ) → 0 < p → Rep p n → Rep p (n * 2 ^ t)
rep_scale p n t P r =
    rep_of p (cut p n + t) (n * 2 ^ t) P
    (subst (λ (x : ℕ). x ∣ n * 2 ^ t) (sym (pow-add 2 (cut p n) t)) (mul-dvd-mul_right (ulp p n) r (2 ^ t)))
    (le_trans (mul-le-mul_right (2 ^ t) (le_of_lt (cut_enough p n)))
    (le_of_eq (sym (pow-add 2 (p + cut p n) t) ∙ ap (λ (x : ℕ). 2 ^ x) (add_assoc p (cut p n) t))))
