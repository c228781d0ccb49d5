-- The ceiling of a list. In order: bit lengths, of a quotient and by a double's parts; what one entry adds, and a list, at most; lists of
-- zeros; entries of a known grain and size; the second pass; the answer, and that no two results satisfy the promise.
-- Not here: the grain (`Grain`); that every step lowers what a list weighs (`Descent`). Assumes nothing.
use mathlib.Core.Path.{◌≡◌, refl, sym, ap, ap₂, ◌∙◌}
use mathlib.Core.Logic.{◌⊎◌, inl, inr}
use mathlib.Core.List.{List, [], ◌∷◌}
use Prim.Native.Nat.{ℕ, zero, suc, ◌+◌, ◌-◌, ◌*◌, ◌/◌, ◌^◌, ◌≤◌, ◌<◌, zero-le}
use native.Mathlib.Nat.{le_trans, le_of_eq, lt_of_lt_of_le, lt_of_le_of_lt, le_antisymm, le-div_iff_mul-le, zero-lt-suc, eq-zero-or-pos}
use native.Mathlib.Nat.{add-zero, add_comm, mul-one, pow-suc, zero-sub, sub-eq-zero_of_le}
use native.Mathlib.Omega.{arith}
use lib.Count.{count_leading_zeros, leading_length}
use lib.Dec.{lit≤, lit<}
use lib.ListN.{length, get_or}
use lib.Pow.{pow-add, pow_pos, pow-lt, pow_mono, shr_lt, shr_le}
use lib.Ieee.{Float, nan, binary64, size}
use lib.Ieee.Digits.{size-lt, size_reaches, size-le}
use Rattle.double.specs.Worth.{mag}
use Rattle.refusal.specs.Outcome.{answers, Fixes}
use Rattle.refusal.specs.declared.Refusal.{Refusal}
use Rattle.double.specs.declared.answer.Parts.{Parts}
use Rattle.double.proofs.Laws.Digits.{size_gt, size_mono, size_scale}
use Rattle.double.proofs.Laws.Units.{Real, mag_lt}
use Rattle.double.proofs.Laws.Sized.{Sized}
use Rattle.double.proofs.Laws.Apart.{Means}
use Rattle.refusal.proofs.Laws.Outcome.{outcome_once}
use Rattle.sum.specs.Limit.{limit, divisor}
use Rattle.sum.specs.Parts.{found, fault_of}
use Rattle.sum.specs.Ceiling.{digits, grain_of, round_up, weight_of, ceiling_of, ceiling_said, ceiling_answer, CeilingSays}
use Rattle.sum.proofs.Laws.Refused.{checked_none, checked_at}
use Rattle.sum.proofs.Laws.Entries.{All, AllReal, all_map}
use Rattle.sum.proofs.Laws.Grain.{parts_mag, grain_greatest}
use Rattle.sum.proofs.Laws.RoundUp.{round_mono}
use Rattle.std.specs.Prelude.{Err, Ok, Result}

-- ---- bit lengths
-- what is divided by 2 ^ j has j digits fewer
size_over : (n j : ℕ) → size (n / 2 ^ j) ≡ size n - j
size_over n j =
    le_antisymm
    (size-le (n / 2 ^ j) (size n - j) (shr_lt (size n - j) j (lt_of_lt_of_le (size-lt n) (pow_mono (cover (size n) j)))))
    (go (size n - j) refl)
  where
    cover : (z j : ℕ) → z ≤ z - j + j
    cover z j = omega arith

    inside : (z j k : ℕ) → z - j ≡ suc k → k + j < z
    inside z j k e = omega arith

    go : (k : ℕ) → size n - j ≡ k → k ≤ size (n / 2 ^ j)
    go zero e = zero-le
    go (suc k) e =
        size_gt (n / 2 ^ j) k
        ((le-div_iff_mul-le (pow_pos j)).1 (le_trans (le_of_eq (sym (pow-add 2 k j))) (size_reaches n (k + j) (inside (size n) j k e))))

-- of a number of k digits, what its leading zeros leave
size_leading : (k n : ℕ) → n < 2 ^ k → count_leading_zeros k n + size n ≡ k
size_leading k n h =
    let l = leading_length k n h in
    ap (λ (z : ℕ). count_leading_zeros k n + z) (le_antisymm (size-le n l.0 l.2) (go l.0 l.3)) ∙ l.1
  where
    halve : (p n : ℕ) → p * 2 ≤ 2 * n + 1 → p ≤ n
    halve p n h = omega arith

    go : (m : ℕ) → 2 ^ m ≤ 2 * n + 1 → m ≤ size n
    go zero h = zero-le
    go (suc m) h = size_gt n m (halve (2 ^ m) n (le_trans (le_of_eq (sym (pow-suc 2 m))) h))

-- 2 ^ e times as much has e digits more; a number of no digits has no exponent
size_parted : (s e : ℕ) → (e ≡ 0) ⊎ (2 ^ 52 ≤ s) → size (s * 2 ^ e) ≡ size s + e
size_parted s e (inl z) =
    ap (λ (k : ℕ). size (s * 2 ^ k)) z ∙ ap size (mul-one s) ∙ sym (ap (λ (k : ℕ). size s + k) z ∙ add-zero (size s))
size_parted s e (inr h) = size_scale s e (lt_of_lt_of_le (pow_pos 52) h)

-- the bit length of a double, by its parts
module _ (x : Float) (p : Parts) (means : Means x p) where
  length_is : 64 - count_leading_zeros 64 p.significand + p.exponent ≡ size (mag binary64 x)
  length_is =
      ap (λ (z : ℕ). z + p.exponent) (rest (count_leading_zeros 64 p.significand) (size p.significand) 64
      (size_leading 64 p.significand (lt_of_lt_of_le means.significand_range (lit≤ tt))))
      ∙ sym (size_parted p.significand p.exponent means.exponent_none) ∙ ap size (sym (parts_mag x p means))
    where
      rest : (l z k : ℕ) → l + z ≡ k → k - l ≡ z
      rest l z k e = omega arith

  pub length_over_is : (j : ℕ) → 64 - count_leading_zeros 64 p.significand + p.exponent - j ≡ size (mag binary64 x / 2 ^ j)
  length_over_is j = ap (λ (z : ℕ). z - j) length_is ∙ sym (size_over (mag binary64 x) j)

  -- a length that the power uses up
  pub length_over_none : (j : ℕ) → 64 - count_leading_zeros 64 p.significand + p.exponent ≤ j → 0 ≡ size (mag binary64 x / 2 ^ j)
  length_over_none j h = sym (sub-eq-zero_of_le h) ∙ length_over_is j

-- ---- what an entry and a list add at most
-- what an entry of all digits adds: 49
abbrev pub share_most : ℕ
share_most = round_up divisor digits

pub length_most : (x : Float) (j : ℕ) → Real binary64 x → size (mag binary64 x / 2 ^ j) ≤ digits
length_most x j r = le_trans (size_mono (shr_le (mag binary64 x) j)) (size-le (mag binary64 x) digits (mag_lt binary64 x r))

share_most_lem : (x : Float) (j : ℕ) → Real binary64 x → round_up divisor (size (mag binary64 x / 2 ^ j)) ≤ share_most
share_most_lem x j r = rounded (size (mag binary64 x / 2 ^ j)) (length_most x j r)
  where
    rounded : (z : ℕ) → z ≤ digits → round_up divisor z ≤ share_most
    rounded z h = omega arith

pub share_low : (x : Float) (j : ℕ) → Real binary64 x → {r : ℕ} → r ≡ round_up divisor (size (mag binary64 x / 2 ^ j)) → r ≤ share_most
share_low x j r e = le_trans (le_of_eq e) (share_most_lem x j r)

-- entries of at most c digits over 2 ^ j units: c divided and rounded up, for each
weight_most : (d j c : ℕ) → 0 < d → (xs : List Float) → All (λ x. size (mag binary64 x / 2 ^ j) ≤ c) xs
    → weight_of d j xs ≤ length xs * round_up d c
unfolding weight_of
weight_most d j c D [] a = zero-le
weight_most d j c D (x ∷ xs) a =
    more (round_up d (size (mag binary64 x / 2 ^ j))) (weight_of d j xs) (length xs) (round_up d c) (round_mono d D a.0)
    (weight_most d j c D xs a.1)
  where
    more : (s w n t : ℕ) → s ≤ t → w ≤ n * t → s + w ≤ suc n * t
    more s w n t h g = omega arith

-- every length at most c: the ceiling is at most the list's length times c divided and rounded up
pub ceiling_lengths : (c : ℕ) (xs : List Float) → All (λ x. size (mag binary64 x / 2 ^ grain_of xs) ≤ c) xs
    → ceiling_of xs ≤ length xs * round_up divisor c
unfolding ceiling_of
ceiling_lengths c xs a = weight_most divisor (grain_of xs) c (lit< tt) xs a

-- a count of 32 bits holds every ceiling
pub ceiling_most : (xs : List Float) → AllReal xs → length xs ≤ limit → ceiling_of xs ≤ 50176
ceiling_most xs r h =
    all (ceiling_of xs) (length xs) (ceiling_lengths digits xs (all_map (λ x. length_most x (grain_of xs)) xs r)) h
  where
    all : (w l : ℕ) → w ≤ l * share_most → l ≤ limit → w ≤ 50176
    all w l h g = omega arith

-- ---- lists of zeros alone, and the empty one, have the ceiling 0
size_zero : size 0 ≡ 0
size_zero = le_antisymm (size-le 0 0 (lit< tt)) zero-le

share_zero : (x : Float) (j : ℕ) → mag binary64 x ≡ 0 → round_up divisor (size (mag binary64 x / 2 ^ j)) ≡ 0
share_zero x j e =
    ap (round_up divisor) (size_over (mag binary64 x) j ∙ ap (λ (n : ℕ). size n - j) e ∙ ap (λ (z : ℕ). z - j) size_zero ∙ zero-sub j)

weight_zeros : (j : ℕ) (xs : List Float) → All (λ x. mag binary64 x ≡ 0) xs → weight_of divisor j xs ≡ 0
unfolding weight_of
weight_zeros j [] a = refl
weight_zeros j (x ∷ xs) a = ap₂ (λ (m n : ℕ). m + n) (share_zero x j a.0) (weight_zeros j xs a.1)

pub ceiling_zeros : (xs : List Float) → All (λ x. mag binary64 x ≡ 0) xs → ceiling_of xs ≡ 0
unfolding ceiling_of
ceiling_zeros xs a = weight_zeros (grain_of xs) xs a

pub ceiling_empty : ceiling_of [] ≡ 0
ceiling_empty = ceiling_zeros [] tt

-- ---- doubles that are multiples of 2 ^ g and at most 2 ^ b units
-- a list is of zeros, or has an entry that is none
zeros_or_some : (xs : List Float)
    → All (λ x. mag binary64 x ≡ 0) xs ⊎ ((i : ℕ) × (i < length xs) × (0 < mag binary64 (get_or xs i nan)))
zeros_or_some [] = inl tt
zeros_or_some (x ∷ xs) = elim (eq-zero-or-pos (mag binary64 x)) [
  | inl e ↦ elim (zeros_or_some xs) [
    | inl a ↦ inl (e, a)
    | inr s ↦ inr (suc s.0, omega (arith, s.1), s.2)
  ]
  | inr h ↦ inr (0, zero-lt-suc (length xs), h)
]

module _ (g b : ℕ) (l : g ≤ b) where
  -- over a grain that is no less, such a double has no more than b + 1 - g digits
  sized_length : (j : ℕ) → g ≤ j → (x : Float) → Sized g b x → size (mag binary64 x / 2 ^ j) ≤ b + 1 - g
  sized_length j h x r =
      size-le (mag binary64 x / 2 ^ j) (b + 1 - g) (shr_lt (b + 1 - g) j (lt_of_le_of_lt r.most (pow-lt (over j h))))
    where
      over : (j : ℕ) → g ≤ j → b < b + 1 - g + j
      over j h = omega arith

  pub ceiling_sized : (xs : List Float) → All (Sized g b) xs → ceiling_of xs ≤ length xs * round_up divisor (b + 1 - g)
  ceiling_sized xs a = elim (zeros_or_some xs) [
    | inl z ↦ le_trans (le_of_eq (ceiling_zeros xs z)) zero-le
    | inr (i, h, some) ↦
        let real : AllReal xs = all_map (λ x r. r.real) xs a in
        let grain = grain_greatest xs g real (all_map (λ x r. r.grain) xs a) i h some in
        ceiling_lengths (b + 1 - g) xs (all_map (sized_length (grain_of xs) grain) xs a)
  ]

-- ---- the second pass, from the list's end
pub weight_none : (d j : ℕ) → 0 ≡ weight_of d j []
unfolding weight_of
weight_none d j = refl

pub weight_cons : (d j : ℕ) (x : Float) (xs : List Float)
    → weight_of d j xs + round_up d (size (mag binary64 x / 2 ^ j)) ≡ weight_of d j (x ∷ xs)
unfolding weight_of
weight_cons d j x xs = add_comm (weight_of d j xs) (round_up d (size (mag binary64 x / 2 ^ j)))

-- ---- the answer
pub ceiling_refused : (xs : List Float) (r : Refusal) → found (Err r) ≡ fault_of xs → CeilingSays xs (Err r)
unfolding ceiling_said ceiling_answer
ceiling_refused xs r h = sym (checked_at (ceiling_of xs) xs r h)

pub ceiling_measured : (xs : List Float) (j w : ℕ) → found (Ok tt) ≡ fault_of xs → j ≡ grain_of xs → w ≡ weight_of divisor j xs
    → CeilingSays xs (Ok w)
unfolding ceiling_said ceiling_answer ceiling_of
ceiling_measured xs j w h g e =
    ap answers (e ∙ ap (λ (k : ℕ). weight_of divisor k xs) g) ∙ sym (checked_none (ceiling_of xs) xs h)

-- no two results satisfy the promise
pub ceiling_fixed : (xs : List Float) → Fixes (λ (r : Result ℕ Refusal). CeilingSays xs r)
unfolding ceiling_said
ceiling_fixed xs a b p q = outcome_once (λ n. n) (λ m n e. e) a b (p ∙ sym q)
