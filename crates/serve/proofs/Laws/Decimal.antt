-- A number in decimal. In order: the two equations that fix it, for a number of one digit and for a longer one; the fewest digits that
-- hold a number are its decimal; a number of 64 bits has at most 20. Assumes nothing.
use Prim.Native.Nat.{ℕ, zero, suc, ◌-◌, ◌/◌, ◌%◌, ◌^◌, ◌≤◌, ◌<◌}
use mathlib.Core.Path.{◌≡◌, refl, sym, ap, ap₂, ◌∙◌}
use mathlib.Core.Bool.{Bool, true, false}
use mathlib.Core.List.{List, [], ◌∷◌, ◌++◌}
use native.Mathlib.Nat.{pow-suc, one-le-pow, pow-le-pow_right}
use native.Mathlib.Omega.{arith}
use borrow.Author.Tests.{lt-ltb, le-ltb, ltb-true, ltb-false}
use lib.Dec.{ltb}
use Rattle.io.specs.Digits.{last_digits as digits, hex_digit_ascii, IsDigitCount}
use Rattle.serve.specs.Text.{digit, decimal_within, decimal}

within_small : (more n : ℕ) → n < 10 → decimal_within more n ≡ digit n ∷ []
unfolding decimal_within
within_small zero n h = refl
within_small (suc more) n h = rw (lt-ltb n 10 h)

within_large : (more n : ℕ) → 10 ≤ n → decimal_within (suc more) n ≡ decimal_within more (n / 10) ++ digit (n % 10) ∷ []
unfolding decimal_within
within_large more n h = rw (le-ltb n 10 h)

-- room for more digits changes nothing
same_by : (a b n : ℕ) → (10 ≤ n → decimal_within a (n / 10) ≡ decimal_within b (n / 10)) → (small : Bool) → ltb n 10 ≡ small
    → decimal_within (suc a) n ≡ decimal_within (suc b) n
same_by a b n front true e = let l = ltb-true n 10 e in within_small (suc a) n l ∙ sym (within_small (suc b) n l)
same_by a b n front false e =
    let l = ltb-false n 10 e in
    within_large a n l ∙ ap (λ (digits : List ℕ). digits ++ digit (n % 10) ∷ []) (front l) ∙ sym (within_large b n l)

within_same : (a b n : ℕ) → n ≤ a → n ≤ b → decimal_within a n ≡ decimal_within b n
within_same zero b n h k = within_small zero n (omega arith) ∙ sym (within_small b n (omega arith))
within_same (suc a) zero n h k = within_small (suc a) n (omega arith) ∙ sym (within_small zero n (omega arith))
within_same (suc a) (suc b) n h k =
    same_by a b n (λ l. within_same a b (n / 10) (omega arith) (omega arith)) (ltb n 10) refl

pub decimal_small : (n : ℕ) → n < 10 → decimal n ≡ digit n ∷ []
unfolding decimal
decimal_small n h = within_small n n h

pub decimal_large : (n : ℕ) → 10 ≤ n → decimal n ≡ decimal (n / 10) ++ digit (n % 10) ∷ []
unfolding decimal
decimal_large zero h = let z : ⊥ = omega arith in absurd z
decimal_large (suc m) h =
    let fewer : suc m / 10 ≤ m = omega arith in
    within_large m (suc m) h
    ∙ ap (λ (front : List ℕ). front ++ digit (suc m % 10) ∷ []) (within_same m (suc m / 10) (suc m / 10) fewer (omega arith))

-- ---- the fewest digits
glyph_digit : (n : ℕ) → hex_digit_ascii (n % 10) ≡ digit (n % 10)
glyph_digit n = rw (lt-ltb (n % 10) 10 (omega arith))

pub decimal_digits : (n k : ℕ) → IsDigitCount 10 1 n k → digits 10 k n ≡ decimal n
decimal_digits n zero f = let z : ⊥ = omega arith in absurd z
decimal_digits n (suc zero) f =
    let small : n < 10 = f.1 in
    let same : n % 10 ≡ n = omega arith in
    ap (λ (d : ℕ). d ∷ []) (glyph_digit n) ∙ ap (λ (d : ℕ). digit d ∷ []) same ∙ sym (decimal_small n small)
decimal_digits n (suc (suc j)) f =
    let places : (i : ℕ) → suc i - 1 ≡ i = λ i. omega arith in
    let high : n < 10 ^ suc (suc j) = f.1 in
    let low : 10 ^ (suc (suc j) - 1) ≤ n = f.2 (omega arith) in
    let more = pow-suc 10 (suc j) in
    let less = pow-suc 10 j in
    let some = one-le-pow j 10 (omega arith) in
    let large : 10 ≤ n = omega (arith, ap (λ (i : ℕ). 10 ^ i) (places (suc j))) in
    let front : IsDigitCount 10 1 (n / 10) (suc j) = (
      omega arith,
      omega arith,
      λ h. omega (arith, ap (λ (i : ℕ). 10 ^ i) (places (suc j)), ap (λ (i : ℕ). 10 ^ i) (places j)),
    ) in
    ap₂ (λ (l : List ℕ) (d : ℕ). l ++ d ∷ []) (decimal_digits (n / 10) (suc j) front) (glyph_digit n) ∙ sym (decimal_large n large)

-- ---- how many there are
most_by : (n k : ℕ) → n < 2 ^ 64 → IsDigitCount 10 1 n k → (many : Bool) → ltb 20 k ≡ many → k ≤ 20
most_by n k h f true e =
    let l : 20 < k = ltb-true 20 k e in
    let low : 10 ^ (k - 1) ≤ n = f.2 (omega arith) in
    let some : 0 < 10 = omega arith in
    let more : 20 ≤ k - 1 = omega arith in
    let large : 10 ^ 20 ≤ 10 ^ (k - 1) = pow-le-pow_right some more in
    omega arith
most_by n k h f false e = ltb-false 20 k e

pub digits_most : (n k : ℕ) → n < 2 ^ 64 → IsDigitCount 10 1 n k → k ≤ 20
digits_most n k h f = most_by n k h f (ltb 20 k) refl
