-- What words are worth, the lowest first. In order, by any base B: a word that is stored; words behind others; the worth is below the power
-- that follows the words. Then the words of 64 bits that a number has. Not here: words that change (`Changed`). Assumes nothing.
use Rattle.std.proofs.Common.{◌≡◌, ℕ, zero, suc, ◌+◌, ◌*◌, ◌/◌, ◌%◌, ◌^◌, ◌<◌, ◌≤◌, List, [], ◌∷◌, ◌++◌, length, get_or, take, drop, set, sym, refl, ap, ◌∙◌, ap₂, suc-le-suc, zero-le, le_of_suc-le-suc, not-suc-le-zero, mul-le-mul_left, arith, take-append-drop, length-take-le}
use native.Mathlib.Nat.{pow-zero, pow-succ'}
use Rattle.total.specs.Words.{base, count, modulus, value_of, words_of}

module _ (B : ℕ) where
  -- ---- a word that is stored
  pub value_set : (ws : List ℕ) (k v : ℕ) → k < length ws → value_of B (set ws k v) + get_or ws k 0 * B ^ k ≡ value_of B ws + v * B ^ k
  unfolding value_of
  value_set [] k v h = absurd (not-suc-le-zero h)
  value_set (w ∷ ws) zero v h = rw pow-zero (omega arith)
  value_set (w ∷ ws) (suc k) v h =
      let ih = ap (λ (z : ℕ). B * z) (value_set ws k v (le_of_suc-le-suc h)) in
      rw (pow-succ' B k) (omega arith)

  -- ---- words behind others
  value_append : (us vs : List ℕ) → value_of B (us ++ vs) ≡ value_of B us + B ^ length us * value_of B vs
  unfolding value_of
  value_append [] vs = rw pow-zero (omega arith)
  value_append (u ∷ us) vs =
      let ih = ap (λ (z : ℕ). B * z) (value_append us vs) in
      rw (pow-succ' B (length us)) (omega arith)

  pub value_front : (n : ℕ) (ws vs : List ℕ) → n ≤ length ws → value_of B (take n ws ++ vs) ≡ value_of B (take n ws) + B ^ n * value_of B vs
  value_front n ws vs h =
      value_append (take n ws) vs ∙ ap (λ (k : ℕ). value_of B (take n ws) + B ^ k * value_of B vs) (length-take-le n ws h)

  pub value_split : (n : ℕ) (ws : List ℕ) → n ≤ length ws → value_of B ws ≡ value_of B (take n ws) + B ^ n * value_of B (drop n ws)
  value_split n ws h = sym (ap (value_of B) (take-append-drop n ws)) ∙ value_front n ws (drop n ws) h

  -- ---- what words are worth
  -- each is below the base
  abbrev pub Below : List ℕ → Type 0
  Below ws = (k : ℕ) → k < length ws → get_or ws k 0 < B

  pub value_below : (ws : List ℕ) → Below ws → value_of B ws < B ^ length ws
  unfolding value_of
  value_below [] h = rw pow-zero (omega arith)
  value_below (w ∷ ws) h =
      let first : w < B = h 0 (suc-le-suc zero-le) in
      let rest = mul-le-mul_left B (value_below ws (λ k l. h (suc k) (suc-le-suc l))) in
      rw (pow-succ' B (length ws)) (omega (arith, rest))

-- where 33 words end
pub past : (i : ℕ) → i ≡ count → base ^ i ≡ modulus
unfolding modulus
past i e = ap (λ (n : ℕ). base ^ n) e

-- ---- the words of a number
-- they hold it, up to a multiple of the power that follows them
pub words_value : (n v : ℕ) → (q : ℕ) × (value_of base (words_of n v) + base ^ n * q ≡ v)
unfolding value_of words_of
words_value zero v = (v, rw pow-zero (omega arith))
words_value (suc n) v =
    let (q, e) = words_value n (v / base) in
    (q, rw (pow-succ' base n) (omega (arith, ap (λ (z : ℕ). base * z) e)))

-- words of 64 bits are those of what they are worth
pub words_own : (ws : List ℕ) → Below base ws → (q v : ℕ) → value_of base ws + base ^ length ws * q ≡ v → words_of (length ws) v ≡ ws
unfolding value_of words_of
words_own [] h q v e = refl
words_own (w ∷ ws) h q v e =
    let rest : ℕ = value_of base ws + base ^ length ws * q in
    let first : w < base = h 0 (suc-le-suc zero-le) in
    let whole : w + base * rest ≡ v = sym (rw (pow-succ' base (length ws)) (omega arith)) ∙ e in
    let (low, high) = parted w rest v first whole in
    ap₂ (λ (u : ℕ) (us : List ℕ). u ∷ us) low
    (ap (words_of (length ws)) high ∙ words_own ws (λ k l. h (suc k) (suc-le-suc l)) q rest refl)
  where
    parted : (w r v : ℕ) → w < base → w + base * r ≡ v → (v % base ≡ w) × (v / base ≡ r)
    parted w r v h e = (omega arith, omega arith)
