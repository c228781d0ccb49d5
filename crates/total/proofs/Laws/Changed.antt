-- Words that change. In order, by any base B: a word that is stored; a change that is exact, that goes past the end, that is
-- one of the words behind others; a number of two words added and taken away. Then a double's units, shifted into two words of 64 bits.
-- Not here: what words are worth (`Words`). Assumes nothing.
use Rattle.std.proofs.Common.{◌≡◌, ℕ, zero, suc, ◌+◌, ◌-◌, ◌*◌, ◌/◌, ◌%◌, ◌^◌, ◌<◌, ◌≤◌, Bool, true, false, cond, List, ◌++◌, length, get_or, take, drop, set, sym, refl, ap, ◌∙◌, subst, append-nil, le_trans, lt_of_le_of_lt, mul_assoc, mul_comm, mul-one, add-one, arith, length-drop, length-set, drop_of_length-le, length-take, take_all, pow_pos, pow-add, shr-shr}
use native.Mathlib.Nat.{pow-zero, pow-succ', mul-div-mul_right, mod-add-div}
use lib.Pow.{shr_le}
use Rattle.total.specs.Words.{base, count, value_of}
use Rattle.total.specs.Parts.{Changed, InRange, one_adds, one_takes}
use Rattle.total.proofs.Laws.Words.{value_set, value_front, value_split}

-- the words from n on, as the part of a slice that is lent, and as vs come back in their place
abbrev pub lent : ℕ → List ℕ → List ℕ
lent n ws = take (length ws - n) (drop n ws)

abbrev pub back : ℕ → List ℕ → List ℕ → List ℕ
back n ws vs = take n ws ++ (vs ++ drop (length ws - n) (drop n ws))

module _ (B : ℕ) where
  -- ---- one word: of what is added or taken away, 1 goes over to the next
  -- a is stored at i, where x is still to be added and y to be taken away; o goes over, of both
  module _ (ws : List ℕ) (i : ℕ) (h : i < length ws) (v a x y o : ℕ) (e : a + y * 1 + B * (x * o) ≡ get_or ws i 0 + x * 1 + B * (y * o))
      (g : value_of B ws + y + B ^ i * x ≡ v + x + B ^ i * y) where
    stored_at : value_of B (set ws i a) + y + B ^ (i + 1) * (x * o) ≡ v + x + B ^ (i + 1) * (y * o)
    stored_at =
        let s = value_set B ws i a h in
        let f = ap (λ (z : ℕ). z * B ^ i) e in
        rw (add-one i, pow-succ' B i) (omega arith)

    pub stored_ends : o ≡ 0 → value_of B (set ws i a) + y ≡ v + x
    stored_ends z =
        omega (arith, rw z at stored_at)

    pub stored_goes : o ≡ 1 → value_of B (set ws i a) + y + B ^ (i + 1) * x ≡ v + x + B ^ (i + 1) * y
    stored_goes z =
        omega (arith, rw z at stored_at)

  -- ---- words that change
  module _ (before after : List ℕ) (x y : ℕ) where
    pub changed_whole : value_of B after + y ≡ value_of B before + x → Changed B before after x y
    changed_whole e = record { over = 0; under = 0; value_is = omega arith }

    -- what goes over past the end is dropped
    pub changed_past : (i p q : ℕ) → i ≡ length before → value_of B after + y + B ^ i * p ≡ value_of B before + x + B ^ i * q
        → Changed B before after x y
    changed_past i p q z e =
        record { over = p; under = q; value_is = subst (λ (k : ℕ). value_of B after + y + B ^ k * p ≡ value_of B before + x + B ^ k * q) z e }

  -- a change behind n words is one of the whole.
  module _ (n : ℕ) (ws vs : List ℕ) (h : n ≤ length ws) where
    lent_rest : lent n ws ≡ drop n ws
    lent_rest = take_all (length ws - n) (drop n ws) (simp length-drop (omega arith))

    back_whole : back n ws vs ≡ take n ws ++ vs
    back_whole =
        ap (λ (l : List ℕ). take n ws ++ (vs ++ l)) (drop_of_length-le (drop n ws) {i = length ws - n} (simp length-drop (omega arith)))
        ∙ ap (λ (l : List ℕ). take n ws ++ l) (append-nil vs)

    power : B ^ length ws ≡ B ^ n * B ^ length (lent n ws)
    power =
        ap (λ (k : ℕ). B ^ k) (rw lent_rest (simp length-drop (omega arith))) ∙ pow-add B n (length (lent n ws))

    pub changed_part : (x y : ℕ) → Changed B (lent n ws) vs x y → Changed B ws (back n ws vs) (B ^ n * x) (B ^ n * y)
    changed_part x y c =
        let whole : value_of B ws ≡ value_of B (take n ws) + B ^ n * value_of B (lent n ws) =
        value_split B n ws h ∙ ap (λ (l : List ℕ). value_of B (take n ws) + B ^ n * value_of B l) (sym lent_rest) in
        let after : value_of B (back n ws vs) ≡ value_of B (take n ws) + B ^ n * value_of B vs =
        ap (value_of B) back_whole ∙ value_front B n ws vs h in
        record {
          over = c.over;
          under = c.under;
          value_is =
              joined (value_of B (take n ws)) (B ^ n) (B ^ length (lent n ws)) (value_of B vs) (value_of B (lent n ws)) x y c.over c.under
              _ _ _ after whole power c.value_is;
        }
      where
        joined : (t p q v d x y o u m w b : ℕ) → m ≡ t + p * v → w ≡ t + p * d → b ≡ p * q → v + y + q * o ≡ d + x + q * u
            → m + p * y + b * o ≡ w + p * x + b * u
        joined t p q v d x y o u m w b f g k e =
            omega (arith, f, g, ap (λ (z : ℕ). p * z) e, ap (λ (z : ℕ). z * o) k, ap (λ (z : ℕ). z * u) k)

  -- p and q go over from a change that is exact, and are added and taken away further on
  changed_carried : (before middle after : List ℕ) (x y p q : ℕ) → length middle ≡ length before
      → value_of B middle + y + p ≡ value_of B before + x + q → Changed B middle after p q → Changed B before after x y
  changed_carried before middle after x y p q l e c = record { over = c.over; under = c.under; value_is = rw (sym l) (omega arith) }

  -- ---- a number of two words, low + B * high, x times added and y times taken away: a and b are stored, o and u go over
  module _ (ws : List ℕ) (x y low high a b o u : ℕ) (h : 2 ≤ length ws) where
    abbrev once : List ℕ
    once = set ws 0 a

    abbrev twice : List ℕ
    twice = set once 1 b

    abbrev number : ℕ
    number = low + B * high

    one_word : B ^ 1 ≡ B
    one_word = pow-succ' B 0 ∙ ap (λ (n : ℕ). B * n) (pow-zero B) ∙ mul-one B

    two_words : B ^ 2 ≡ B * B
    two_words = pow-succ' B 1 ∙ ap (λ (n : ℕ). B * n) one_word

    length_twice : length twice ≡ length ws
    length_twice = simp length-set

    two_in : 2 ≤ length twice
    two_in = rw length_twice h

    module _ (p : a + y * low + B * (x * o) ≡ get_or ws 0 0 + x * low + B * (y * o))
        (q : b + y * (high + o) + B * (x * u) ≡ get_or once 1 0 + x * (high + o) + B * (y * u)) where
      two_stored : value_of B twice + y * number + B ^ 2 * (x * u) ≡ value_of B ws + x * number + B ^ 2 * (y * u)
      two_stored =
          let s : value_of B once + get_or ws 0 0 * 1 ≡ value_of B ws + a * 1 =
          subst (λ (n : ℕ). value_of B once + get_or ws 0 0 * n ≡ value_of B ws + a * n) (pow-zero B) (value_set B ws 0 a (omega arith)) in
          let t : value_of B twice + get_or once 1 0 * B ≡ value_of B once + b * B =
          subst (λ (n : ℕ). value_of B twice + get_or once 1 0 * n ≡ value_of B once + b * n) one_word (value_set B once 1 b (simp length-set h)) in
          rw two_words (omega (arith, s, t, p, ap (λ (z : ℕ). z * B) q))

      pub change_ends : u ≡ 0 → Changed B ws twice (x * number) (y * number)
      change_ends z =
          changed_whole ws twice (x * number) (y * number)
          (omega (arith, rw z at two_stored))

      pub change_goes : (vs : List ℕ) → u ≡ 1 → Changed B (lent 2 twice) vs x y → Changed B ws (back 2 twice vs) (x * number) (y * number)
      change_goes vs z c =
          changed_carried ws twice (back 2 twice vs) (x * number) (y * number) (B ^ 2 * x) (B ^ 2 * y) length_twice
          (omega (arith, rw z at two_stored))
          (changed_part 2 twice vs two_in x y c)

-- ---- a double's units, in two words of 64 bits
-- shifted by less than a word
shifted : (s r : ℕ) → r < 64 → (s * 2 ^ r) % 2 ^ 64 + 2 ^ 64 * (s / 2 / 2 ^ (63 - r)) ≡ s * 2 ^ r
shifted s r h =
    let t : ℕ = 63 - r in
    let whole : 2 ^ 64 ≡ 2 ^ (1 + t) * 2 ^ r = ap (λ (n : ℕ). 2 ^ n) (width r h) ∙ pow-add 2 (1 + t) r in
    let high : s * 2 ^ r / 2 ^ 64 ≡ s / 2 / 2 ^ t =
    ap (λ (n : ℕ). s * 2 ^ r / n) whole ∙ mul-div-mul_right s (2 ^ (1 + t)) (pow_pos r) ∙ sym (shr-shr s 1 t) in
    ap (λ (n : ℕ). (s * 2 ^ r) % 2 ^ 64 + 2 ^ 64 * n) (sym high) ∙ mod-add-div (s * 2 ^ r) (2 ^ 64)
  where
    width : (r : ℕ) → r < 64 → 64 ≡ 1 + (63 - r) + r
    width r h = omega arith

base_power : (k : ℕ) → (2 ^ 64) ^ k ≡ 2 ^ (k * 64)
base_power zero = refl
base_power (suc k) =
    pow-succ' (2 ^ 64) k ∙ ap (λ (n : ℕ). 2 ^ 64 * n) (base_power k) ∙ sym (pow-add 2 64 (k * 64)) ∙ ap (λ (n : ℕ). 2 ^ n) (one_more k)
  where
    one_more : (k : ℕ) → 64 + k * 64 ≡ suc k * 64
    one_more k = omega arith

-- and by whole words
shifted_units : (s e : ℕ)
    → ((s * 2 ^ (e % 64)) % 2 ^ 64 + 2 ^ 64 * (s / 2 / 2 ^ (63 - e % 64))) * (2 ^ 64) ^ (e / 64) ≡ s * 2 ^ e
shifted_units s e =
    let r : ℕ = e % 64 in
    let k : ℕ = e / 64 in
    let low : r < 64 = omega arith in
    ap (λ (n : ℕ). n * (2 ^ 64) ^ k) (shifted s r low)
    ∙ ap (λ (n : ℕ). s * 2 ^ r * n) (base_power k)
    ∙ mul_assoc s (2 ^ r) (2 ^ (k * 64))
    ∙ ap (λ (n : ℕ). s * n) (sym (pow-add 2 r (k * 64)) ∙ ap (λ (n : ℕ). 2 ^ n) (whole e))
  where
    whole : (e : ℕ) → e % 64 + e / 64 * 64 ≡ e
    whole e = omega arith

-- there are two words from e / 64 on, and the high part does not fill its word
pub put_room : (ws : List ℕ) (s e : ℕ) → length ws ≡ count → InRange s e
    → (2 ≤ length (lent (e / 64) ws)) × (s / 2 / 2 ^ (63 - e % 64) < 2 ^ 53)
put_room ws s e l h = (
  simp (length-take, length-drop) (omega arith),
  lt_of_le_of_lt (le_trans (shr_le (s / 2) (63 - e % 64)) (shr_le s 1)) h.0,
)

-- n units with their sign: added, or where b taken away, behind e / 64 words
module _ (ws vs : List ℕ) (s e : ℕ) (h : e / 64 ≤ length ws) where
  abbrev placed : ℕ
  placed = (s * 2 ^ (e % 64)) % base + base * (s / 2 / 2 ^ (63 - e % 64))

  units_placed : base ^ (e / 64) * placed ≡ s * 2 ^ e
  units_placed = mul_comm (base ^ (e / 64)) placed ∙ shifted_units s e

  pub put_units : (b : Bool) → Changed base (lent (e / 64) ws) vs (one_adds b * placed) (one_takes b * placed)
      → Changed base ws (back (e / 64) ws vs) (cond b 0 (s * 2 ^ e)) (cond b (s * 2 ^ e) 0)
  put_units b c =
      subst (λ (n : ℕ). Changed base ws (back (e / 64) ws vs) (cond b 0 n) (cond b n 0)) units_placed
      (signed b (base ^ (e / 64)) placed (changed_part base (e / 64) ws vs h _ _ c))
    where
      signed : (b : Bool) (k n : ℕ) → Changed base ws (back (e / 64) ws vs) (k * (one_adds b * n)) (k * (one_takes b * n))
          → Changed base ws (back (e / 64) ws vs) (cond b 0 (k * n)) (cond b (k * n) 0)
      signed true k n c = record { over = c.over; under = c.under; value_is = omega arith }
      signed false k n c = record { over = c.over; under = c.under; value_is = omega arith }
