-- The plain sum. In order: what the entries done so far add and take away, each below a bound, and the words that hold it; before the
-- first entry; one entry more; after the last, the sign of the words is the sign of the total; no two results satisfy the promise.
-- Not here: words (`Words`, and the crate `total`); refusals (`Refused`). Assumes nothing.
use mathlib.Core.Path.{◌≡◌, refl, sym, ap, ◌∙◌}
use mathlib.Core.Logic.{◌⊎◌, inl, inr}
use mathlib.Core.Bool.{Bool, true, false, cond}
use mathlib.Core.List.{List}
use Prim.Native.Nat.{ℕ, zero, suc, ◌+◌, ◌*◌, ◌^◌, ◌≤◌, ◌<◌}
use native.Mathlib.Nat.{le_trans, le_of_eq, le_of_lt, lt_of_le_of_lt, mul-le-mul_right, eq-zero-or-pos}
use native.Mathlib.Numerals.{add-one}
use native.Mathlib.Omega.{arith}
use lib.Dec.{leb, eqb, ltb→lt}
use lib.IntN.{ℤ, pos, neg_ℤ, ◌+ℤ◌, ◌-ℤ◌}
use lib.ListN.{length, get_or, drop, drop_of_length-le}
use lib.Seq.{drop-cons}
use lib.Ieee.{Float, nan, binary64}
use borrow.Author.Tests.{le-leb, lt-leb, eq-eqb, ne_eqb}
use Rattle.whole.specs.Sign.{sgn}
use Rattle.whole.proofs.Laws.Parts.{up, dn, up_neg, dn_neg, add_parts, ≡_parts}
use Rattle.whole.proofs.Laws.Sign.{sgn_nat_positive, sgn_nat_zero, sgn_nat_negative}
use Rattle.refusal.specs.Outcome.{Fixes}
use Rattle.refusal.proofs.Laws.Outcome.{outcome_once}
use Rattle.double.specs.Worth.{sign_bit, mag, worth}
use Rattle.double.proofs.Laws.Units.{Real, mag_lt}
use Rattle.double.proofs.Laws.Worth.{worth_up, worth_dn}
use Rattle.total.specs.Words.{base, count, modulus, value_of}
use Rattle.total.specs.Parts.{Changed}
use Rattle.total.proofs.Laws.Words.{past}
use Rattle.sum.specs.Limit.{limit}
use Rattle.sum.specs.Total.{total_of, sign_number}
use Rattle.sum.specs.Plain.{plain_said, PlainSays}
use Rattle.sum.specs.Words.{half, sign_held}
use Rattle.sum.proofs.Laws.Look.{sign_once}
use Rattle.sum.specs.declared.answer.Sign.TheVariants.{Minus, Zero, Plus}
use Rattle.refusal.specs.declared.Refusal.{Refusal}
use Rattle.sum.specs.declared.answer.Sign.{Sign}
use Rattle.std.specs.Prelude.{Result}

-- ---- the entries done so far
-- no entry has as many units. Shut, as the modulus is.
pub most : ℕ
most = 2 ^ 2098

-- of xs, i entries are done: what they add and take away is within bounds, the words hold it, and with the rest it is the total
pub record Held (xs : List Float) (i : ℕ) (ws : List ℕ) : Type 0 where
  pub added : ℕ
  pub taken : ℕ
  pub added_most : added ≤ i * most
  pub taken_most : taken ≤ i * most
  pub over : ℕ
  pub under : ℕ
  pub held : value_of base ws + taken + modulus * over ≡ added + modulus * under
  pub whole : up (total_of xs) + (dn (total_of (drop i xs)) + taken) ≡ dn (total_of xs) + (up (total_of (drop i xs)) + added)

pub held_start : (xs : List Float) (ws : List ℕ) → value_of base ws ≡ 0 → Held xs 0 ws
held_start xs ws e = record {
  added = 0;
  taken = 0;
  added_most = omega arith;
  taken_most = omega arith;
  over = 0;
  under = 0;
  held = omega arith;
  whole = omega arith;
}

-- ---- one entry more
-- either part of a worth is at most the magnitude
worth_most : (x : Float) → Real binary64 x → (up (worth x) ≤ most) × (dn (worth x) ≤ most)
unfolding most
worth_most x r =
    let small = le_of_lt (mag_lt binary64 x r) in
    let each = signed_most (sign_bit x) (mag binary64 x) in
    (le_trans (le_of_eq (worth_up x)) (le_trans each.0 small), le_trans (le_of_eq (worth_dn x)) (le_trans each.1 small))
  where
    signed_most : (b : Bool) (n : ℕ) → (cond b 0 n ≤ n) × (cond b n 0 ≤ n)
    signed_most true n = (omega arith, omega arith)
    signed_most false n = (omega arith, omega arith)

total_next : (xs : List Float) (i : ℕ) → i < length xs → total_of (drop i xs) ≡ worth (get_or xs i nan) +ℤ total_of (drop (i + 1) xs)
unfolding total_of
total_next xs i h = ap total_of (drop-cons xs i nan h) ∙ ap (λ (k : ℕ). worth (get_or xs i nan) +ℤ total_of (drop k xs)) (sym (add-one i))

-- t is the total, d what is left of it, r what is left after the entry, which adds a and takes b away
whole_next : (ut dt ud dd ur dr a b x y : ℕ) → ut + (dd + y) ≡ dt + (ud + x) → ud + (b + dr) ≡ dd + (a + ur)
    → ut + (dr + (y + b)) ≡ dt + (ur + (x + a))
whole_next ut dt ud dd ur dr a b x y e f = omega arith

most_next : (i x a : ℕ) → x ≤ i * most → a ≤ most → x + a ≤ (i + 1) * most
most_next i x a h k = omega arith

-- v is held before, w after
changed_held : (m v w a b x y o u l r : ℕ) → w + b + m * o ≡ v + a + m * u → v + y + m * l ≡ x + m * r
    → w + (y + b) + m * (l + o) ≡ x + a + m * (r + u)
changed_held m v w a b x y o u l r e f = omega arith

pub held_next : (xs : List Float) (i : ℕ) (ws after : List ℕ) → i < length xs → Real binary64 (get_or xs i nan)
    → length ws ≡ count → Changed base ws after (up (worth (get_or xs i nan))) (dn (worth (get_or xs i nan)))
    → Held xs i ws → Held xs (i + 1) after
held_next xs i ws after h d l s r =
    let w : ℤ = worth (get_or xs i nan) in
    let left : ℤ = total_of (drop i xs) in
    let rest : ℤ = total_of (drop (i + 1) xs) in
    let parts : up left + (dn w + dn rest) ≡ dn left + (up w + up rest) = rw (total_next xs i h) (add_parts w rest) in
    let small = worth_most (get_or xs i nan) d in
    record {
      added = r.added + up w;
      taken = r.taken + dn w;
      added_most = most_next i r.added (up w) r.added_most small.0;
      taken_most = most_next i r.taken (dn w) r.taken_most small.1;
      over = r.over + s.over;
      under = r.under + s.under;
      held = changed_held modulus _ _ _ _ _ _ _ _ _ _ (rw (past (length ws) l) at s.value_is) r.held;
      whole = whole_next _ _ _ _ _ _ _ _ _ _ r.whole parts;
    }

-- ---- after the last entry
-- x is added and y taken away, each below half the modulus: v holds the difference as it is, or from above
module _ (v x y : ℕ) (b : v < modulus) (h : x < half) (g : y < half) where
  halves : modulus ≡ half + half
  unfolding modulus half
  halves = refl

  no_wrap : (l r : ℕ) → v + y + modulus * l ≡ x + modulus * r → (v + y ≡ x) ⊎ (v + y ≡ x + modulus)
  no_wrap zero zero e = inl (omega arith)
  no_wrap zero (suc zero) e = inr (omega arith)
  no_wrap zero (suc (suc r)) e = let z : ⊥ = omega (arith, halves) in absurd z
  no_wrap (suc l) zero e = let z : ⊥ = omega (arith, halves) in absurd z
  no_wrap (suc l) (suc r) e = no_wrap l r (omega arith)

  -- the words' sign, by the two tests that it is made of
  sign_is : (m z : Bool) → leb half v ≡ m → eqb v 0 ≡ z → sign_held v ≡ cond m Minus (cond z Zero Plus)
  unfolding sign_held
  sign_is m z e f =
      ap (λ (t : Bool). cond t Minus (cond (eqb v 0) Zero Plus)) e ∙ ap (λ (t : Bool). cond m Minus (cond t Zero Plus)) f

  difference : ℤ
  difference = pos x -ℤ pos y

  from_above : v + y ≡ x + modulus → sign_number (sign_held v) ≡ sgn difference
  unfolding difference
  from_above e =
      let up_there : half ≤ v = omega (arith, halves) in
      let less : x < y = omega arith in
      ap sign_number (sign_is true (eqb v 0) (le-leb half v up_there) refl) ∙ sym ((sgn_nat_negative x y).1 less)

  as_it_is : v + y ≡ x → sign_number (sign_held v) ≡ sgn difference
  unfolding difference
  as_it_is e = elim (eq-zero-or-pos v) [
    | inl z ↦
        let same : x ≡ y = omega arith in
        ap sign_number (sign_is false true low (eq-eqb v 0 z)) ∙ sym ((sgn_nat_zero x y).1 same)
    | inr l ↦
        let more : y < x = omega arith in
        ap sign_number (sign_is false false low (ne_eqb v 0 (λ z. let w : ⊥ = omega arith in w))) ∙ sym ((sgn_nat_positive x y).1 more)
  ]
    where
      low : leb half v ≡ false
      low = lt-leb half v (omega arith)

  sign_held_lem : (l r : ℕ) → v + y + modulus * l ≡ x + modulus * r → sign_number (sign_held v) ≡ sgn difference
  sign_held_lem l r s = elim (no_wrap l r s) [ inl e ↦ as_it_is e | inr e ↦ from_above e ]

-- a whole number is the difference of what is added and what is taken away
difference_is : (t : ℤ) (x y : ℕ) → up t + y ≡ dn t + x → t ≡ pos x -ℤ pos y
unfolding up dn
difference_is t x y e =
    (≡_parts t (pos x -ℤ pos y)).1 (omega (arith, add_parts (pos x) (neg_ℤ (pos y)), up_neg (pos y), dn_neg (pos y)))

-- of at most 1,024 entries no total reaches half the modulus
limit_below : limit * most < half
unfolding most half
limit_below = ltb→lt (limit * most) half tt

pub held_sign : (xs : List Float) (i : ℕ) (ws : List ℕ) → length xs ≤ i → i ≤ limit → value_of base ws < modulus → Held xs i ws
    → sign_number (sign_held (value_of base ws)) ≡ sgn (total_of xs)
unfolding total_of up dn difference
held_sign xs i ws h l b r =
    let below : (n : ℕ) → n ≤ i * most → n < half = λ n k. lt_of_le_of_lt (le_trans k (mul-le-mul_right most l)) limit_below in
    let none = ap total_of (drop_of_length-le xs h) in
    let whole : up (total_of xs) + r.taken ≡ dn (total_of xs) + r.added =
    no_rest _ _ _ _ _ _ r.whole (ap up none) (ap dn none) in
    sign_held_lem (value_of base ws) r.added r.taken b (below r.added r.added_most) (below r.taken r.taken_most) r.over
    r.under r.held
    ∙ ap sgn (sym (difference_is (total_of xs) r.added r.taken whole))
  where
    no_rest : (u d v e x y : ℕ) → u + (e + y) ≡ d + (v + x) → v ≡ 0 → e ≡ 0 → u + y ≡ d + x
    no_rest u d v e x y h a b = omega arith

-- ---- no two results satisfy the promise
pub plain_fixed : (xs : List Float) → Fixes (λ (r : Result Sign Refusal). PlainSays xs r)
unfolding plain_said
plain_fixed xs a b p q = outcome_once sign_number sign_once a b (p ∙ sym q)
