-- One double more in a total. In order: a double taken apart, by its worth; two's complement, up to a multiple of the modulus; what `add`
-- does is what it promises; no two results satisfy the promise; what it tells a caller. Not here: words that change (`Changed`).
-- Assumes nothing.
use Rattle.std.proofs.Common.{◌≡◌, ℕ, zero, suc, ◌+◌, ◌*◌, ◌^◌, ◌<◌, ◌≤◌, Bool, true, false, cond, ◌&&◌, List, length, ℤ, pos, negsuc, neg_ℤ, sym, refl, ap, ◌∙◌, ap₂, le_trans, le_of_eq, lt_of_lt_of_le, le_of_lt, arith, leb→le, eq-eqb, ne_eqb}
use lib.Ieee.{Float, binary64}
use lib.Ieee.Scale.{finite, overflow}
use Rattle.whole.proofs.Laws.Parts.{up, dn, up_neg, dn_neg}
use Rattle.refusal.specs.Outcome.{Fixes}
use Rattle.double.specs.Worth.{sign_bit, mag, worth}
use Rattle.double.specs.declared.answer.Parts.{Parts}
use Rattle.double.proofs.Laws.Apart.{Means}
use Rattle.double.proofs.Laws.Units.{Real, mag_lt}
use Rattle.double.proofs.Laws.Worth.{worth_dn}
use Rattle.total.specs.Words.{base, count, modulus, value_of, words_of}
use Rattle.total.specs.Add.{complement, addable, added_of, AddSays}
use Rattle.total.specs.Parts.{Changed, adds_of, takes_of, units_of}
use Rattle.total.proofs.Laws.Words.{Below, value_below, past, words_value, words_own}

-- ---- a double taken apart
-- the two parts of a number with a sign
signed_parts : (b : Bool) (n : ℕ) → (up (cond b (neg_ℤ (pos n)) (pos n)) ≡ cond b 0 n) × (dn (cond b (neg_ℤ (pos n)) (pos n)) ≡ cond b n 0)
unfolding up dn
signed_parts true n = (up_neg (pos n), dn_neg (pos n))
signed_parts false n = (refl, refl)

pub changed_worth : (ws after : List ℕ) (x : Float) (p : Parts) → Means x p → Changed base ws after (adds_of p) (takes_of p)
    → Changed base ws after (up (worth x)) (dn (worth x))
changed_worth ws after x p m c =
    let (above, below) = signed_parts p.negative (units_of p) in
    rw (m.worth_is, above, below) c

-- ---- two's complement
complement_parts : (z : ℤ) → dn z ≤ modulus → (u : ℕ) × (complement z + dn z ≡ up z + modulus * u)
unfolding up dn
complement_parts (pos n) h = (0, omega arith)
complement_parts (negsuc n) h = (1, omega arith)

-- no double reaches the modulus
worth_within : (x : Float) → Real binary64 x → dn (worth x) ≤ modulus
unfolding modulus
worth_within x r =
    le_trans (le_of_eq (worth_dn x))
    (le_trans (either (sign_bit x) (mag binary64 x))
    (le_trans (le_of_lt (mag_lt binary64 x r)) (leb→le (overflow binary64) (base ^ count) tt)))
  where
    either : (s : Bool) (n : ℕ) → cond s n 0 ≤ n
    either true n = omega arith
    either false n = omega arith

-- w is v but for a multiple of m
wrapped : (m v w n k : ℕ) → w < m → v + m * n ≡ w + m * k → (q : ℕ) × (w + m * q ≡ v)
wrapped m v w zero k h e = (k, omega arith)
wrapped m v w (suc n) zero h e = let z : ⊥ = omega arith in absurd z
wrapped m v w (suc n) (suc k) h e = wrapped m v w n k h (omega arith)

-- ---- what `add` does
-- the words after it, by whether the double can be added
abbrev after_it_lem : List ℕ → Float → Bool → List ℕ
after_it_lem ws x b = cond b (words_of count (value_of base ws + complement (worth x))) ws

pub says_added : (ws after : List ℕ) (x : Float) → addable ws x ≡ true → Real binary64 x → length ws ≡ count → length after ≡ length ws
    → Below base after → Changed base ws after (up (worth x)) (dn (worth x)) → AddSays ws x true after
unfolding added_of
says_added ws after x e r l k b c =
    let v : ℕ = value_of base ws + complement (worth x) in
    let (u, f) = complement_parts (worth x) (worth_within x r) in
    let g = rw (past (length ws) l) at c.value_is in
    let (q, h) = wrapped modulus v (value_of base after) c.under (c.over + u)
    (lt_of_lt_of_le (value_below base after b) (le_of_eq (past (length after) (k ∙ l))))
    (both (value_of base after) (value_of base ws) (up (worth x)) (dn (worth x)) (complement (worth x)) modulus c.over c.under u g f) in
    let own : words_of (length after) v ≡ after =
    words_own after b q v (ap (λ (m : ℕ). value_of base after + m * q) (past (length after) (k ∙ l)) ∙ h) in
    record {
      answer = sym e;
      words = sym (ap (after_it_lem ws x) e ∙ ap (λ (n : ℕ). words_of n v) (sym (k ∙ l)) ∙ own);
    }
  where
    both : (w v a d c m o n u : ℕ) → w + d + m * o ≡ v + a + m * n → c + d ≡ a + m * u → v + c + m * n ≡ w + m * (o + u)
    both w v a d c m o n u e f = omega arith

pub says_left : (ws : List ℕ) (x : Float) → addable ws x ≡ false → AddSays ws x false ws
unfolding added_of
says_left ws x e = record { answer = sym e; words = sym (ap (after_it_lem ws x) e) }

-- when a double can be added
pub addable_not : (ws : List ℕ) (x : Float) → (length ws ≡ count → ⊥) → addable ws x ≡ false
addable_not ws x h = ap (λ (t : Bool). t && finite x) (ne_eqb (length ws) count h)

pub addable_is : (ws : List ℕ) (x : Float) → length ws ≡ count → addable ws x ≡ finite x
addable_is ws x l = ap (λ (t : Bool). t && finite x) (eq-eqb (length ws) count l)

-- ---- no two results satisfy the promise
pub add_fixed : (ws : List ℕ) (x : Float) → Fixes (λ (o : Bool × List ℕ). AddSays ws x o.0 o.1)
add_fixed ws x a b p q = ap₂ (λ (r : Bool) (after : List ℕ). (r, after)) (p.answer ∙ sym q.answer) (p.words ∙ sym q.words)

-- ---- what the promise tells a caller
pub add_leaves : (ws after : List ℕ) (x : Float) → AddSays ws x false after → after ≡ ws
unfolding added_of
add_leaves ws after x p = p.words ∙ ap (after_it_lem ws x) (sym p.answer)

-- with 33 words
module _ (ws after : List ℕ) (x : Float) (r : Bool) (l : length ws ≡ count) (p : AddSays ws x r after) where
  pub add_finite : finite x ≡ r
  add_finite = sym (p.answer ∙ addable_is ws x l)

  -- the words have changed by the worth of what was added
  pub add_changes : r ≡ true → Real binary64 x → Changed base ws after (up (worth x)) (dn (worth x))
  unfolding added_of
  add_changes t d =
      let v : ℕ = value_of base ws + complement (worth x) in
      let (u, f) = complement_parts (worth x) (worth_within x d) in
      let (q, h) = words_value (length ws) v in
      let e : after ≡ words_of (length ws) v =
      p.words ∙ ap (after_it_lem ws x) (sym p.answer ∙ t) ∙ ap (λ (n : ℕ). words_of n v) (sym l) in
      record {
        over = q;
        under = u;
        value_is =
            both (value_of base after) (value_of base ws) (up (worth x)) (dn (worth x)) (complement (worth x)) (base ^ length ws) q u
            (ap (λ (us : List ℕ). value_of base us + base ^ length ws * q) e ∙ h)
            (f ∙ ap (λ (m : ℕ). up (worth x) + m * u) (sym (past (length ws) l)));
      }
    where
      both : (w v a d c m o u : ℕ) → w + m * o ≡ v + c → c + d ≡ a + m * u → w + d + m * o ≡ v + a + m * u
      both w v a d c m o u e f = omega arith
