-- The sign that words hold. In order, by any base B: the highest word decides, and words that are 0 tell nothing; then the sign that 33
-- words of 64 bits hold. Not here: what words are worth (`total`). Assumes nothing.
use mathlib.Core.Path.{◌≡◌, refl, sym, ap, ◌∙◌, subst}
use mathlib.Core.Bool.{Bool, cond, ◌&&◌}
use mathlib.Core.List.{List, [], ◌∷◌}
use Prim.Native.Nat.{ℕ, zero, suc, ◌+◌, ◌-◌, ◌*◌, ◌^◌, ◌≤◌, ◌<◌}
use native.Mathlib.Nat.{mul-le-mul_left, lt_of_lt_of_le, le_of_eq}
use native.Mathlib.Omega.{arith}
use lib.Dec.{eqb}
use lib.ListN.{length, get_or, take, drop_of_length-le}
use lib.Seq.{drop-cons, length-take-le, get_or-take}
use borrow.Author.Tests.{le-leb, lt-leb, eq-eqb, ne_eqb}
use Rattle.std.specs.List.{list_all}
use Rattle.total.specs.Words.{base, count, modulus, value_of}
use Rattle.total.proofs.Laws.Words.{Below, value_split, value_below, past}
use Rattle.sum.specs.Words.{half, sign_held}
use Rattle.sum.specs.declared.answer.Sign.{Sign}
use Rattle.sum.specs.declared.answer.Sign.TheVariants.{Minus, Zero, Plus}

module _ (B : ℕ) where
  -- the highest word decides between multiples of its power
  module _ (n : ℕ) (ws : List ℕ) (e : length ws ≡ suc n) (h : Below B ws) where
    rest_below : value_of B (take n ws) < B ^ n
    rest_below =
        let l : length (take n ws) ≡ n = length-take-le n ws (omega arith) in
        subst (λ (k : ℕ). value_of B (take n ws) < B ^ k) l
        (value_below B (take n ws) (λ k g. let i : k < n = omega (arith, l) in rw (get_or-take n ws k 0 i) (h k (omega arith))))

    value_top : value_of B ws ≡ value_of B (take n ws) + B ^ n * get_or ws n 0
    unfolding value_of
    value_top =
        value_split B n ws (omega arith)
        ∙ ap (λ (v : List ℕ). value_of B (take n ws) + B ^ n * value_of B v)
        (drop-cons ws n 0 (omega arith) ∙ ap (λ (v : List ℕ). get_or ws n 0 ∷ v) (drop_of_length-le ws {i = suc n} (omega arith)))
        ∙ alone (value_of B (take n ws)) (B ^ n) (get_or ws n 0)
      where
        alone : (v p w : ℕ) → v + p * (w + B * 0) ≡ v + p * w
        alone v p w = omega arith

    pub value_from : (t : ℕ) → t ≤ get_or ws n 0 → B ^ n * t ≤ value_of B ws
    value_from t l = omega (arith, value_top, mul-le-mul_left (B ^ n) l)

    pub value_under : (t : ℕ) → get_or ws n 0 < t → value_of B ws < B ^ n * t
    value_under t l = omega (arith, value_top, rest_below, mul-le-mul_left (B ^ n) l)

  -- words are worth 0 where each is 0
  pub value_zero : 0 < B → (ws : List ℕ) → eqb (value_of B ws) 0 ≡ list_all (λ w. eqb w 0) ws
  unfolding value_of
  value_zero p [] = refl
  value_zero p (w ∷ ws) = both w (value_of B ws) ∙ ap (λ (b : Bool). eqb w 0 && b) (value_zero p ws)
    where
      both : (w v : ℕ) → eqb (w + B * v) 0 ≡ (eqb w 0 && eqb v 0)
      both zero zero = eq-eqb (0 + B * 0) 0 (omega arith)
      both zero (suc v) = ne_eqb (0 + B * suc v) 0 (λ z. let n : ⊥ = omega arith in n) ∙ sym (ne_eqb (suc v) 0 (λ z. omega arith))
      both (suc w) v =
          ne_eqb (suc w + B * v) 0 (λ z. let n : ⊥ = omega arith in n)
          ∙ ap (λ (b : Bool). b && eqb v 0) (sym (ne_eqb (suc w) 0 (λ z. omega arith)))

-- ---- the sign that the words hold
-- by whether the total is from half the modulus on
abbrev sign_by : ℕ → Bool → Sign
sign_by v b = cond b Minus (cond (eqb v 0) Zero Plus)

module _ (ws : List ℕ) (e : length ws ≡ count) (b : Below base ws) where
  pub held_below : value_of base ws < modulus
  held_below = lt_of_lt_of_le (value_below base ws b) (le_of_eq (past (length ws) e))

  pub held_minus : 2 ^ 63 ≤ get_or ws (count - 1) 0 → Minus ≡ sign_held (value_of base ws)
  unfolding half sign_held
  held_minus h = sym (ap (sign_by (value_of base ws)) (le-leb half (value_of base ws) (value_from base (count - 1) ws e b (2 ^ 63) h)))

  -- the top bit is clear
  pub held_other : get_or ws (count - 1) 0 < 2 ^ 63 → (z : Bool) → z ≡ list_all (λ w. eqb w 0) ws → cond z Zero Plus ≡ sign_held (value_of base ws)
  unfolding half sign_held
  held_other h z g =
      sym
      (ap (sign_by (value_of base ws)) (lt-leb half (value_of base ws) (value_under base (count - 1) ws e b (2 ^ 63) h))
      ∙ ap (λ (t : Bool). cond t Zero Plus) (value_zero base (omega arith) ws ∙ sym g))
