-- The greater of two magnitudes, as a double. In order: what makes X the greater magnitude of a and b, and its grain and bound; the
-- magnitude by a comparison with 0, and the greater by one of two; the test for zero. Not here: which of the two zeros it is, where both
-- are zero. Assumes nothing.
use mathlib.Core.Path.{◌≡◌, refl, sym, ap, ◌∙◌, subst}
use mathlib.Core.Bool.{Bool, true, false, not, cond}
use mathlib.Core.Logic.{◌⊎◌, inl, inr, ◌↔◌}
use Prim.Native.Nat.{ℕ, ◌+◌, ◌^◌, ◌≤◌, ◌<◌, ◌∣◌}
use native.Mathlib.Nat.{le_trans, le_of_eq, le_of_lt, lt_irrefl, add-zero}
use native.Mathlib.Omega.{arith}
use lib.Dec.{T, ltb, eqb, ltb→lt, nltb→le, eqb→eq}
use lib.Ieee.Fits.{eq→eqb}
use lib.Ieee.{Float, binary64, neg, lt, eq, of_bits}
use Rattle.double.specs.Worth.{sign_bit, mag, plus, minus}
use Rattle.double.proofs.Laws.Units.{Real}
use Rattle.double.proofs.Laws.Compare.{eq_is}
use Rattle.double.proofs.Laws.Signed.{Split, neg_own, part_both, lt_split}
use Rattle.double.proofs.Laws.Zero.{plus_zero, zero_real, lt_negative}
use Rattle.double.proofs.Laws.Sized.{Sized, Sided, split_mag}
use Rattle.point.specs.Accepted.{magnitude_of}
use Rattle.side_filter.specs.Filter.{greater}

-- ---- X is the greater magnitude of a and b
pub record Greater (X a b : Float) : Type 0 where
  pub real : Real binary64 X
  pub side : minus binary64 X ≡ 0
  pub first : mag binary64 a ≤ mag binary64 X
  pub second : mag binary64 b ≤ mag binary64 X
  pub one : (mag binary64 X ≡ mag binary64 a) ⊎ (mag binary64 X ≡ mag binary64 b)

pub greater_sided : (g b : ℕ) {X u v : Float} → Sized g b u → Sized g b v → Greater X u v → Sided false g b X (mag binary64 X)
greater_sided g b {X} ru rv G = record {
  split = record {
    real = G.real;
    same = sym (sym (part_both false binary64 X) ∙ ap (λ (n : ℕ). plus binary64 X + n) G.side ∙ add-zero (plus binary64 X));
    other = G.side;
  };
  grain = elim G.one [
    | inl e ↦ subst (λ (n : ℕ). 2 ^ g ∣ n) (sym e) ru.grain
    | inr e ↦ subst (λ (n : ℕ). 2 ^ g ∣ n) (sym e) rv.grain
  ];
  most = elim G.one [ inl e ↦ le_trans (le_of_eq e) ru.most | inr e ↦ le_trans (le_of_eq e) rv.most ];
}

-- by comparisons: with 0, and of two
magnitude_split : (x : Float) → Real binary64 x → Split false binary64 (magnitude_of x) (mag binary64 x) 0
unfolding magnitude_of of_bits
magnitude_split x r = by (lt x plus_zero) (lt_negative binary64 x r)
  where
    negative : (s : Bool) (n : ℕ) → 0 < cond s n 0 → s ≡ true
    negative true n h = refl
    negative false n h = absurd (lt_irrefl 0 h)

    by : (c : Bool) → c ≡ ltb 0 (minus binary64 x) → Split false binary64 (cond c (neg x) x) (mag binary64 x) 0
    by true e = neg_own false binary64 x r (negative (sign_bit x) (mag binary64 x) (ltb→lt 0 (minus binary64 x) (subst T e tt)))
    by false e =
        let z = nltb→le 0 (minus binary64 x) (subst (λ (c : Bool). T (not c)) e tt) in
        record {
          real = r;
          same = rest (plus binary64 x) (minus binary64 x) (mag binary64 x) (part_both false binary64 x) z;
          other = none (minus binary64 x) z;
        }
      where
        rest : (p m n : ℕ) → p + m ≡ n → m ≤ 0 → p ≡ n
        rest p m n e z = omega arith

        none : (m : ℕ) → m ≤ 0 → m ≡ 0
        none m z = omega arith

pub greater_of : (a b : Float) → Real binary64 a → Real binary64 b → Greater (greater (magnitude_of a) (magnitude_of b)) a b
greater_of a b ra rb =
    by (lt (magnitude_of a) (magnitude_of b)) (lt_split false binary64 (magnitude_of a) (magnitude_of b) (mag binary64 a) (mag binary64 b) A B)
  where
    A : Split false binary64 (magnitude_of a) (mag binary64 a) 0
    A = magnitude_split a ra

    B : Split false binary64 (magnitude_of b) (mag binary64 b) 0
    B = magnitude_split b rb

    by : (c : Bool) → c ≡ ltb (mag binary64 a) (mag binary64 b) → Greater (cond c (magnitude_of b) (magnitude_of a)) a b
    by true e =
        let l = ltb→lt (mag binary64 a) (mag binary64 b) (subst T e tt) in
        let m = split_mag B in
        record {
          real = B.real;
          side = B.other;
          first = le_trans (le_of_lt l) (le_of_eq (sym m));
          second = le_of_eq (sym m);
          one = inr m;
        }
    by false e =
        let l = nltb→le (mag binary64 a) (mag binary64 b) (subst (λ (c : Bool). T (not c)) e tt) in
        let m = split_mag A in
        record {
          real = A.real;
          side = A.other;
          first = le_of_eq (sym m);
          second = le_trans l (le_of_eq (sym m));
          one = inl m;
        }

-- ---- a double compares equal to 0.0 where its magnitude is 0
pub zero_test : (x : Float) → Real binary64 x → T (eq x plus_zero) ↔ (mag binary64 x ≡ 0)
zero_test x r =
    let e : eq x plus_zero ≡ eqb (plus binary64 x + 0) (0 + minus binary64 x) = eq_is binary64 x plus_zero r (zero_real binary64) in (
      (λ t. none (sign_bit x) (mag binary64 x) (eqb→eq (plus binary64 x + 0) (0 + minus binary64 x) (subst T e t))),
      (λ z. subst T (sym e) (eq→eqb (zeros (plus binary64 x) (minus binary64 x) (mag binary64 x) (part_both false binary64 x) z))),
    )
  where
    none : (s : Bool) (n : ℕ) → cond s 0 n + 0 ≡ 0 + cond s n 0 → n ≡ 0
    none true n e = omega arith
    none false n e = omega arith

    zeros : (p m n : ℕ) → p + m ≡ n → n ≡ 0 → p + 0 ≡ 0 + m
    zeros p m n e z = omega arith
