-- The filter of a difference of two products, in numbers. A, B, C, D are exact differences in units, a, b, c, d those rounded, X at least
-- a and c, Y at least b and d; L units make one. The rounded products of a * d and b * c are each within 7 / 2 ^ 54 of X * Y of the exact
-- ones, and E, X * Y times a constant of at least 8 / 2 ^ 53, each product rounded, is at least 7.9 / 2 ^ 53 of X * Y. So where the
-- rounded difference of the rounded products is above E, the exact difference is above 0. In order: a product of two rounded numbers; the
-- difference of two such; what E is worth; numbers with a sign; the filter. Not here: the floats (`Threshold`). Assumes nothing.
use mathlib.Core.Path.{◌≡◌, refl, sym, ap, ap₂, ◌∙◌, subst}
use mathlib.Core.Bool.{Bool, true, false, cond}
use Prim.Native.Nat.{ℕ, ◌+◌, ◌-◌, ◌*◌, ◌^◌, ◌≤◌, ◌<◌}
use native.Mathlib.Nat.{le_trans, le_of_eq, le_of_lt, add-mul, mul-add, add_comm, mul_comm, mul_assoc, mul_right_comm, mul-sub, mul-pos}
use native.Mathlib.Nat.{mul-le-mul, mul-le-mul_left, mul-le-mul_right, le_of_mul-le-mul_right, zero-mul, zero-lt-suc}
use native.Mathlib.Omega.{arith}
use Rattle.double.proofs.Laws.Digits.{gap}
use Rattle.double.proofs.Laws.Rounding.{rn, rn_error, rn_error_of}

sub_mul : (x y l : ℕ) → (x - y) * l ≡ x * l - y * l
sub_mul x y l = mul_comm (x - y) l ∙ mul-sub l x y ∙ ap₂ (λ (x y : ℕ). x - y) (mul_comm l x) (mul_comm l y)

-- ---- a product of two rounded numbers, d and e the errors of a and b
product_above : (A B a b d e : ℕ) → A ≤ a + d → B ≤ b + e → A * B ≤ a * b + (a * e + d * b + d * e)
product_above A B a b d e h k =
    le_trans (mul-le-mul h k)
    (le_of_eq (add-mul a d (b + e) ∙ ap₂ (λ (v w : ℕ). v + w) (mul-add a b e) (mul-add d b e) ∙ re (a * b) (a * e) (d * b) (d * e)))
  where
    re : (w x y z : ℕ) → w + x + (y + z) ≡ w + (x + y + z)
    re w x y z = omega arith

product_below : (A B a b d e : ℕ) → a ≤ A + d → b ≤ B + e → A ≤ a + d → a * b ≤ A * B + (a * e + d * b + d * e)
product_below A B a b d e h k l =
    let one : a * b ≤ A * b + d * b = le_trans (mul-le-mul_right b h) (le_of_eq (add-mul A d b)) in
    let two : A * b ≤ A * B + A * e = le_trans (mul-le-mul_left A k) (le_of_eq (mul-add A B e)) in
    let three : A * e ≤ a * e + d * e = le_trans (mul-le-mul_right e l) (le_of_eq (add-mul a d e)) in
    omega arith

-- the three error terms are at most 5 / 2 ^ 54 of a * b
error_terms : (a b d e : ℕ) → d * 2 ^ 53 ≤ a → e * 2 ^ 53 ≤ b → (a * e + d * b + d * e) * 2 ^ 54 ≤ 5 * (a * b)
error_terms a b d e h k =
    let x : a * e * 2 ^ 53 ≤ a * b = le_trans (le_of_eq (mul_assoc a e (2 ^ 53))) (mul-le-mul_left a k) in
    let y : d * b * 2 ^ 53 ≤ a * b = le_trans (le_of_eq (mul_right_comm d b (2 ^ 53))) (mul-le-mul_right b h) in
    let z : d * e * 2 ^ 53 ≤ d * b = le_trans (le_of_eq (mul_assoc d e (2 ^ 53))) (mul-le-mul_left d k) in
    omega arith

-- P is a * b rounded, in units
product_error : (A B a b Q P L S : ℕ) → gap a A * 2 ^ 53 ≤ a → gap b B * 2 ^ 53 ≤ b → a * b ≡ Q * L → gap P Q * 2 ^ 53 ≤ Q → a * b ≤ S
    → gap (A * B) (P * L) * 2 ^ 54 ≤ 7 * S
product_error A B a b Q P L S h k q r s =
    let d = gap a A in
    let e = gap b B in
    let u = product_above A B a b d e (omega arith) (omega arith) in
    let v = product_below A B a b d e (omega arith) (omega arith) (omega arith) in
    let t = error_terms a b d e h k in
    let g : gap (P * L) (Q * L) ≡ gap P Q * L =
    sym (add-mul (P - Q) (Q - P) L ∙ ap₂ (λ (v w : ℕ). v + w) (sub_mul P Q L) (sub_mul Q P L)) in
    let w : gap (P * L) (Q * L) * 2 ^ 53 ≤ Q * L =
    le_trans (le_of_eq (ap (λ (z : ℕ). z * 2 ^ 53) g ∙ mul_right_comm (gap P Q) L (2 ^ 53))) (mul-le-mul_right L r) in
    last (A * B) (a * b) (Q * L) (P * L) (a * e + d * b + d * e) S u v t q w s
  where
    close : (T c R W E F : ℕ) → T ≤ c + E → c ≤ T + E → c ≡ R → W ≤ R + F → R ≤ W + F → gap T W ≤ E + F
    close T c R W E F a b q m n = omega arith

    sum : (c R E F S : ℕ) → E * 2 ^ 54 ≤ 5 * c → c ≡ R → F * 2 ^ 53 ≤ R → c ≤ S → (E + F) * 2 ^ 54 ≤ 7 * S
    sum c R E F S t q w s = omega arith

    far : (x y : ℕ) → (x ≤ y + gap x y) × (y ≤ x + gap x y)
    far x y = omega arith

    last : (T c R W E S : ℕ) → T ≤ c + E → c ≤ T + E → E * 2 ^ 54 ≤ 5 * c → c ≡ R → gap W R * 2 ^ 53 ≤ R → c ≤ S → gap T W * 2 ^ 54 ≤ 7 * S
    last T c R W E S a b t q w s =
        let f = far W R in
        le_trans (mul-le-mul_right (2 ^ 54) (close T c R W E (gap W R) a b q f.0 f.1)) (sum c R E (gap W R) S t q w s)

-- ---- the difference of two such: T1 - T2 exact, V1 - V2 rounded, each by its plus and minus part
difference_positive : (S d T1p T1n T2p T2n V1p V1n V2p V2n : ℕ)
    → (gap T1p V1p + gap T1n V1n) * 2 ^ 54 ≤ 7 * S → (gap T2p V2p + gap T2n V2n) * 2 ^ 54 ≤ 7 * S
    → V1p + V2n ≡ d + (V1n + V2p) → 0 < d → 15 * S ≤ d * 2 ^ 54 → T1n + T2p < T1p + T2n
difference_positive S d T1p T1n T2p T2n V1p V1n V2p V2n a b e p h =
    let g : ℕ = gap T1p V1p + gap T1n V1n in
    let k : ℕ = gap T2n V2n + gap T2p V2p in
    last g k (shift T1p V1p T1n V1n) (shift T2n V2n T2p V2p)
    (less g k d S a (le_trans (le_of_eq (ap (λ (z : ℕ). z * 2 ^ 54) (add_comm (gap T2n V2n) (gap T2p V2p)))) b) h p)
  where
    shift : (Tp Vp Tn Vn : ℕ) → Vp + Tn ≤ Tp + Vn + (gap Tp Vp + gap Tn Vn)
    shift Tp Vp Tn Vn = omega arith

    less : (g k d S : ℕ) → g * 2 ^ 54 ≤ 7 * S → k * 2 ^ 54 ≤ 7 * S → 15 * S ≤ d * 2 ^ 54 → 0 < d → g + k < d
    less g k d S a b h p = omega arith

    last : (g k : ℕ) → V1p + T1n ≤ T1p + V1n + g → V2n + T2p ≤ T2n + V2p + k → g + k < d → T1n + T2p < T1p + T2n
    last g k x y z = omega arith

-- ---- what E is worth
-- a rounded number is within one part in 2 ^ 53 of its number
rounded_least : (E Q : ℕ) → gap E Q * 2 ^ 53 ≤ Q → Q * (2 ^ 53 - 1) ≤ E * 2 ^ 53
rounded_least E Q h = omega arith

rounded_most : (E Q : ℕ) → gap E Q * 2 ^ 53 ≤ Q → E * 2 ^ 53 ≤ Q * (2 ^ 53 + 1)
rounded_most E Q h = omega arith

pub threshold_least : (K X Y L Qc E1 QE E : ℕ) → 0 < L → 8 * L ≤ K * 2 ^ 53 → K * X ≡ Qc * L → gap E1 Qc * 2 ^ 53 ≤ Qc
    → E1 * Y ≡ QE * L → gap E QE * 2 ^ 53 ≤ QE → 79 * (X * Y) ≤ E * L * (10 * 2 ^ 53)
threshold_least K X Y L Qc E1 QE E l c q g r k =
    let a : 8 * X ≤ Qc * 2 ^ 53 =
    le_of_mul-le-mul_right (le_trans (le_of_eq (mul_right_comm 8 X L)) (le_trans (mul-le-mul_right X c)
    (le_of_eq (mul_right_comm K (2 ^ 53) X ∙ ap (λ (z : ℕ). z * 2 ^ 53) q ∙ mul_right_comm Qc L (2 ^ 53))))) l in
    let b : 799 * X ≤ E1 * (100 * 2 ^ 53) = first Qc E1 X a (rounded_least E1 Qc g) in
    let d : 799 * (X * Y) ≤ QE * L * (100 * 2 ^ 53) =
    le_trans (le_of_eq (sym (mul_assoc 799 X Y))) (le_trans (mul-le-mul_right Y b)
    (le_of_eq (mul_right_comm E1 (100 * 2 ^ 53) Y ∙ ap (λ (z : ℕ). z * (100 * 2 ^ 53)) r))) in
    let e : QE * L * (2 ^ 53 - 1) ≤ E * L * 2 ^ 53 =
    le_trans (le_of_eq (mul_right_comm QE L (2 ^ 53 - 1))) (le_trans (mul-le-mul_right L (rounded_least E QE k))
    (le_of_eq (mul_right_comm E (2 ^ 53) L))) in
    second (QE * L) (E * L) (X * Y) d e
  where
    first : (n m x : ℕ) → 8 * x ≤ n * 2 ^ 53 → n * (2 ^ 53 - 1) ≤ m * 2 ^ 53 → 799 * x ≤ m * (100 * 2 ^ 53)
    first n m x h k = omega arith

    second : (n m x : ℕ) → 799 * x ≤ n * (100 * 2 ^ 53) → n * (2 ^ 53 - 1) ≤ m * 2 ^ 53 → 79 * x ≤ m * (10 * 2 ^ 53)
    second n m x h k = omega arith

-- a difference d that rounds to more than E
difference_least : (d D E L S : ℕ) → gap D d * 2 ^ 53 ≤ d → E < D → 0 < L → 79 * S ≤ E * L * (10 * 2 ^ 53)
    → (15 * S ≤ d * L * 2 ^ 54) × (0 < d * L)
difference_least d D E L S g h l b =
    let m : D * L * 2 ^ 53 ≤ d * L * (2 ^ 53 + 1) =
    le_trans (le_of_eq (mul_right_comm D L (2 ^ 53))) (le_trans (mul-le-mul_right L (rounded_most D d g))
    (le_of_eq (mul_right_comm d (2 ^ 53 + 1) L))) in
    let n : E * L ≤ D * L = mul-le-mul_right L (le_of_lt h) in
    (last (E * L) (D * L) (d * L) S m n b, mul-pos (some d D E h (rounded_most D d g)) l)
  where
    last : (e D d S : ℕ) → D * 2 ^ 53 ≤ d * (2 ^ 53 + 1) → e ≤ D → 79 * S ≤ e * (10 * 2 ^ 53) → 15 * S ≤ d * 2 ^ 54
    last e D d S m n b = omega arith

    some : (d D E : ℕ) → E < D → D * 2 ^ 53 ≤ d * (2 ^ 53 + 1) → 0 < d
    some d D E h m = omega arith

-- ---- a number with a sign, by its plus and its minus part
abbrev pub plus_of : Bool → ℕ → ℕ
plus_of w n = cond w 0 n

abbrev pub minus_of : Bool → ℕ → ℕ
minus_of w n = cond w n 0

signed_gap : (w : Bool) (T W k : ℕ) → gap T W * 2 ^ 54 ≤ k
    → (gap (plus_of w T) (plus_of w W) + gap (minus_of w T) (minus_of w W)) * 2 ^ 54 ≤ k
signed_gap true T W k h = omega arith
signed_gap false T W k h = omega arith

signed_mul : (w : Bool) (n l : ℕ) → (plus_of w n * l ≡ plus_of w (n * l)) × (minus_of w n * l ≡ minus_of w (n * l))
signed_mul true n l = (zero-mul l, refl)
signed_mul false n l = (refl, zero-mul l)

-- ---- the filter: v and w are the signs of a * d and b * c
some : 0 < 53
some = zero-lt-suc 52

-- the error of a rounded product of rounded differences, in squares of units
pub rounded_error : (L A D X Y Q : ℕ) → rn 53 A * rn 53 D ≡ Q * L → rn 53 A ≤ X → rn 53 D ≤ Y → gap (A * D) (rn 53 Q * L) * 2 ^ 54 ≤ 7 * (X * Y)
rounded_error L A D X Y Q q xa yd =
    product_error A D (rn 53 A) (rn 53 D) Q (rn 53 Q) L (X * Y) (rn_error_of 53 A some) (rn_error_of 53 D some) q (rn_error 53 Q some) (mul-le-mul xa yd)

module _ (L : ℕ) (l : 0 < L) (v w : Bool) (A B C D X Y Q1 Q2 K Qc E1 QE E d : ℕ)
    (q1 : rn 53 A * rn 53 D ≡ Q1 * L) (q2 : rn 53 B * rn 53 C ≡ Q2 * L)
    (xa : rn 53 A ≤ X) (xc : rn 53 C ≤ X) (yb : rn 53 B ≤ Y) (yd : rn 53 D ≤ Y)
    (k : 8 * L ≤ K * 2 ^ 53) (qc : K * X ≡ Qc * L) (e1 : E1 ≡ rn 53 Qc) (qe : E1 * Y ≡ QE * L) (e2 : E ≡ rn 53 QE)
    (ed : d ≡ plus_of v (rn 53 Q1) + minus_of w (rn 53 Q2) - (minus_of v (rn 53 Q1) + plus_of w (rn 53 Q2))) (gt : E < rn 53 d) where
  first_error : gap (A * D) (rn 53 Q1 * L) * 2 ^ 54 ≤ 7 * (X * Y)
  first_error = rounded_error L A D X Y Q1 q1 xa yd

  second_error : gap (B * C) (rn 53 Q2 * L) * 2 ^ 54 ≤ 7 * (X * Y)
  second_error = le_trans (rounded_error L B C Y X Q2 q2 yb xc) (le_of_eq (ap (λ (z : ℕ). 7 * z) (mul_comm Y X)))

  least : (15 * (X * Y) ≤ d * L * 2 ^ 54) × (0 < d * L)
  least =
      difference_least d (rn 53 d) E L (X * Y) (rn_error 53 d some) gt l
      (threshold_least K X Y L Qc E1 QE E l k qc (subst (λ (z : ℕ). gap z Qc * 2 ^ 53 ≤ Qc) (sym e1) (rn_error 53 Qc some))
      qe (subst (λ (z : ℕ). gap z QE * 2 ^ 53 ≤ QE) (sym e2) (rn_error 53 QE some)))

  rounded_difference : plus_of v (rn 53 Q1 * L) + minus_of w (rn 53 Q2 * L) ≡ d * L + (minus_of v (rn 53 Q1 * L) + plus_of w (rn 53 Q2 * L))
  rounded_difference =
      close (plus_of v (R1 * L) + minus_of w (R2 * L)) (minus_of v (R1 * L) + plus_of w (R2 * L)) (d * L)
      (ap (λ (z : ℕ). z * L) ed ∙ sub_mul (plus_of v R1 + minus_of w R2) (minus_of v R1 + plus_of w R2) L
      ∙ ap₂ (λ (x y : ℕ). x - y)
      (add-mul (plus_of v R1) (minus_of w R2) L ∙ ap₂ (λ (x y : ℕ). x + y) (signed_mul v R1 L).0 (signed_mul w R2 L).1)
      (add-mul (minus_of v R1) (plus_of w R2) L ∙ ap₂ (λ (x y : ℕ). x + y) (signed_mul v R1 L).1 (signed_mul w R2 L).0))
      least.1
    where
      R1 : ℕ
      R1 = rn 53 Q1

      R2 : ℕ
      R2 = rn 53 Q2

      close : (m n t : ℕ) → t ≡ m - n → 0 < t → m ≡ t + n
      close m n t e h = omega arith

  pub filter : minus_of v (A * D) + plus_of w (B * C) < plus_of v (A * D) + minus_of w (B * C)
  filter =
      difference_positive (X * Y) (d * L) (plus_of v (A * D)) (minus_of v (A * D)) (plus_of w (B * C)) (minus_of w (B * C))
      (plus_of v (rn 53 Q1 * L)) (minus_of v (rn 53 Q1 * L)) (plus_of w (rn 53 Q2 * L)) (minus_of w (rn 53 Q2 * L))
      (signed_gap v (A * D) (rn 53 Q1 * L) (7 * (X * Y)) first_error) (signed_gap w (B * C) (rn 53 Q2 * L) (7 * (X * Y)) second_error)
      rounded_difference least.1 least.0
