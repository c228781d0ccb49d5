-- The filter on four rounded differences, at the floats: a and c in x, b and d in y, of exact magnitudes A, C, B, D. X and Y are the
-- greater magnitudes, E is (K * X) * Y for a constant K and D is a * d - b * c, each operation rounded. Where D is above E the exact a * d
-- is above the exact b * c, and where it is below -E it is below. In order: the constant; the comparisons with E and -E; the two products
-- and E in units; the decision. Not here: the numbers (`Numbers`); the determinant (`Orientation`). Assumes nothing.
use mathlib.Core.Path.{◌≡◌, refl, sym, ap, ap₂, ◌∙◌, subst}
use mathlib.Core.Bool.{Bool, true, false}
use Prim.Native.Nat.{ℕ, suc, ◌+◌, ◌-◌, ◌*◌, ◌^◌, ◌≤◌, ◌<◌}
use native.Mathlib.Nat.{le_trans, le_of_eq, lt_of_le_of_lt, mul_comm, two-pow-succ, zero-lt-suc}
use native.Mathlib.Omega.{arith}
use lib.Dec.{T, ltb→lt}
use lib.Pow.{pow_pos, pow-lt}
use lib.Ieee.{Float, binary64, sub, mul, neg, lt, unlike}
use lib.Ieee.Scale.{overflow}
use Rattle.double.specs.Worth.{mag, plus, minus}
use Rattle.double.proofs.Laws.Digits.{gap}
use Rattle.double.proofs.Laws.Rounding.{rn, rn_error}
use Rattle.double.proofs.Laws.Units.{Real, Parts}
use Rattle.double.proofs.Laws.Sum.{sub_law}
use Rattle.double.proofs.Laws.Compare.{lt_is}
use Rattle.double.proofs.Laws.Signed.{Split, neg_split}
use Rattle.double.proofs.Laws.Sized.{Sided, sized_of, split_mag, units_of, units_whole, mul_sided, rn_pow}
use Rattle.side_filter.proofs.Laws.Greater.{Greater, greater_sided}
use Rattle.side_filter.proofs.Laws.Numbers.{plus_of, minus_of, rounded_error, threshold_least, filter}

-- ---- the constant: a K that decides is at least 8 / 2 ^ 53; its grain and bound keep E a whole number of units
pub record Constant (K : Float) : Type 0 where
  pub least : 8 * 2 ^ 1074 ≤ mag binary64 K * 2 ^ 53
  pub sided : Sided false 973 1025 K (mag binary64 K)

-- ---- the comparisons: the rounded difference of two values of known sides
split_parts : (w : Bool) (x : Float) (n : ℕ) → Split w binary64 x n 0 → (plus binary64 x ≡ plus_of w n) × (minus binary64 x ≡ minus_of w n)
split_parts true x n r = (r.other, r.same)
split_parts false x n r = (r.same, r.other)

module _ (v w : Bool) (p q : Float) (R S : ℕ) (rp : Split v binary64 p R 0) (rq : Split w binary64 q S 0)
    (room : rn 53 (gap (plus_of v R + minus_of w S) (minus_of v R + plus_of w S)) < overflow binary64) where
  difference_parts : Parts binary64 (sub binary64 p q) (rn 53 (plus_of v R + minus_of w S - (minus_of v R + plus_of w S)))
      (rn 53 (minus_of v R + plus_of w S - (plus_of v R + minus_of w S)))
  difference_parts =
      let a = split_parts v p R rp in
      let b = split_parts w q S rq in
      let gains = ap₂ (λ (x y : ℕ). x + y) a.0 b.1 in
      let losses = ap₂ (λ (x y : ℕ). x + y) a.1 b.0 in
      let D = sub_law binary64 p q rp.real rq.real
      (subst (λ (z : ℕ). z < overflow binary64) (ap₂ (λ (x y : ℕ). rn 53 (gap x y)) (sym gains) (sym losses)) room) in
      record {
        real = D.real;
        plus_is = D.plus_is ∙ ap₂ (λ (x y : ℕ). rn 53 (x - y)) gains losses;
        minus_is = D.minus_is ∙ ap₂ (λ (x y : ℕ). rn 53 (y - x)) gains losses;
      }

  module _ (e : Float) (E : ℕ) (re : Split false binary64 e E 0) where
    difference_above : T (lt e (sub binary64 p q)) → E < rn 53 (plus_of v R + minus_of w S - (minus_of v R + plus_of w S))
    difference_above t =
        let D = difference_parts in
        let d = sub binary64 p q in
        last (plus binary64 e) (minus binary64 e) (plus binary64 d) (minus binary64 d)
        (rn 53 (plus_of v R + minus_of w S - (minus_of v R + plus_of w S))) re.same re.other D.plus_is
        (ltb→lt (plus binary64 e + minus binary64 d) (plus binary64 d + minus binary64 e)
        (subst T (lt_is binary64 e d re.real D.real) t))
      where
        last : (pe me pd md N : ℕ) → pe ≡ E → me ≡ 0 → pd ≡ N → pe + md < pd + me → E < N
        last pe me pd md N x y z c = omega arith

    difference_below : T (lt (sub binary64 p q) (neg e)) → E < rn 53 (minus_of v R + plus_of w S - (plus_of v R + minus_of w S))
    difference_below t =
        let D = difference_parts in
        let d = sub binary64 p q in
        let n = neg_split false binary64 e re.real in
        last (plus binary64 (neg e)) (minus binary64 (neg e)) (plus binary64 d) (minus binary64 d)
        (rn 53 (minus_of v R + plus_of w S - (plus_of v R + minus_of w S))) (n.same ∙ re.other) (n.other ∙ re.same) D.minus_is
        (ltb→lt (plus binary64 d + minus binary64 (neg e)) (plus binary64 (neg e) + minus binary64 d)
        (subst T (lt_is binary64 d (neg e) D.real n.real) t))
      where
        last : (pe me pd md N : ℕ) → pe ≡ 0 → me ≡ E → md ≡ N → pd + me < pe + md → E < N
        last pe me pd md N x y z c = omega arith

-- ---- the products, E and D
-- D: the rounded difference of the two rounded products
abbrev pub difference : Float → Float → Float → Float → Float
difference a b c d = sub binary64 (mul binary64 a d) (mul binary64 b c)

-- E: (K * X) * Y, each product rounded
abbrev pub threshold_by : Float → Float → Float → Float
threshold_by K X Y = mul binary64 (mul binary64 K X) Y

pub record Decided (sa sb sc sd : Bool) (A B C D : ℕ) (a b c d X Y E : Float) : Type 0 where
  pub first_real : Real binary64 (mul binary64 a d)
  pub second_real : Real binary64 (mul binary64 b c)
  pub d_real : Real binary64 (difference a b c d)
  pub e_real : Real binary64 E
  -- a rounded product has the sign of the exact one, and E is not below 0
  pub first_side : (plus binary64 (mul binary64 a d) ≡ plus_of (unlike sa sd) (mag binary64 (mul binary64 a d)))
      × (minus binary64 (mul binary64 a d) ≡ minus_of (unlike sa sd) (mag binary64 (mul binary64 a d)))
  pub second_side : (plus binary64 (mul binary64 b c) ≡ plus_of (unlike sb sc) (mag binary64 (mul binary64 b c)))
      × (minus binary64 (mul binary64 b c) ≡ minus_of (unlike sb sc) (mag binary64 (mul binary64 b c)))
  pub e_side : minus binary64 E ≡ 0
  -- the filter's error bound in squares of units: each rounded product is within 7 / 2 ^ 54 of X * Y of the exact one, and E, which is
  -- more than the two together, is at least 7.9 / 2 ^ 53 of it
  pub first_error : gap (A * D) (mag binary64 (mul binary64 a d) * 2 ^ 1074) * 2 ^ 54 ≤ 7 * (mag binary64 X * mag binary64 Y)
  pub second_error : gap (B * C) (mag binary64 (mul binary64 b c) * 2 ^ 1074) * 2 ^ 54 ≤ 7 * (mag binary64 X * mag binary64 Y)
  pub e_least : 79 * (mag binary64 X * mag binary64 Y) ≤ mag binary64 E * 2 ^ 1074 * (10 * 2 ^ 53)
  pub above : T (lt E (difference a b c d))
      → minus_of (unlike sa sd) (A * D) + plus_of (unlike sb sc) (B * C) < plus_of (unlike sa sd) (A * D) + minus_of (unlike sb sc) (B * C)
  pub below : T (lt (difference a b c d) (neg E))
      → plus_of (unlike sa sd) (A * D) + minus_of (unlike sb sc) (B * C) < minus_of (unlike sa sd) (A * D) + plus_of (unlike sb sc) (B * C)

-- for differences of coordinates from 2 ^ -k to 2 ^ k
module _ (k : ℕ) (h : k ≤ 434) (sa sb sc sd : Bool) (A B C D : ℕ) (a b c d X Y K : Float) (con : Constant K)
    (ra : Sided sa (1022 - k) (suc (1074 + k)) a (rn 53 A)) (rb : Sided sb (1022 - k) (suc (1074 + k)) b (rn 53 B))
    (rc : Sided sc (1022 - k) (suc (1074 + k)) c (rn 53 C)) (rd : Sided sd (1022 - k) (suc (1074 + k)) d (rn 53 D))
    (GX : Greater X a c) (GY : Greater Y b d) where
  -- the grain and the bound of a difference
  abbrev l : ℕ
  l = 1022 - k

  abbrev m : ℕ
  m = suc (1074 + k)

  XS : Sided false l m X (mag binary64 X)
  XS = greater_sided l m (sized_of ra) (sized_of rc) GX

  YS : Sided false l m Y (mag binary64 Y)
  YS = greater_sided l m (sized_of rb) (sized_of rd) GY

  -- the two products
  abbrev Q1 : ℕ
  Q1 = units_of (rn 53 A) (rn 53 D)

  abbrev Q2 : ℕ
  Q2 = units_of (rn 53 B) (rn 53 C)

  abbrev v : Bool
  v = unlike sa sd

  abbrev w : Bool
  w = unlike sb sc

  product_grains : l + l ≡ 970 - (k + k) + 1074
  product_grains = omega arith

  first : Sided v (970 - (k + k)) (1076 + (k + k)) (mul binary64 a d) (rn 53 Q1)
  first = mul_sided sa sd l m l m (970 - (k + k)) a d (rn 53 A) (rn 53 D) ra rd product_grains (1076 + (k + k)) (omega arith) (omega arith)

  second : Sided w (970 - (k + k)) (1076 + (k + k)) (mul binary64 b c) (rn 53 Q2)
  second = mul_sided sb sc l m l m (970 - (k + k)) b c (rn 53 B) (rn 53 C) rb rc product_grains (1076 + (k + k)) (omega arith) (omega arith)

  first_whole : rn 53 A * rn 53 D ≡ Q1 * 2 ^ 1074
  first_whole = units_whole sa sd l m l m (970 - (k + k)) a d (rn 53 A) (rn 53 D) ra rd product_grains

  second_whole : rn 53 B * rn 53 C ≡ Q2 * 2 ^ 1074
  second_whole = units_whole sb sc l m l m (970 - (k + k)) b c (rn 53 B) (rn 53 C) rb rc product_grains

  -- E
  abbrev constant_units : ℕ
  constant_units = mag binary64 K

  abbrev Qc : ℕ
  Qc = units_of constant_units (mag binary64 X)

  abbrev QE : ℕ
  QE = units_of (rn 53 Qc) (mag binary64 Y)

  constant_grains : 973 + l ≡ 921 - k + 1074
  constant_grains = omega arith

  e_grains : 921 - k + l ≡ 869 - (k + k) + 1074
  e_grains = omega arith

  cX : Sided false (921 - k) (1026 + k) (mul binary64 K X) (rn 53 Qc)
  cX =
      mul_sided false false 973 1025 l m (921 - k) K X constant_units (mag binary64 X) con.sided XS constant_grains
      (1026 + k) (omega arith) (omega arith)

  c_x_whole : constant_units * mag binary64 X ≡ Qc * 2 ^ 1074
  c_x_whole =
      units_whole false false 973 1025 l m (921 - k) K X constant_units (mag binary64 X) con.sided XS constant_grains

  e : Sided false (869 - (k + k)) (1027 + (k + k)) (threshold_by K X Y) (rn 53 QE)
  e =
      mul_sided false false (921 - k) (1026 + k) l m (869 - (k + k)) (mul binary64 K X) Y (rn 53 Qc) (mag binary64 Y) cX YS
      e_grains (1027 + (k + k)) (omega arith) (omega arith)

  e_whole : rn 53 Qc * mag binary64 Y ≡ QE * 2 ^ 1074
  e_whole =
      units_whole false false (921 - k) (1026 + k) l m (869 - (k + k)) (mul binary64 K X) Y (rn 53 Qc) (mag binary64 Y) cX YS
      e_grains

  -- D does not overflow
  room : rn 53 (gap (plus_of v (rn 53 Q1) + minus_of w (rn 53 Q2)) (minus_of v (rn 53 Q1) + plus_of w (rn 53 Q2))) < overflow binary64
  room =
      lt_of_le_of_lt
      (rn_pow (gap (plus_of v (rn 53 Q1) + minus_of w (rn 53 Q2)) (minus_of v (rn 53 Q1) + plus_of w (rn 53 Q2))) (suc (1076 + (k + k)))
      (le_trans (sides v w (rn 53 Q1) (rn 53 Q2) (2 ^ (1076 + (k + k))) first.most second.most)
      (le_of_eq (sym (two-pow-succ (1076 + (k + k))))))) (pow-lt {i = suc (1076 + (k + k))} {j = 2098} (omega arith))
    where
      sides : (v w : Bool) (m n B : ℕ) → m ≤ B → n ≤ B → gap (plus_of v m + minus_of w n) (minus_of v m + plus_of w n) ≤ B + B
      sides true true m n B p q = omega arith
      sides true false m n B p q = omega arith
      sides false true m n B p q = omega arith
      sides false false m n B p q = omega arith

  -- ---- the decision
  under : {s : Bool} {x : Float} {n Z : ℕ} → Sided s l m x n → mag binary64 x ≤ Z → n ≤ Z
  under r h = le_trans (le_of_eq (sym (split_mag r.split))) h

  own_side : {w : Bool} {x : Float} {n : ℕ} → Split w binary64 x n 0
      → (plus binary64 x ≡ plus_of w (mag binary64 x)) × (minus binary64 x ≡ minus_of w (mag binary64 x))
  own_side {w} {x} {n} r =
      let (p, m) = split_parts w x n r in
      (p ∙ ap (plus_of w) (sym (split_mag r)), m ∙ ap (minus_of w) (sym (split_mag r)))

  pub decide : Decided sa sb sc sd A B C D a b c d X Y (threshold_by K X Y)
  decide = record {
    first_real = first.split.real;
    second_real = second.split.real;
    d_real = (difference_parts v w (mul binary64 a d) (mul binary64 b c) (rn 53 Q1) (rn 53 Q2) first.split second.split room).real;
    e_real = e.split.real;
    first_side = own_side first.split;
    second_side = own_side second.split;
    e_side = e.split.other;
    first_error = subst (λ (n : ℕ). gap (A * D) (n * 2 ^ 1074) * 2 ^ 54 ≤ 7 * (mag binary64 X * mag binary64 Y)) (sym (split_mag first.split))
        (rounded_error (2 ^ 1074) A D (mag binary64 X) (mag binary64 Y) Q1 first_whole (under ra GX.first) (under rd GY.second));
    second_error = subst (λ (n : ℕ). gap (B * C) (n * 2 ^ 1074) * 2 ^ 54 ≤ 7 * (mag binary64 X * mag binary64 Y)) (sym (split_mag second.split))
        (le_trans (rounded_error (2 ^ 1074) B C (mag binary64 Y) (mag binary64 X) Q2 second_whole (under rb GY.first) (under rc GX.second))
        (le_of_eq (ap (λ (z : ℕ). 7 * z) (mul_comm (mag binary64 Y) (mag binary64 X)))));
    e_least = subst (λ (n : ℕ). 79 * (mag binary64 X * mag binary64 Y) ≤ n * 2 ^ 1074 * (10 * 2 ^ 53)) (sym (split_mag e.split))
        (threshold_least constant_units (mag binary64 X) (mag binary64 Y) (2 ^ 1074) Qc (rn 53 Qc) QE (rn 53 QE) (pow_pos 1074)
        con.least c_x_whole (rn_error 53 Qc (zero-lt-suc 52)) e_whole (rn_error 53 QE (zero-lt-suc 52)));
    above = λ t. filter (2 ^ 1074) (pow_pos 1074) v w A B C D (mag binary64 X) (mag binary64 Y) Q1 Q2 constant_units Qc (rn 53 Qc)
        QE (rn 53 QE) (plus_of v (rn 53 Q1) + minus_of w (rn 53 Q2) - (minus_of v (rn 53 Q1) + plus_of w (rn 53 Q2))) first_whole second_whole
        (under ra GX.first) (under rc GX.second) (under rb GY.first) (under rd GY.second)
        con.least c_x_whole refl e_whole refl refl
        (difference_above v w (mul binary64 a d) (mul binary64 b c) (rn 53 Q1) (rn 53 Q2) first.split second.split room
        (threshold_by K X Y) (rn 53 QE) e.split t);
    below = λ t. turned v w (filter (2 ^ 1074) (pow_pos 1074) w v C D A B (mag binary64 X) (mag binary64 Y) Q2 Q1
        constant_units Qc (rn 53 Qc) QE (rn 53 QE)
        (minus_of v (rn 53 Q1) + plus_of w (rn 53 Q2) - (plus_of v (rn 53 Q1) + minus_of w (rn 53 Q2)))
        (mul_comm (rn 53 C) (rn 53 B) ∙ second_whole) (mul_comm (rn 53 D) (rn 53 A) ∙ first_whole)
        (under rc GX.second) (under ra GX.first) (under rd GY.second) (under rb GY.first)
        con.least c_x_whole refl e_whole refl
        (swapped (plus_of v (rn 53 Q1)) (minus_of v (rn 53 Q1)) (plus_of w (rn 53 Q2)) (minus_of w (rn 53 Q2)))
        (difference_below v w (mul binary64 a d) (mul binary64 b c) (rn 53 Q1) (rn 53 Q2) first.split second.split room
        (threshold_by K X Y) (rn 53 QE) e.split t));
  }
    where
      swapped : (m n p q : ℕ) → n + p - (m + q) ≡ p + n - (q + m)
      swapped m n p q = omega arith

      back : (m n p q : ℕ) → q + m < p + n → m + q < n + p
      back m n p q h = omega arith

      turned : (v w : Bool) → minus_of w (C * B) + plus_of v (D * A) < plus_of w (C * B) + minus_of v (D * A)
          → plus_of v (A * D) + minus_of w (B * C) < minus_of v (A * D) + plus_of w (B * C)
      turned v w t = back (plus_of v (A * D)) (minus_of v (A * D)) (plus_of w (B * C)) (minus_of w (B * C)) (rw (mul_comm B C, mul_comm A D) t)
