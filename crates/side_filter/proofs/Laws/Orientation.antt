-- The filter of the side of a point, 01's stages 1 and 2. For coordinates that are zero or from 2 ^ -k to 2 ^ k in magnitude, k up to 434,
-- and a constant that is large enough: the difference of the two rounded products is within 7 / 2 ^ 53 of X * Y of the exact determinant
-- (qx - px)(ry - py) - (qy - py)(rx - px), and E is at least 7.9 / 2 ^ 53 of X * Y; so where D is above E the determinant is positive, and
-- where it is below -E negative. Where X or Y is zero it is zero. Every value on the way is finite. In order: the determinant; a product of
-- differences by its side, and against a rounded one; the two bounds; the law. Not here: the decision on four differences (`Threshold`);
-- the exact stage. Assumes nothing.
use mathlib.Core.Path.{◌≡◌, ap, ◌∙◌}
use mathlib.Core.Bool.{Bool, true, false, not}
use mathlib.Core.Logic.{◌⊎◌, inl, inr}
use Prim.Native.Nat.{ℕ, suc, ◌+◌, ◌-◌, ◌*◌, ◌^◌, ◌≤◌, ◌<◌}
use native.Mathlib.Nat.{add-mul, mul-add}
use native.Mathlib.Omega.{arith}
use lib.Dec.{T, ltb, ltb→lt, nltb→le}
use lib.IntN.{ℤ, pos, ◌+ℤ◌, ◌-ℤ◌, ◌*ℤ◌}
use lib.Ieee.{Float, binary64, sub, mul, neg, lt, unlike}
use Rattle.whole.specs.Order.{◌≤ᶻ◌, ◌<ᶻ◌}
use Rattle.ground.specs.Plane.{Spot}
use Rattle.ground.specs.Plane as plane
use Rattle.double.specs.Worth.{mag, plus, minus, worth}
use Rattle.double.proofs.Laws.Digits.{gap}
use Rattle.double.proofs.Laws.Rounding.{rn}
use Rattle.double.proofs.Laws.Units.{Real}
use Rattle.side_filter.specs.Filter.{span_of}
use Rattle.side_filter.proofs.Laws.By.{By, by_worth, by_mag, by_pos, by_add, by_sub, by_mul, by_scale}
use Rattle.side_filter.proofs.Laws.By.{by-≤, by_positive, by_negative, by_zero}
use Rattle.double.proofs.Laws.Sized.{Sided, Reach, gain, loss, falls, apart, sub_sided, sub_real, sub_zero_only}
use Rattle.side_filter.proofs.Laws.Numbers.{plus_of, minus_of}
use Rattle.side_filter.proofs.Laws.Greater.{Greater, greater_of}
use Rattle.side_filter.proofs.Laws.Threshold.{Constant, Decided, decide, difference, threshold_by}

-- ---- the determinant, in squares of units
abbrev spot : Float → Float → Spot
spot x y = record { x = worth x; y = worth y }

abbrev pub determinant : Float → Float → Float → Float → Float → Float → ℤ
determinant px py qx qy rx ry = plane.determinant (spot px py) (spot qx qy) (spot rx ry)

-- what is added to make it, and what is taken away
abbrev ups : Float → Float → Float → Float → Float → Float → ℕ
ups px py qx qy rx ry = gain qx px * gain ry py + loss qx px * loss ry py + (gain qy py * loss rx px + loss qy py * gain rx px)

abbrev downs : Float → Float → Float → Float → Float → Float → ℕ
downs px py qx qy rx ry = gain qx px * loss ry py + loss qx px * gain ry py + (gain qy py * gain rx px + loss qy py * loss rx px)

by_difference : (x y : Float) → By (worth x -ℤ worth y) (gain x y) (loss x y)
by_difference x y = by_sub (by_worth x) (by_worth y)

by_determinant : (px py qx qy rx ry : Float) → By (determinant px py qx qy rx ry) (ups px py qx qy rx ry) (downs px py qx qy rx ry)
by_determinant px py qx qy rx ry =
    by_sub (by_mul (by_difference qx px) (by_difference ry py)) (by_mul (by_difference qy py) (by_difference rx px))

-- ---- a product of differences: A less C times B less D, by its side
rising : (A C B D a b : ℕ) → A ≡ a + C → B ≡ b + D → a * b + (A * D + C * B) ≡ A * B + C * D
rising A C B D a b e f =
    let u : A * D ≡ a * D + C * D = ap (λ (z : ℕ). z * D) e ∙ add-mul a C D in
    let v : A * B ≡ a * B + C * B = ap (λ (z : ℕ). z * B) e ∙ add-mul a C B in
    let w : a * B ≡ a * b + a * D = ap (λ (z : ℕ). a * z) f ∙ mul-add a b D in
    omega arith

side_product : (A C B D : ℕ)
    → plus_of (unlike (ltb A C) (ltb B D)) (gap A C * gap B D) + (A * D + C * B)
    ≡ minus_of (unlike (ltb A C) (ltb B D)) (gap A C * gap B D) + (A * B + C * D)
side_product A C B D = go (ltb A C) (ltb B D) (ltb→lt A C) (nltb→le A C) (ltb→lt B D) (nltb→le B D)
  where
    lower : (P N : ℕ) → P < N → N ≡ gap P N + P
    lower P N h = omega arith

    upper : (P N : ℕ) → N ≤ P → P ≡ gap P N + N
    upper P N h = omega arith

    like : (m n p q r : ℕ) → m + (n + p) ≡ q + r → m + (n + p) ≡ 0 + (q + r)
    like m n p q r e = omega arith

    turn : (m n p q r : ℕ) → m + (n + p) ≡ q + r → 0 + (q + r) ≡ m + (n + p)
    turn m n p q r e = omega arith

    swap : (m n p q r : ℕ) → m + (n + p) ≡ q + r → m + (p + n) ≡ 0 + (r + q)
    swap m n p q r e = omega arith

    back : (m n p q r : ℕ) → m + (n + p) ≡ q + r → 0 + (r + q) ≡ m + (p + n)
    back m n p q r e = omega arith

    go : (s t : Bool) → (T s → A < C) → (T (not s) → C ≤ A) → (T t → B < D) → (T (not t) → D ≤ B)
        → plus_of (unlike s t) (gap A C * gap B D) + (A * D + C * B) ≡ minus_of (unlike s t) (gap A C * gap B D) + (A * B + C * D)
    go false false a b c d =
        like (gap A C * gap B D) (A * D) (C * B) (A * B) (C * D) (rising A C B D (gap A C) (gap B D) (upper A C (b tt)) (upper B D (d tt)))
    go false true a b c d =
        turn (gap A C * gap B D) (A * B) (C * D) (A * D) (C * B) (rising A C D B (gap A C) (gap B D) (upper A C (b tt)) (lower B D (c tt)))
    go true false a b c d =
        back (gap A C * gap B D) (C * D) (A * B) (C * B) (A * D) (rising C A B D (gap A C) (gap B D) (lower A C (a tt)) (upper B D (d tt)))
    go true true a b c d =
        swap (gap A C * gap B D) (C * B) (A * D) (C * D) (A * B) (rising C A D B (gap A C) (gap B D) (lower A C (a tt)) (lower B D (c tt)))

-- two of them, one less the other
both_above : (g f n p h k m q : ℕ) → g + n ≡ f + p → h + m ≡ k + q → f + h < g + k → n + q < p + m
both_above g f n p h k m q e d l = omega arith

both_below : (g f n p h k m q : ℕ) → g + n ≡ f + p → h + m ≡ k + q → g + k < f + h → p + m < n + q
both_below g f n p h k m q e d l = omega arith

-- ---- against a rounded one: P - M, times L, is within S / 2 ^ 54 of p - n
module _ (L : ℕ) where
  abbrev Close : ℕ → ℕ → ℕ → ℕ → ℕ → Type 0
  Close P M p n S = ((P * L + n) * 2 ^ 54 ≤ (M * L + p) * 2 ^ 54 + S) × ((M * L + p) * 2 ^ 54 ≤ (P * L + n) * 2 ^ 54 + S)

  close_side : (v : Bool) (P M m f p n S : ℕ) → (P ≡ plus_of v m) × (M ≡ minus_of v m) → plus_of v f + n ≡ minus_of v f + p
      → gap f (m * L) * 2 ^ 54 ≤ S → Close P M p n S
  close_side true P M m f p n S d e h = omega (arith, ap (λ (z : ℕ). z * L) d.0, ap (λ (z : ℕ). z * L) d.1)
  close_side false P M m f p n S d e h = omega (arith, ap (λ (z : ℕ). z * L) d.0, ap (λ (z : ℕ). z * L) d.1)

  -- two of them, one less the other
  close_both : (P M p n R N q m S : ℕ) → Close P M p n (7 * S) → Close R N q m (7 * S)
      → (((P + N) * L + (n + q)) * 2 ^ 53 ≤ ((M + R) * L + (p + m)) * 2 ^ 53 + 7 * S)
      × ((p + m + (M + R) * L) * 2 ^ 53 ≤ (n + q + (P + N) * L) * 2 ^ 53 + 7 * S)
  close_both P M p n R N q m S h k = omega arith

-- ---- the two bounds, of whole numbers
by_near : {g d w : ℤ} {gp gn dp dn S : ℕ} → By g gp gn → By d dp dn → By w S 0 → (gp + dn) * 2 ^ 53 ≤ (gn + dp) * 2 ^ 53 + 7 * S
    → pos (2 ^ 53) *ℤ g ≤ᶻ pos (2 ^ 53) *ℤ d +ℤ pos 7 *ℤ w
by_near G D W h = by-≤ (by_mul (by_pos (2 ^ 53)) G) (by_add (by_mul (by_pos (2 ^ 53)) D) (by_mul (by_pos 7) W)) (omega arith)

by_enough : (L : ℕ) {w e : ℤ} {S n : ℕ} → By w S 0 → By e n 0 → 79 * S ≤ n * L * (10 * 2 ^ 53)
    → pos 79 *ℤ w ≤ᶻ pos (10 * 2 ^ 53) *ℤ (e *ℤ pos L)
by_enough L W N h = by-≤ (by_mul (by_pos 79) W) (by_mul (by_pos (10 * 2 ^ 53)) (by_scale N (by_pos L))) (omega arith)

-- ---- the law: X is the greater magnitude of the x differences, Y of the y differences
abbrev pub side_difference : Float → Float → Float → Float → Float → Float → Float
side_difference px py qx qy rx ry = difference (sub binary64 qx px) (sub binary64 qy py) (sub binary64 rx px) (sub binary64 ry py)

-- the difference of the two rounded products, not rounded itself, in squares of units
abbrev pub product_difference : Float → Float → Float → Float → Float → Float → ℤ
product_difference px py qx qy rx ry =
    (worth (mul binary64 (sub binary64 qx px) (sub binary64 ry py)) -ℤ worth (mul binary64 (sub binary64 qy py) (sub binary64 rx px)))
    *ℤ pos (2 ^ 1074)

pub record Filtered (px py qx qy rx ry X Y E : Float) : Type 0 where
  pub qx_px : Real binary64 (sub binary64 qx px)
  pub qy_py : Real binary64 (sub binary64 qy py)
  pub rx_px : Real binary64 (sub binary64 rx px)
  pub ry_py : Real binary64 (sub binary64 ry py)
  pub first_real : Real binary64 (mul binary64 (sub binary64 qx px) (sub binary64 ry py))
  pub second_real : Real binary64 (mul binary64 (sub binary64 qy py) (sub binary64 rx px))
  pub d_real : Real binary64 (side_difference px py qx qy rx ry)
  pub e_real : Real binary64 E
  -- the filter's error bound in squares of units, as `Threshold` has it
  pub first_error : gap (apart qx px * apart ry py) (mag binary64 (mul binary64 (sub binary64 qx px) (sub binary64 ry py)) * 2 ^ 1074) * 2 ^ 54
      ≤ 7 * (mag binary64 X * mag binary64 Y)
  pub second_error : gap (apart qy py * apart rx px) (mag binary64 (mul binary64 (sub binary64 qy py) (sub binary64 rx px)) * 2 ^ 1074) * 2 ^ 54
      ≤ 7 * (mag binary64 X * mag binary64 Y)
  pub e_least : 79 * (mag binary64 X * mag binary64 Y) ≤ mag binary64 E * 2 ^ 1074 * (10 * 2 ^ 53)
  -- the same in ℤ, of the two products together: within 7 / 2 ^ 53
  pub near_above : pos (2 ^ 53) *ℤ product_difference px py qx qy rx ry
      ≤ᶻ pos (2 ^ 53) *ℤ determinant px py qx qy rx ry +ℤ pos 7 *ℤ (worth X *ℤ worth Y)
  pub near_below : pos (2 ^ 53) *ℤ determinant px py qx qy rx ry
      ≤ᶻ pos (2 ^ 53) *ℤ product_difference px py qx qy rx ry +ℤ pos 7 *ℤ (worth X *ℤ worth Y)
  pub e_enough : pos 79 *ℤ (worth X *ℤ worth Y) ≤ᶻ pos (10 * 2 ^ 53) *ℤ (worth E *ℤ pos (2 ^ 1074))
  pub positive : T (lt E (side_difference px py qx qy rx ry)) → pos 0 <ᶻ determinant px py qx qy rx ry
  pub negative : T (lt (side_difference px py qx qy rx ry) (neg E)) → determinant px py qx qy rx ry <ᶻ pos 0
  pub level : (mag binary64 X ≡ 0) ⊎ (mag binary64 Y ≡ 0) → determinant px py qx qy rx ry ≡ pos 0

module _ (k : ℕ) (h : k ≤ 434) (px py qx qy rx ry X Y K : Float) (con : Constant K)
    (Px : Reach k px) (Py : Reach k py) (Qx : Reach k qx) (Qy : Reach k qy) (Rx : Reach k rx) (Ry : Reach k ry)
    (GX : Greater X (sub binary64 qx px) (sub binary64 rx px)) (GY : Greater Y (sub binary64 qy py) (sub binary64 ry py)) where
  abbrev E : Float
  E = threshold_by K X Y

  room : suc (1074 + k) < 2098
  room = omega arith

  side : (x y : Float) → Reach k x → Reach k y → Sided (falls x y) (1022 - k) (suc (1074 + k)) (sub binary64 x y) (rn 53 (apart x y))
  side x y rx ry = sub_sided (1022 - k) (1074 + k) x y rx ry room

  four : Decided (falls qx px) (falls qy py) (falls rx px) (falls ry py) (apart qx px) (apart qy py) (apart rx px) (apart ry py)
      (sub binary64 qx px) (sub binary64 qy py) (sub binary64 rx px) (sub binary64 ry py) X Y E
  four =
      decide k h (falls qx px) (falls qy py) (falls rx px) (falls ry py) (apart qx px) (apart qy py) (apart rx px) (apart ry py)
      (sub binary64 qx px) (sub binary64 qy py) (sub binary64 rx px) (sub binary64 ry py) X Y K con
      (side qx px Qx Px) (side qy py Qy Py) (side rx px Rx Px) (side ry py Ry Py) GX GY

  det : By (determinant px py qx qy rx ry) (ups px py qx qy rx ry) (downs px py qx qy rx ry)
  det = by_determinant px py qx qy rx ry

  spans : By (worth X *ℤ worth Y) (mag binary64 X * mag binary64 Y) 0
  spans = record { eq = omega (arith, (by_scale (by_mag X GX.side) (by_mag Y GY.side)).eq) }

  abbrev P : Float
  P = mul binary64 (sub binary64 qx px) (sub binary64 ry py)

  abbrev Q : Float
  Q = mul binary64 (sub binary64 qy py) (sub binary64 rx px)

  products : By (product_difference px py qx qy rx ry) ((plus binary64 P + minus binary64 Q) * 2 ^ 1074)
      ((minus binary64 P + plus binary64 Q) * 2 ^ 1074)
  products = by_scale (by_sub (by_worth P) (by_worth Q)) (by_pos (2 ^ 1074))

  -- where the greater of two magnitudes is 0 both differences are
  both_level : (u v p Z : Float) → Reach k u → Reach k v → Reach k p → Greater Z (sub binary64 u p) (sub binary64 v p) → mag binary64 Z ≡ 0
      → (gain u p ≡ loss u p) × (gain v p ≡ loss v p)
  both_level u v p Z ru rv rp G e = (
    sub_zero_only u p (side u p ru rp) (none (mag binary64 (sub binary64 u p)) (mag binary64 Z) G.first e),
    sub_zero_only v p (side v p rv rp) (none (mag binary64 (sub binary64 v p)) (mag binary64 Z) G.second e),
  )
    where
      none : (m n : ℕ) → m ≤ n → n ≡ 0 → m ≡ 0
      none m n h e = omega arith

  pub filtered : Filtered px py qx qy rx ry X Y E
  filtered =
      let one = side_product (gain qx px) (loss qx px) (gain ry py) (loss ry py) in
      let two = side_product (gain qy py) (loss qy py) (gain rx px) (loss rx px) in
      let v = unlike (falls qx px) (falls ry py) in
      let w = unlike (falls qy py) (falls rx px) in
      let f : ℕ = apart qx px * apart ry py in
      let s : ℕ = apart qy py * apart rx px in
      let near = close_both (2 ^ 1074) _ _ _ _ _ _ _ _ (mag binary64 X * mag binary64 Y)
      (close_side (2 ^ 1074) v _ _ (mag binary64 P) f _ _ _ four.first_side one four.first_error)
      (close_side (2 ^ 1074) w _ _ (mag binary64 Q) s _ _ _ four.second_side two four.second_error) in
      record {
        qx_px = (side qx px Qx Px).split.real;
        qy_py = (side qy py Qy Py).split.real;
        rx_px = (side rx px Rx Px).split.real;
        ry_py = (side ry py Ry Py).split.real;
        first_real = four.first_real;
        second_real = four.second_real;
        d_real = four.d_real;
        e_real = four.e_real;
        first_error = four.first_error;
        second_error = four.second_error;
        e_least = four.e_least;
        near_above = by_near products det spans near.0;
        near_below = by_near det products spans near.1;
        e_enough = by_enough (2 ^ 1074) spans (by_mag E four.e_side) four.e_least;
        positive = λ t. by_positive det (both_above (plus_of v f) (minus_of v f)
            (gain qx px * loss ry py + loss qx px * gain ry py) (gain qx px * gain ry py + loss qx px * loss ry py)
            (plus_of w s) (minus_of w s) (gain qy py * loss rx px + loss qy py * gain rx px)
            (gain qy py * gain rx px + loss qy py * loss rx px) one two (four.above t));
        negative = λ t. by_negative det (both_below (plus_of v f) (minus_of v f)
            (gain qx px * loss ry py + loss qx px * gain ry py) (gain qx px * gain ry py + loss qx px * loss ry py)
            (plus_of w s) (minus_of w s) (gain qy py * loss rx px + loss qy py * gain rx px)
            (gain qy py * gain rx px + loss qy py * loss rx px) one two (four.below t));
        level = λ z. by_zero det (elim z [
          | inl e ↦
              let n = both_level qx rx px X Qx Rx Px GX e in
              flat_x (gain qx px) (loss qx px) (gain ry py) (loss ry py) (gain qy py) (loss qy py) (gain rx px) (loss rx px) n.0 n.1
          | inr e ↦
              let n = both_level qy ry py Y Qy Ry Py GY e in
              flat_y (gain qx px) (loss qx px) (gain ry py) (loss ry py) (gain qy py) (loss qy py) (gain rx px) (loss rx px) n.0 n.1
        ]);
      }
    where
      flat_x : (a b c d e f g h : ℕ) → a ≡ b → g ≡ h → a * c + b * d + (e * h + f * g) ≡ a * d + b * c + (e * g + f * h)
      flat_x a b c d e f g h p q =
          omega (arith, ap (λ (z : ℕ). z * c) p, ap (λ (z : ℕ). z * d) p, ap (λ (z : ℕ). e * z) q, ap (λ (z : ℕ). f * z) q)

      flat_y : (a b c d e f g h : ℕ) → e ≡ f → c ≡ d → a * c + b * d + (e * h + f * g) ≡ a * d + b * c + (e * g + f * h)
      flat_y a b c d e f g h p q =
          omega (arith, ap (λ (z : ℕ). z * g) p, ap (λ (z : ℕ). z * h) p, ap (λ (z : ℕ). a * z) q, ap (λ (z : ℕ). b * z) q)

-- with X and Y by comparisons
pub filtered_span : (k : ℕ) (px py qx qy rx ry K : Float) → Constant K → k ≤ 434
    → Reach k px → Reach k py → Reach k qx → Reach k qy → Reach k rx → Reach k ry
    → Filtered px py qx qy rx ry (span_of qx rx px) (span_of qy ry py) (threshold_by K (span_of qx rx px) (span_of qy ry py))
filtered_span k px py qx qy rx ry K con h Px Py Qx Qy Rx Ry =
    filtered k h px py qx qy rx ry (span_of qx rx px) (span_of qy ry py) K con Px Py Qx Qy Rx Ry
    (greater_of (sub binary64 qx px) (sub binary64 rx px) (sub_real k qx px (omega arith) Qx Px) (sub_real k rx px (omega arith) Rx Px))
    (greater_of (sub binary64 qy py) (sub binary64 ry py) (sub_real k qy py (omega arith) Qy Py) (sub_real k ry py (omega arith) Ry Py))
