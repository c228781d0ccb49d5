-- Stages 1 and 2 of a side, for points whose coordinates lie within the reach. In order: what each answer says of the tests; the constant
-- is large enough; the facts of the filter, its error bound among them; the rule's answer is never wrong; no two results satisfy the
-- promise; the code's answer, by the tests before it; a rounded difference of coordinates against 001's two bounds. Not here: why the bound
-- holds and a D above E is decided (`Orientation`). Assumes nothing.
use mathlib.Core.Path.{◌≡◌, refl, sym, ap, ap₂, ◌∙◌}
use mathlib.Core.Bool.{Bool, true, false, ◌||◌, cond}
use mathlib.Core.Logic.{◌⊎◌, inl, inr}
use Prim.Native.Nat.{ℕ, ◌*◌, ◌^◌, ◌≤◌, ◌<◌}
use native.Mathlib.Nat.{lt_of_lt_of_le, lt_of_le_of_lt, mul-le-mul_right, dvd_of_mod-eq-zero}
use native.Mathlib.Omega.{arith}
use lib.Dec.{T, lit≤, lit<}
use lib.IntN.{pos}
use lib.Ieee.{Float, binary64, of_bits, sub, neg, lt, eq, fits}
use Rattle.whole.specs.Order.{◌<ᶻ◌}
use Rattle.refusal.specs.Outcome.{Fixes}
use Rattle.double.specs.Worth.{mag, plus0}
use Rattle.double.proofs.Laws.Sized.{Reach, sub_range}
use Rattle.side_filter.proofs.Laws.Greater.{greater_of, zero_test}
use Rattle.side_filter.proofs.Laws.Threshold.{Constant}
use Rattle.side_filter.proofs.Laws.Orientation.{Filtered, filtered_span}
use Rattle.point.specs.declared.Point.{Point}
use Rattle.point.specs.Accepted.{reach, magnitude_of}
use Rattle.point.specs.Spot.{determinant}
use Rattle.point.proofs.Laws.Within.{Within}
use Rattle.side_filter.specs.Filter.{filter_constant, greater, span_of, x_span_of, y_span_of, threshold_of, difference_of}
use Rattle.side_filter.specs.Filter.{clear_by, filter_by, filter_of, Sure, FilteredSays}
use Rattle.side_filter.specs.declared.answer.Early.{Early}
use Rattle.side_filter.specs.declared.answer.Early.TheVariants.{Level, Plus, Minus, Open}

-- ---- the answer by four tests: X is zero, Y is zero, D is above E, D is below -E
abbrev tested : Bool → Bool → Bool → Bool → Early
tested x y above below = cond (x || y) Level (cond above Plus (cond below Minus Open))

never : {A : Type 0} → ◌≡◌ {A = ℕ} 0 1 → A
never e = let w : ⊥ = omega arith in absurd w

tested_level : (x y above below : Bool) → tested x y above below ≡ Level → T x ⊎ T y
tested_level true y a b e = inl tt
tested_level false true a b e = inr tt
tested_level false false true b e = never (cc)
tested_level false false false true e = never (cc)
tested_level false false false false e = never (cc)

tested_plus : (x y above below : Bool) → tested x y above below ≡ Plus → T above
tested_plus true y a b e = never (cc)
tested_plus false true a b e = never (cc)
tested_plus false false true b e = tt
tested_plus false false false true e = never (cc)
tested_plus false false false false e = never (cc)

tested_minus : (x y above below : Bool) → tested x y above below ≡ Minus → T below
tested_minus true y a b e = never (cc)
tested_minus false true a b e = never (cc)
tested_minus false false true b e = never (cc)
tested_minus false false false true e = tt
tested_minus false false false false e = never (cc)

-- ---- the constant: at least 8 / 2 ^ 53, so that E is above the error bound
constant_least : 8 * 2 ^ 1074 ≤ mag binary64 filter_constant * 2 ^ 53
unfolding of_bits
constant_least = lit≤ tt

constant : Constant filter_constant
unfolding of_bits
constant = record {
  least = constant_least;
  sided = record {
    split = record { real = record { fin = tt; fit = unfold fits in tt }; same = refl; other = refl };
    grain = dvd_of_mod-eq-zero (2 ^ 973) refl;
    most = lit≤ tt;
  };
}

-- ---- the filter of three points
module _ (p q r : Point) (P : Within reach p) (Q : Within reach q) (R : Within reach r) where
  abbrev X : Float
  X = x_span_of p q r

  abbrev Y : Float
  Y = y_span_of p q r

  abbrev D : Float
  D = difference_of p q r

  abbrev E : Float
  E = threshold_of X Y

  -- every value on the way is finite, the error bound, and what each test says of the determinant
  filter_facts : Filtered p.x p.y q.x q.y r.x r.y X Y E
  filter_facts =
      filtered_span reach p.x p.y q.x q.y r.x r.y filter_constant constant (lit≤ tt)
      P.x P.y Q.x Q.y R.x R.y

  positive : T (lt E D) → pos 0 <ᶻ determinant p q r
  positive t = filter_facts.positive t

  negative : T (lt D (neg E)) → determinant p q r <ᶻ pos 0
  negative t = filter_facts.negative t

  level : T (eq X plus0) ⊎ T (eq Y plus0) → determinant p q r ≡ pos 0
  unfolding of_bits
  level t =
      let F = filter_facts in
      F.level (elim t [
        | inl z ↦ inl ((zero_test X (greater_of (sub binary64 q.x p.x) (sub binary64 r.x p.x) F.qx_px F.rx_px).real).0 z)
        | inr z ↦ inr ((zero_test Y (greater_of (sub binary64 q.y p.y) (sub binary64 r.y p.y) F.qy_py F.ry_py).real).0 z)
      ])

  -- the answer that the rule gives is never wrong
  pub filter_sure : {f : Early} → f ≡ filter_of p q r → Sure p q r f
  unfolding filter_of
  filter_sure {f} e =
      let own : f ≡ tested (eq X plus0) (eq Y plus0) (lt E D) (lt D (neg E)) = e in
      record {
        near = (filter_facts.near_above, filter_facts.near_below);
        enough = filter_facts.e_enough;
        level = λ g. level (tested_level (eq X plus0) (eq Y plus0) (lt E D) (lt D (neg E)) (sym own ∙ g));
        plus = λ g. positive (tested_plus (eq X plus0) (eq Y plus0) (lt E D) (lt D (neg E)) (sym own ∙ g));
        minus = λ g. negative (tested_minus (eq X plus0) (eq Y plus0) (lt E D) (lt D (neg E)) (sym own ∙ g));
      }

-- no two results satisfy the promise
pub filtered_fixed : (p q r : Point) → Fixes (λ (f : Early). FilteredSays p q r f)
filtered_fixed p q r a b e f = e.answer ∙ sym f.answer

-- ---- the code's answer is the rule's
pub filter_answer : (p q r : Point) {x y : Float} {f : Early} → x ≡ x_span_of p q r → y ≡ y_span_of p q r
    → f ≡ filter_by (difference_of p q r) x y → f ≡ filter_of p q r
unfolding filter_of
filter_answer p q r ex ey e = e ∙ ap₂ (λ (a b : Float). filter_by (difference_of p q r) a b) ex ey

-- the code's way to X and Y
pub span_is : (u v w : Float) {a b x : Float} → a ≡ magnitude_of (sub binary64 u w) → b ≡ magnitude_of (sub binary64 v w) → x ≡ greater a b
    → x ≡ span_of u v w
span_is u v w e f g = g ∙ ap₂ greater e f

-- ---- each answer by the tests before it
pub by_x : (D X Y : Float) → eq X plus0 ≡ true → Level ≡ filter_by D X Y
by_x D X Y e = ap (λ (b : Bool). cond b Level (clear_by D (threshold_of X Y))) (sym (ap (λ (b : Bool). b || eq Y plus0) e))

module _ (D X Y : Float) (x : eq X plus0 ≡ false) where
  pub by_y : eq Y plus0 ≡ true → Level ≡ filter_by D X Y
  by_y y = ap (λ (b : Bool). cond b Level (clear_by D (threshold_of X Y))) (sym (ap₂ ◌||◌ x y))

  module _ (y : eq Y plus0 ≡ false) where
    not_level : clear_by D (threshold_of X Y) ≡ filter_by D X Y
    not_level = ap (λ (b : Bool). cond b Level (clear_by D (threshold_of X Y))) (sym (ap₂ ◌||◌ x y))

    pub by_plus : lt (threshold_of X Y) D ≡ true → Plus ≡ filter_by D X Y
    by_plus e = ap (λ (b : Bool). cond b Plus (cond (lt D (neg (threshold_of X Y))) Minus Open)) (sym e) ∙ not_level

    module _ (e : lt (threshold_of X Y) D ≡ false) where
      not_plus : cond (lt D (neg (threshold_of X Y))) Minus Open ≡ filter_by D X Y
      not_plus = ap (λ (b : Bool). cond b Plus (cond (lt D (neg (threshold_of X Y))) Minus Open)) (sym e) ∙ not_level

      pub by_minus : lt D (neg (threshold_of X Y)) ≡ true → Minus ≡ filter_by D X Y
      by_minus f = ap (λ (b : Bool). cond b Minus Open) (sym f) ∙ not_plus

      pub by_none : lt D (neg (threshold_of X Y)) ≡ false → Open ≡ filter_by D X Y
      by_none f = ap (λ (b : Bool). cond b Minus Open) (sym f) ∙ not_plus

-- ---- 001's bounds
module _ (x y : Float) (rx : Reach reach x) (ry : Reach reach y) (some : 0 < mag binary64 (sub binary64 x y)) where
  -- a rounded difference that is not zero lies from 2 ^ -452 to 2 ^ 401
  pub difference_range : (2 ^ 622 ≤ mag binary64 (sub binary64 x y)) × (mag binary64 (sub binary64 x y) ≤ 2 ^ 1475)
  difference_range = sub_range reach x y (lit≤ tt) rx ry some

  -- so it is above 1e-146 and below 1e153, and needs no test of its own for underflow or overflow
  pub difference_tests : (2 ^ 1074 < mag binary64 (sub binary64 x y) * 10 ^ 146) × (mag binary64 (sub binary64 x y) < 10 ^ 153 * 2 ^ 1074)
  difference_tests =
      let (low, high) = difference_range in
      (lt_of_lt_of_le (lit< tt) (mul-le-mul_right (10 ^ 146) low), lt_of_le_of_lt high (lit< tt))
