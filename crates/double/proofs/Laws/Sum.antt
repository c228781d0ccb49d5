-- The sum and the difference of two finite values, in units: with P the plus parts together and N the minus parts, the sum is P - N
-- rounded, its plus part rn (P - N) and its minus part rn (N - P), where that does not overflow; one of the two is 0, and no case of
-- signs is left. In order: `add` as a sum of units; its operands swapped; the law of `add`; negation; the law of `sub`.
-- Not here: which of the zeros a sum of 0 is (`Zero`). Assumes nothing.
use mathlib.Core.Path.{◌≡◌, refl, sym, ap, ap₂, ◌∙◌, subst}
use mathlib.Core.Bool.{Bool, true, false, not, ◌&&◌, beq, cond}
use Prim.Native.Nat.{ℕ, ◌+◌, ◌-◌, ◌*◌, ◌^◌, ◌≤◌, ◌<◌}
use native.Mathlib.Nat.{add_comm, add-mul, mul_comm, mul-pos}
use native.Mathlib.Omega.{arith}
use lib.Dec.{T, ltb, ltb→lt, nltb→le}
use lib.Pow.{pow_pos}
use lib.Ieee.{Float, nan, inf, fin, Format, prec, low, up, down, round, sum, add, sub, neg}
use lib.Ieee.Fits.{down_pos, neg-fits}
use lib.Ieee.Scale.{round_same, finite, overflow}
use Rattle.double.specs.Worth.{sign_bit, mag, plus, minus, of_units}
use Rattle.double.proofs.Laws.Digits.{gap, sub_mul}
use Rattle.double.proofs.Laws.Rounding.{rn, rn_zero}
use Rattle.double.proofs.Laws.Units.{Real, Parts, of_units_parts}
use Rattle.double.proofs.Laws.Compare.{scaled_ltb, cross, cross_other}

-- ---- a sum over any common denominator is one in units
sum_same : (f : Format) (s : Bool) (a : ℕ) (t : Bool) (b c x y : ℕ) → 0 < c → a * 2 ^ low f ≡ x * c → b * 2 ^ low f ≡ y * c
    → sum f s a t b c ≡ sum f s x t y (2 ^ low f)
unfolding sum
sum_same f s a t b c x y C p q =
    let l = 2 ^ low f in
    let L = pow_pos (low f) in
    let less : ltb a b ≡ ltb x y = scaled_ltb a b x y l c C L p q in
    let more : ltb b a ≡ ltb y x = scaled_ltb b a y x l c C L q p in
    let minus_of : (a b x y : ℕ) → a * l ≡ x * c → b * l ≡ y * c → (a - b) * l ≡ (x - y) * c =
    λ a b x y p q. sub_mul a b l ∙ ap₂ (λ (v w : ℕ). v - w) p q ∙ sym (sub_mul x y c) in
    let r1 : round f s (a + b) c ≡ round f s (x + y) l =
    round_same f s (a + b) c (x + y) l C L (add-mul a b l ∙ ap₂ (λ (v w : ℕ). v + w) p q ∙ sym (add-mul x y c)) in
    let r2 : round f t (b - a) c ≡ round f t (y - x) l = round_same f t (b - a) c (y - x) l C L (minus_of b a y x q p) in
    let r3 : (u : Bool) → round f u (a - b) c ≡ round f u (x - y) l = λ u. round_same f u (a - b) c (x - y) l C L (minus_of a b x y p q) in
    ap (λ (z : Float). cond (beq s t) z (cond (ltb a b) (round f t (b - a) c) (round f (s && ltb b a) (a - b) c))) r1
    ∙ ap (λ (z : Float). cond (beq s t) (round f s (x + y) l) (cond (ltb a b) z (round f (s && ltb b a) (a - b) c))) r2
    ∙ ap (λ (z : Float). cond (beq s t) (round f s (x + y) l) (cond (ltb a b) (round f t (y - x) l) z)) (r3 (s && ltb b a))
    ∙ ap₂ (λ (g h : Bool). cond (beq s t) (round f s (x + y) l) (cond g (round f t (y - x) l) (round f (s && h) (x - y) l))) less more

pub add_is : (f : Format) (x y : Float) → Real f x → Real f y → add f x y ≡ sum f (sign_bit x) (mag f x) (sign_bit y) (mag f y) (2 ^ low f)
unfolding add
add_is f nan y u v = absurd u.fin
add_is f (inf s) y u v = absurd u.fin
add_is f (fin s m e) nan u v = absurd v.fin
add_is f (fin s m e) (inf t) u v = absurd v.fin
add_is f (fin s m e) (fin t n d) u v =
    sum_same f s (m * up e * down d) t (n * up d * down e) (down e * down d) (mag f (fin s m e)) (mag f (fin t n d))
    (mul-pos (down_pos e) (down_pos d)) (cross f s m e d u.fit) (cross_other f t n e d v.fit)

-- ---- the order of the two does not matter
sum_unlike : (f : Format) (a b c d : ℕ) → c ≡ d → sum f false a true b c ≡ sum f true b false a d
unfolding sum
sum_unlike f a b c d e = go (ltb a b) (ltb b a) (ltb→lt a b) (nltb→le a b) (ltb→lt b a) (nltb→le b a)
  where
    clash : a < b → b < a → ⊥
    clash h k = omega arith

    level : b ≤ a → a ≤ b → a - b ≡ b - a
    level h k = omega arith

    go : (g h : Bool) → (T g → a < b) → (T (not g) → b ≤ a) → (T h → b < a) → (T (not h) → a ≤ b)
        → cond g (round f true (b - a) c) (round f false (a - b) c) ≡ cond h (round f false (a - b) d) (round f g (b - a) d)
    go true true p q u v = absurd (clash (p tt) (u tt))
    go true false p q u v = ap (λ (k : ℕ). round f true (b - a) k) e
    go false true p q u v = ap (λ (k : ℕ). round f false (a - b) k) e
    go false false p q u v = ap₂ (λ (n k : ℕ). round f false n k) (level (q tt) (v tt)) e

sum_comm : (f : Format) (s : Bool) (a : ℕ) (t : Bool) (b c d : ℕ) → c ≡ d → sum f s a t b c ≡ sum f t b s a d
unfolding sum
sum_comm f false a false b c d e = ap₂ (λ (n k : ℕ). round f false n k) (add_comm a b) e
sum_comm f true a true b c d e = ap₂ (λ (n k : ℕ). round f true n k) (add_comm a b) e
sum_comm f false a true b c d e = sum_unlike f a b c d e
sum_comm f true a false b c d e = sym (sum_unlike f b a d c (sym e))

pub add_swap : (f : Format) (x y : Float) → add f x y ≡ add f y x
unfolding add
add_swap f nan nan = refl
add_swap f nan (inf t) = refl
add_swap f nan (fin t n d) = refl
add_swap f (inf s) nan = refl
add_swap f (inf true) (inf true) = refl
add_swap f (inf true) (inf false) = refl
add_swap f (inf false) (inf true) = refl
add_swap f (inf false) (inf false) = refl
add_swap f (inf s) (fin t n d) = refl
add_swap f (fin s m e) nan = refl
add_swap f (fin s m e) (inf t) = refl
add_swap f (fin s m e) (fin t n d) =
    sum_comm f s (m * up e * down d) t (n * up d * down e) (down e * down d) (down d * down e) (mul_comm (down e) (down d))

-- ---- the law of a sum
-- n units on the side u, where P - N is that: on the one side n ≡ P - N, on the other N ≡ P
by_parts : (f : Format) (u : Bool) (n P N : ℕ) → rn (prec f) (gap P N) < overflow f → cond u 0 n ≡ P - N → cond u n 0 ≡ N - P
    → Parts f (of_units f u n) (rn (prec f) (P - N)) (rn (prec f) (N - P))
by_parts f false n P N h a b =
    let p = prec f in
    let r = of_units_parts f false n (subst (λ (z : ℕ). rn p z < overflow f) (whole n (P - N) (N - P) a b) h) in
    record {
      real = r.real;
      plus_is = r.plus_is ∙ ap (λ (z : ℕ). rn p z) a;
      minus_is = r.minus_is ∙ sym (rn_zero p) ∙ ap (λ (z : ℕ). rn p z) b;
    }
  where
    whole : (n a b : ℕ) → n ≡ a → 0 ≡ b → a + b ≡ n
    whole n a b p q = omega arith
by_parts f true n P N h a b =
    let p = prec f in
    let r = of_units_parts f true n (subst (λ (z : ℕ). rn p z < overflow f) (whole n (P - N) (N - P) a b) h) in
    record {
      real = r.real;
      plus_is = r.plus_is ∙ sym (rn_zero p) ∙ ap (λ (z : ℕ). rn p z) a;
      minus_is = r.minus_is ∙ ap (λ (z : ℕ). rn p z) b;
    }
  where
    whole : (n a b : ℕ) → 0 ≡ a → n ≡ b → a + b ≡ n
    whole n a b p q = omega arith

-- by the signs: r is the sum of x on the side s and y on the side t
Sums : Format → Bool → ℕ → Bool → ℕ → Float → Type 0
Sums f s x t y r =
    rn (prec f) (gap (cond s 0 x + cond t 0 y) (cond s x 0 + cond t y 0)) < overflow f
    → Parts f r (rn (prec f) ((cond s 0 x + cond t 0 y) - (cond s x 0 + cond t y 0)))
    (rn (prec f) ((cond s x 0 + cond t y 0) - (cond s 0 x + cond t 0 y)))

sum_parts : (f : Format) (s : Bool) (x : ℕ) (t : Bool) (y : ℕ) → Sums f s x t y (sum f s x t y (2 ^ low f))
unfolding sum of_units Sums
sum_parts f false x false y = λ h. by_parts f false (x + y) (x + y) (0 + 0) h (omega arith) (omega arith)
sum_parts f true x true y = λ h. by_parts f true (x + y) (0 + 0) (x + y) h (omega arith) (omega arith)
sum_parts f false x true y = go (ltb x y) (ltb→lt x y) (nltb→le x y)
  where
    go : (b : Bool) → (T b → x < y) → (T (not b) → y ≤ x)
        → Sums f false x true y (cond b (of_units f true (y - x)) (of_units f false (x - y)))
    go true a b = let l = a tt in λ h. by_parts f true (y - x) (x + 0) (0 + y) h (omega arith) (omega arith)
    go false a b = let l = b tt in λ h. by_parts f false (x - y) (x + 0) (0 + y) h (omega arith) (omega arith)
sum_parts f true x false y = go (ltb x y) (ltb→lt x y) (nltb→le x y)
  where
    last : (b : Bool) → (T b → y < x) → (T (not b) → x ≤ y) → y ≤ x → Sums f true x false y (of_units f b (x - y))
    last true a b k = λ h. by_parts f true (x - y) (0 + y) (x + 0) h (omega arith) (omega arith)
    last false a b k = let l = b tt in λ h. by_parts f false (x - y) (0 + y) (x + 0) h (omega arith) (omega arith)

    go : (b : Bool) → (T b → x < y) → (T (not b) → y ≤ x)
        → Sums f true x false y (cond b (of_units f false (y - x)) (of_units f (ltb y x) (x - y)))
    go true a b = let l = a tt in λ h. by_parts f false (y - x) (0 + y) (x + 0) h (omega arith) (omega arith)
    go false a b = last (ltb y x) (ltb→lt y x) (nltb→le y x) (b tt)

module _ (f : Format) (x y : Float) (rx : Real f x) (ry : Real f y) where
  pub add_law : (let P = plus f x + plus f y in let N = minus f x + minus f y in
      rn (prec f) (gap P N) < overflow f → Parts f (add f x y) (rn (prec f) (P - N)) (rn (prec f) (N - P)))
  unfolding Sums
  add_law h =
      let P = plus f x + plus f y in
      let N = minus f x + minus f y in
      subst (λ (z : Float). Parts f z (rn (prec f) (P - N)) (rn (prec f) (N - P))) (sym (add_is f x y rx ry))
      (sum_parts f (sign_bit x) (mag f x) (sign_bit y) (mag f y) h)

-- ---- negation changes the side
pub neg_plus : (f : Format) (x : Float) → T (finite x) → plus f (neg x) ≡ minus f x
unfolding neg
neg_plus f nan u = absurd u
neg_plus f (inf s) u = absurd u
neg_plus f (fin true m e) u = refl
neg_plus f (fin false m e) u = refl

pub neg_minus : (f : Format) (x : Float) → T (finite x) → minus f (neg x) ≡ plus f x
unfolding neg
neg_minus f nan u = absurd u
neg_minus f (inf s) u = absurd u
neg_minus f (fin true m e) u = refl
neg_minus f (fin false m e) u = refl

pub neg_sign_bit : (x : Float) → T (finite x) → sign_bit (neg x) ≡ not (sign_bit x)
unfolding neg
neg_sign_bit nan u = absurd u
neg_sign_bit (inf s) u = absurd u
neg_sign_bit (fin s m e) u = refl

pub neg_mag : (f : Format) (x : Float) → mag f (neg x) ≡ mag f x
unfolding neg
neg_mag f nan = refl
neg_mag f (inf s) = refl
neg_mag f (fin s m e) = refl

pub neg_real : (f : Format) (x : Float) → Real f x → Real f (neg x)
unfolding neg
neg_real f x r = record { fin = same x r.fin; fit = neg-fits f x r.fit }
  where
    same : (x : Float) → T (finite x) → T (finite (neg x))
    same nan u = u
    same (inf s) u = u
    same (fin s m e) u = u

-- ---- the law of a difference
module _ (f : Format) (x y : Float) (rx : Real f x) (ry : Real f y) where
  pub sub_law : (let P = plus f x + minus f y in let N = minus f x + plus f y in
      rn (prec f) (gap P N) < overflow f → Parts f (sub f x y) (rn (prec f) (P - N)) (rn (prec f) (N - P)))
  unfolding sub
  sub_law = rw (← neg_plus f y ry.fin, ← neg_minus f y ry.fin) (add_law f x (neg y) rx (neg_real f y ry))
