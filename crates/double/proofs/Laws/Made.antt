-- Doubles made of a whole number and powers of two. In order: a product with a power of two; a power of two from its field; a whole number up
-- to 2 ^ 53 either way, times two powers of two, is the double of so many units, where they are whole. Not here: what that double is worth
-- (`Worth`). Assumes nothing.
use mathlib.Core.Path.{◌≡◌, refl, sym, ap, ap₂, ◌∙◌, subst}
use mathlib.Core.Bool.{Bool, true, false}
use Prim.Native.Nat.{ℕ, zero, suc, ◌+◌, ◌-◌, ◌*◌, ◌/◌, ◌%◌, ◌^◌, ◌≤◌, ◌<◌}
use native.Mathlib.Nat.{le_trans, le_of_eq, lt_irrefl, lt_of_le_of_lt, zero-lt-suc}
use native.Mathlib.Nat.{mul-one, mul_right_comm, mul-le-mul_right, eq_of_mul-eq-mul_right, dvd-mul_left}
use native.Mathlib.Omega.{arith}
use lib.Dec.{T, leb, eqb, leb→le, ltb→lt}
use lib.IntN.{ℤ, pos, negsuc, ◌*ℤ◌}
use lib.Pow.{pow-add, pow_pos, pow-lt}
use lib.Ieee.{Float, Format, binary64, prec, emax, low, unlike, round, mul, of_int, in_float, of_fields, of_bits}
use lib.Ieee.Bits.{of_bits-fits}
use lib.Ieee.Exact.{HasValue, odd_sign}
use lib.Ieee.Scale.{overflow, round_same}
use borrow.Author.Tests.{lt-leb, ne_eqb}
use Rattle.whole.proofs.Laws.Parts.{up, dn, mul_parts}
use Rattle.double.specs.Worth.{of_units, double_of}
use Rattle.double.proofs.Laws.Digits.{rep_of}
use Rattle.double.proofs.Laws.Rounding.{rn, rn_kept}
use Rattle.double.proofs.Laws.Units.{Known, prec_pos, value_known, of_units_fits, of_units_value}
use Rattle.double.proofs.Laws.Multiply.{mul_whole}

-- a times a power of two needs no rounding: it has at most `prec` digits, and is below overflow
scaled_known : (f : Format) (s : Bool) (a j : ℕ) → a ≤ 2 ^ prec f → prec f + j < low f + suc (emax f)
    → Known f (of_units f s (a * 2 ^ j)) s (a * 2 ^ j)
scaled_known f s a j h l =
    let n = a * 2 ^ j in
    let short : n ≤ 2 ^ (prec f + j) = le_trans (mul-le-mul_right (2 ^ j) h) (le_of_eq (sym (pow-add 2 (prec f) j))) in
    let kept : rn (prec f) n ≡ n = rn_kept (prec f) (rep_of (prec f) j n (prec_pos f) (dvd-mul_left (2 ^ j) a) short) in
    let small : rn (prec f) n < overflow f = lt_of_le_of_lt (le_of_eq kept) (lt_of_le_of_lt short (pow-lt l)) in
    subst (λ (m : ℕ). Known f (of_units f s n) s m) kept
    (value_known f (of_units f s n) s (rn (prec f) n) (of_units_fits f s n) (of_units_value f s n small))

-- the second factor is above 0, so the product has the sign of the first
mul_known : (f : Format) (x y : Float) (s : Bool) (a b Q : ℕ) → Known f x s a → Known f y false b → a * b ≡ Q * 2 ^ low f
    → mul f x y ≡ of_units f s Q
mul_known f x y s a b Q X Y e =
    mul_whole f x y Q X.real Y.real (ap₂ (λ (v w : ℕ). v * w) X.mag_is Y.mag_is ∙ e)
    ∙ ap (λ (t : Bool). of_units f t Q) (ap₂ unlike X.sign_is Y.sign_is ∙ own s)
  where
    own : (s : Bool) → unlike s false ≡ s
    own true = refl
    own false = refl

-- ---- a power of two from its field: the pattern k * 2 ^ 52 is the double 2 ^ (k - 1023), which is 2 ^ (51 + k) units
power_value : (j : ℕ) → j < 2046 → HasValue (of_bits binary64 (suc j * 2 ^ 52)) false (2 ^ 52 * 2 ^ j) (2 ^ low binary64)
unfolding of_bits of_fields
power_value j h =
    let b = suc j * 2 ^ 52 in
    let sign : leb (2 ^ 63) b ≡ false = lt-leb (2 ^ 63) b (omega arith) in
    let field : b % 2 ^ 63 / 2 ^ 52 ≡ suc j = omega arith in
    let digits : b % 2 ^ 52 ≡ 0 = omega arith in
    let number : eqb (suc j) 2047 ≡ false = ne_eqb (suc j) 2047 (omega arith) in
    rw (sign, field, digits, number) (odd_sign 53 false (2 ^ 52) j (low binary64))

power_known : (k : ℕ) → 0 < k → k ≤ 2046 → Known binary64 (of_bits binary64 (k * 2 ^ 52)) false (2 ^ (51 + k))
power_known zero h l = absurd (lt_irrefl 0 h)
power_known (suc j) h l =
    let x = of_bits binary64 (suc j * 2 ^ 52) in
    let next : 52 + j ≡ 51 + suc j = omega arith in
    subst (λ (n : ℕ). Known binary64 x false n) (sym (pow-add 2 52 j) ∙ ap (λ (i : ℕ). 2 ^ i) next)
    (value_known binary64 x false (2 ^ 52 * 2 ^ j) (of_bits-fits binary64 (suc j * 2 ^ 52)) (power_value j l))

-- ---- n as a double, times two powers of two: the double of n * 2 ^ e / 2 ^ c units, where that is whole
-- 1 is 2 ^ low units
whole_units : (f : Format) (s : Bool) (a : ℕ) → round f s a 1 ≡ of_units f s (a * 2 ^ low f)
unfolding of_units
whole_units f s a = round_same f s a 1 (a * 2 ^ low f) (2 ^ low f) (zero-lt-suc 0) (pow_pos (low f)) (sym (mul-one (a * 2 ^ low f)))

-- the first product is exact, and the second is rounded as b units are
scaled_twice : (f : Format) (s : Bool) (a b j k : ℕ) (x y : Float) → Known f x false (2 ^ j) → Known f y false (2 ^ k)
    → a ≤ 2 ^ prec f → prec f + low f < low f + suc (emax f) → prec f + j < low f + suc (emax f)
    → a * 2 ^ j * 2 ^ k ≡ b * 2 ^ low f → mul f (mul f (round f s a 1) x) y ≡ of_units f s b
scaled_twice f s a b j k x y X Y h g l e =
    let u = 2 ^ low f in
    let n = a * 2 ^ j in
    ap (λ (z : Float). mul f (mul f z x) y) (whole_units f s a)
    ∙ ap (λ (z : Float). mul f z y)
    (mul_known f (of_units f s (a * u)) x s (a * u) (2 ^ j) n (scaled_known f s a (low f) h g) X (mul_right_comm a u (2 ^ j)))
    ∙ mul_known f (of_units f s n) y s n (2 ^ k) b (scaled_known f s a j h l) Y e

-- the exponents of both sides add up alike
add_up : (a b c e j k l : ℕ) → j + k + c ≡ l + e → b * 2 ^ c ≡ a * 2 ^ e → a * 2 ^ j * 2 ^ k ≡ b * 2 ^ l
add_up a b c e j k l h g =
    let powers : 2 ^ j * 2 ^ k * 2 ^ c ≡ 2 ^ l * 2 ^ e = rw (← pow-add 2 j k, ← pow-add 2 (j + k) c, h, pow-add 2 l e) in
    eq_of_mul-eq-mul_right (2 ^ c) (pow_pos c) (a * 2 ^ j * 2 ^ k) (b * 2 ^ l)
    (omega (arith, ap (λ (x : ℕ). a * x) powers, ap (λ (x : ℕ). x * 2 ^ l) g))

-- either sign at once
made : (e c : ℕ) → 0 < e → e ≤ 2046 → c ≤ 971 → (s : Bool) (a b : ℕ) → a ≤ 2 ^ 53 → b * 2 ^ c ≡ a * 2 ^ e
    → mul binary64 (mul binary64 (round binary64 s a 1) (of_bits binary64 ((972 - c) * 2 ^ 52))) (of_bits binary64 (e * 2 ^ 52))
    ≡ of_units binary64 s b
made e c h l g s a b m q =
    let j = 51 + (972 - c) in
    scaled_twice binary64 s a b j (51 + e) (of_bits binary64 ((972 - c) * 2 ^ 52)) (of_bits binary64 (e * 2 ^ 52))
    (power_known (972 - c) (omega arith) (omega arith)) (power_known e h l) m (omega arith) (omega arith)
    (add_up a b c e j (51 + e) (low binary64) (omega arith) q)

-- the two equal products as an equation of ℕ: it fails where z and n differ in sign
same_parts : (z n : ℤ) (u v : ℕ) → z *ℤ pos u ≡ n *ℤ pos v → up z * u + dn n * v ≡ up n * v + dn z * u
unfolding up dn
same_parts z n u v q = omega (arith, mul_parts z (pos u), mul_parts n (pos v), ap up q, ap dn q)

pub units_made : (n z : ℤ) (e c : ℕ) → T (in_float binary64 n) → 0 < e → e ≤ 2046 → c ≤ 971 → z *ℤ pos (2 ^ c) ≡ n *ℤ pos (2 ^ e)
    → mul binary64 (mul binary64 (of_int binary64 n) (of_bits binary64 ((972 - c) * 2 ^ 52))) (of_bits binary64 (e * 2 ^ 52)) ≡ double_of z
unfolding in_float of_int double_of up dn
units_made (pos a) (pos b) e c t h l g q =
    made e c h l g false a b (leb→le a (2 ^ 53) t) (omega (arith, same_parts (pos b) (pos a) (2 ^ c) (2 ^ e) q))
units_made (pos a) (negsuc b) e c t h l g q =
    let z : ⊥ = omega (arith, same_parts (negsuc b) (pos a) (2 ^ c) (2 ^ e) q, pow_pos c) in absurd z
units_made (negsuc a) (pos b) e c t h l g q =
    let z : ⊥ = omega (arith, same_parts (pos b) (negsuc a) (2 ^ c) (2 ^ e) q, pow_pos e) in absurd z
units_made (negsuc a) (negsuc b) e c t h l g q =
    made e c h l g true (suc a) (suc b) (ltb→lt a (2 ^ 53) t) (omega (arith, same_parts (negsuc b) (negsuc a) (2 ^ c) (2 ^ e) q))
