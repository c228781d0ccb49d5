-- A value a against a count n times a value b, rounded once, which may be infinite; a and b are not negative. In order: a count as a
-- float is exact up to 2 ^ prec; the test `n * b < a` of floats is one of whole numbers; where it holds, n times b is below a; where it
-- does not, a is at most 2 ^ k times b for n up to 2 ^ k. Not here: which a, b and n the sum's rule takes. Assumes nothing.
use mathlib.Core.Path.{◌≡◌, sym, ap, ap₂, ◌∙◌, subst}
use mathlib.Core.Bool.{Bool, true, false, not}
use Prim.Native.Nat.{ℕ, ◌*◌, ◌^◌, ◌≤◌, ◌<◌}
use native.Mathlib.Nat.{le_trans, le_of_lt, mul-one, mul_right_comm}
use lib.Arith.{le→nltb}
use lib.Dec.{T, ltb, ltb→lt, nltb→le}
use lib.IntN.{pos}
use lib.Ieee.{Float, nan, inf, fin, Format, prec, low, up, down, round, of_int, mul, lt}
use lib.Ieee.Exact.{HasValue}
use lib.Ieee.Back.{round_whole}
use lib.Ieee.Bits.{is_false}
use lib.Ieee.Fits.{of_int-fits}
use lib.Ieee.Scale.{overflow}
use Rattle.double.proofs.Laws.Digits.{Rep}
use Rattle.double.proofs.Laws.Rounding.{rn}
use Rattle.double.proofs.Laws.Units.{prec_pos, value_parts}
use Rattle.double.proofs.Laws.Compare.{inf_lt}
use Rattle.double.proofs.Laws.Signed.{part, Split, split_of, part_rep, part_lt, lt_split}
use Rattle.double.proofs.Laws.Multiply.{mul_split, mul_inf}
use Rattle.double.proofs.Laws.Difference.{rounded_less, rounded_close}

-- ---- a count as a float
-- a fraction over 1 as one over 2 ^ low
in_units : (f : Format) (x : Float) (s : Bool) (n : ℕ) → HasValue x s n 1 → HasValue x s (n * 2 ^ low f) (2 ^ low f)
in_units f nan s n h = absurd h
in_units f (inf t) s n h = absurd h
in_units f (fin t m e) s n h =
    (h.0, ap (λ (z : ℕ). z * 2 ^ low f) (sym (mul-one (m * up e)) ∙ h.1) ∙ mul_right_comm n (down e) (2 ^ low f))

-- and exact
pub count_split : (f : Format) (n : ℕ) → n ≤ 2 ^ prec f → Split false f (of_int f (pos n)) (n * 2 ^ low f) 0
unfolding of_int
count_split f n h =
    let x = round f false n 1 in
    split_of false f x (n * 2 ^ low f) 0
    (value_parts f x false (n * 2 ^ low f) (of_int-fits f (pos n)) (in_units f x false n (round_whole f false n h)))

-- ---- the test: a is A units, b is B
module _ (f : Format) (a b : Float) (n A B : ℕ) (sa : Split false f a A 0) (sb : Split false f b B 0)
    (h : n ≤ 2 ^ prec f) where
  c : Split false f (of_int f (pos n)) (n * 2 ^ low f) 0
  c = count_split f n h

  product : part false f (of_int f (pos n)) * part false f b ≡ n * B * 2 ^ low f
  product = ap₂ (λ (v w : ℕ). v * w) c.same sb.same ∙ mul_right_comm n (2 ^ low f) B

  -- finite or infinite, as whole numbers
  pub decision_test : lt (mul f (of_int f (pos n)) b) a ≡ ltb (rn (prec f) (n * B)) A
  decision_test = go (ltb Q (overflow f)) (ltb→lt Q (overflow f)) (nltb→le Q (overflow f))
    where
      Q : ℕ
      Q = rn (prec f) (n * B)

      t : Float
      t = mul f (of_int f (pos n)) b

      past : (z : ℕ) → z < overflow f → overflow f ≤ Q → ltb Q z ≡ false
      past z u v = is_false (ltb Q z) (le→nltb Q z (le_trans (le_of_lt u) v))

      under : A < overflow f
      under = subst (λ (z : ℕ). z < overflow f) sa.same (part_lt false f a sa.real)

      go : (w : Bool) → (T w → Q < overflow f) → (T (not w) → overflow f ≤ Q) → lt t a ≡ ltb Q A
      go true u v =
          let m = mul_split f false false (of_int f (pos n)) b c.real sb.real c.other sb.other (n * B) product (u tt) in
          lt_split false f t a Q A m sa
      go false u v =
          ap (λ (z : Float). lt z a)
          (mul_inf f false false (of_int f (pos n)) b c.real sb.real c.other sb.other (n * B) product (v tt))
          ∙ inf_lt a sa.real.fin ∙ sym (past A under (v tt))

  -- decided: a is greater than n times b
  pub decision_greater : T (lt (mul f (of_int f (pos n)) b) a) → n * B < A
  decision_greater t =
      let rep_a : Rep (prec f) A = subst (λ (z : ℕ). Rep (prec f) z) sa.same (part_rep false f a sa.real) in
      rounded_less (prec f) (prec_pos f) rep_a (ltb→lt (rn (prec f) (n * B)) A (subst T decision_test t))

  -- undecided: a is not far above b
  pub decision_close : (k : ℕ) → n ≤ 2 ^ k → T (not (lt (mul f (of_int f (pos n)) b) a)) → A ≤ B * 2 ^ k
  decision_close k l t =
      let rep_b : Rep (prec f) B = subst (λ (z : ℕ). Rep (prec f) z) sb.same (part_rep false f b sb.real) in
      rounded_close (prec f) (prec_pos f) A n B k rep_b l
      (nltb→le (rn (prec f) (n * B)) A (subst (λ (z : Bool). T (not z)) decision_test t))
