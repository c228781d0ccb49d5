-- Negations, exactly. In order: two of them; what is rounded with the other sign; a negated factor negates the product, for zeros, infinities and
-- not-a-number too; a negation is worth the negated worth and keeps grain and bound; so does 0.0 - x, which is +0 where x is a zero.
-- Not here: negation by parts, sign bit and magnitude (`Sum`). Assumes nothing.
use mathlib.Core.Path.{◌≡◌, refl, sym, ap, ap₂, ◌∙◌, subst}
use mathlib.Core.Bool.{Bool, true, false, not, cond}
use Prim.Native.Nat.{ℕ, zero, suc, ◌+◌, ◌*◌, ◌^◌, ◌∣◌}
use native.Mathlib.Nat.{add_comm, le_trans, le_of_eq}
use native.Mathlib.Omega.{arith}
use lib.Dec.{ltb, eqb}
use lib.IntN.{ℤ, neg_ℤ}
use lib.Ieee.{Float, nan, inf, fin, Format, binary64, prec, low, emax, unlike, odd, units, round, mul, sub, neg}
use Rattle.whole.proofs.Laws.Parts.{up, dn, up_neg, dn_neg, ≡_parts}
use Rattle.double.specs.Worth.{mag, plus, minus, worth, double_of}
use Rattle.double.proofs.Laws.Units.{Real, Parts}
use Rattle.double.proofs.Laws.Worth.{worth_up, worth_dn, double_of_worth_own}
use Rattle.double.proofs.Laws.Sum.{add_swap, neg_plus, neg_minus, neg_real}
use Rattle.double.proofs.Laws.Signed.{part_both}
use Rattle.double.proofs.Laws.Zero.{plus_zero, tidied, tidied_split, tidied_zero}
use Rattle.double.proofs.Laws.Sized.{Sized}

-- ---- twice
pub neg_neg : (x : Float) → neg (neg x) ≡ x
unfolding neg
neg_neg nan = refl
neg_neg (inf true) = refl
neg_neg (inf false) = refl
neg_neg (fin true m e) = refl
neg_neg (fin false m e) = refl

-- ---- rounded with the other sign
odd_neg : (d : ℕ) (s : Bool) (q k l : ℕ) → odd d (not s) q k l ≡ neg (odd d s q k l)
unfolding odd neg
odd_neg d s zero k l = refl
odd_neg d s (suc q) k l = refl

units_neg : (f : Format) (s : Bool) (q k : ℕ) → units f (not s) q k ≡ neg (units f s q k)
unfolding units neg
units_neg f s q k = either (ltb (q * 2 ^ k) (2 ^ (low f + suc (emax f))))
  where
    either : (c : Bool)
        → cond c (odd (suc (prec f)) (not s) q k (low f)) (inf (not s)) ≡ neg (cond c (odd (suc (prec f)) s q k (low f)) (inf s))
    either true = odd_neg (suc (prec f)) s q k (low f)
    either false = refl

round_neg : (f : Format) (s : Bool) (n d : ℕ) → round f (not s) n d ≡ neg (round f s n d)
unfolding round
round_neg f s n d = units_neg f s _ _

-- ---- a negated factor
unlike_not : (s t : Bool) → unlike (not s) t ≡ not (unlike s t)
unlike_not true true = refl
unlike_not true false = refl
unlike_not false true = refl
unlike_not false false = refl

rounded : (f : Format) (s t : Bool) (n d : ℕ) → round f (unlike (not s) t) n d ≡ neg (round f (unlike s t) n d)
rounded f s t n d = ap (λ (u : Bool). round f u n d) (unlike_not s t) ∙ round_neg f (unlike s t) n d

-- zero times infinity is not a number
infinite : (c s t : Bool) → cond c nan (inf (unlike (not s) t)) ≡ neg (cond c nan (inf (unlike s t)))
unfolding neg
infinite true s t = refl
infinite false s t = ap inf (unlike_not s t)

pub mul_neg : (f : Format) (x y : Float) → mul f (neg x) y ≡ neg (mul f x y)
unfolding mul neg
mul_neg f nan y = refl
mul_neg f (inf s) nan = refl
mul_neg f (inf s) (inf t) = ap inf (unlike_not s t)
mul_neg f (inf s) (fin t n d) = infinite (eqb n 0) s t
mul_neg f (fin s m e) nan = refl
mul_neg f (fin s m e) (inf t) = infinite (eqb m 0) s t
mul_neg f (fin s m e) (fin t n d) = rounded f s t _ _

-- ---- a value with the parts of x swapped
abbrev Swapped : Float → Float → Type 0
Swapped x z = Parts binary64 z (minus binary64 x) (plus binary64 x)

swapped_worth : (x z : Float) → Swapped x z → worth z ≡ neg_ℤ (worth x)
swapped_worth x z s =
    parted (worth z) (worth x) (worth_up z ∙ s.plus_is ∙ sym (worth_dn x)) (worth_dn z ∙ s.minus_is ∙ sym (worth_up x))
  where
    parted : (w v : ℤ) → up w ≡ dn v → dn w ≡ up v → w ≡ neg_ℤ v
    parted w v a b = (≡_parts w (neg_ℤ v)).1 (omega (arith, up_neg v, dn_neg v))

swapped_sized : {g b : ℕ} (x z : Float) → Swapped x z → Sized g b x → Sized g b z
swapped_sized {g} x z s r = record {
  real = s.real;
  grain = subst (λ (n : ℕ). 2 ^ g ∣ n) (sym same) r.grain;
  most = le_trans (le_of_eq same) r.most;
}
  where
    same : mag binary64 z ≡ mag binary64 x
    same =
        sym (part_both false binary64 z) ∙ ap₂ (λ (m n : ℕ). m + n) s.plus_is s.minus_is
        ∙ add_comm (minus binary64 x) (plus binary64 x) ∙ part_both false binary64 x

-- ---- the negation
neg_swapped : (x : Float) → Real binary64 x → Swapped x (neg x)
neg_swapped x r = record {
  real = neg_real binary64 x r;
  plus_is = neg_plus binary64 x r.fin;
  minus_is = neg_minus binary64 x r.fin;
}

pub worth_neg : (x : Float) → Real binary64 x → worth (neg x) ≡ neg_ℤ (worth x)
worth_neg x r = swapped_worth x (neg x) (neg_swapped x r)

pub sized_neg : {g b : ℕ} {x : Float} → Sized g b x → Sized g b (neg x)
sized_neg {x = x} r = swapped_sized x (neg x) (neg_swapped x r.real) r

-- ---- 0.0 - x
module _ (x : Float) (r : Real binary64 x) where
  zero_less_is : sub binary64 plus_zero x ≡ tidied binary64 (neg x)
  unfolding sub
  zero_less_is = add_swap binary64 plus_zero (neg x)

  zero_less_swapped : Swapped x (sub binary64 plus_zero x)
  zero_less_swapped =
      let n = neg_swapped x r in
      let t = tidied_split false binary64 (neg x) n.real in
      subst (λ (z : Float). Swapped x z) (sym zero_less_is)
      (record { real = t.real; plus_is = t.same ∙ n.plus_is; minus_is = t.other ∙ n.minus_is })

  zero_less_real : Real binary64 (sub binary64 plus_zero x)
  zero_less_real = zero_less_swapped.real

  zero_less_worth : worth (sub binary64 plus_zero x) ≡ neg_ℤ (worth x)
  zero_less_worth = swapped_worth x (sub binary64 plus_zero x) zero_less_swapped

  zero_less_zero : mag binary64 (sub binary64 plus_zero x) ≡ 0 → sub binary64 plus_zero x ≡ plus_zero
  zero_less_zero e = zero_less_is ∙ tidied_zero binary64 (neg x) (neg_real binary64 x r) (ap (mag binary64) (sym zero_less_is) ∙ e)

  -- so it is the double of the negated worth
  pub zero_less : double_of (neg_ℤ (worth x)) ≡ sub binary64 plus_zero x
  zero_less = ap double_of (sym zero_less_worth) ∙ double_of_worth_own (sub binary64 plus_zero x) zero_less_real zero_less_zero

pub zero_less_sized : {g b : ℕ} {x : Float} → Sized g b x → Sized g b (sub binary64 plus_zero x)
zero_less_sized {x = x} r = swapped_sized x (sub binary64 plus_zero x) (zero_less_swapped x r.real) r
