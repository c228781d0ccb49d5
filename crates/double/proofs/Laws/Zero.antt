-- Which zero a sum of 0 is. In order: +0; values of unlike sign and equal magnitude add to +0, so x - x is +0; x + 0 is x, and +0 where x
-- is a zero, also by parts; a value against 0. Not here: the zero of a product. Assumes nothing.
use mathlib.Core.Path.{◌≡◌, refl, sym, ap, ap₂, ◌∙◌, subst}
use mathlib.Core.Bool.{Bool, true, false, not, cond}
use mathlib.Core.Logic.{inl, inr}
use Prim.Native.Nat.{ℕ, ◌+◌, ◌-◌, ◌^◌, ◌<◌, zero-le}
use native.Mathlib.Nat.{le_refl, eq-zero-or-pos, add-zero, zero-add, sub-zero}
use native.Mathlib.Omega.{arith}
use lib.Arith.{le→nltb}
use lib.IntN.{pos}
use lib.Dec.{ltb, lt→ltb}
use lib.Ieee.{Float, fin, Format, binary32, binary64, low, fits, round, size, units, odd, sum, add, sub, neg, lt}
use lib.Ieee.Bits.{is_false, is_true}
use Rattle.double.specs.Worth.{sign_bit, mag, plus, minus, of_units}
use Rattle.double.proofs.Laws.Units.{Real, mag_zero_parts, of_units_own}
use Rattle.double.proofs.Laws.Compare.{lt_is}
use Rattle.double.proofs.Laws.Sum.{add_is, neg_real, neg_sign_bit, neg_mag}
use Rattle.double.proofs.Laws.Signed.{part, Split, part_both}

-- +0, written as the formats write it
abbrev pub plus_zero : Float
plus_zero = fin false 0 (pos 0)

pub zero_real : (f : Format) → Real f plus_zero
unfolding fits
zero_real f = record { fin = tt; fit = tt }

pub zero_mag : (f : Format) → mag f plus_zero ≡ 0
zero_mag binary32 = refl
zero_mag binary64 = refl

of_units_plus_zero : (f : Format) → of_units f false 0 ≡ plus_zero
unfolding of_units round size units odd
of_units_plus_zero binary32 = refl
of_units_plus_zero binary64 = refl

-- no number is below 0
not_below : (n : ℕ) → ltb n 0 ≡ false
not_below n = is_false (ltb n 0) (le→nltb n 0 zero-le)

-- ---- unlike signs, equal magnitude
sum_cancel : (f : Format) (s : Bool) (n : ℕ) → sum f s n (not s) n (2 ^ low f) ≡ plus_zero
unfolding sum of_units
sum_cancel f s n = go s (is_false (ltb n n) (le→nltb n n (le_refl n))) (none n)
  where
    none : (n : ℕ) → n - n ≡ 0
    none n = omega arith

    go : (s : Bool) → ltb n n ≡ false → n - n ≡ 0 → sum f s n (not s) n (2 ^ low f) ≡ plus_zero
    go false b k = ap₂ (λ (b : Bool) (k : ℕ). cond b (of_units f true k) (of_units f false k)) b k ∙ of_units_plus_zero f
    go true b k = ap₂ (λ (b : Bool) (k : ℕ). cond b (of_units f false k) (of_units f b k)) b k ∙ of_units_plus_zero f

pub add_cancel : (f : Format) (x y : Float) → Real f x → Real f y → sign_bit y ≡ not (sign_bit x) → mag f y ≡ mag f x
    → add f x y ≡ plus_zero
add_cancel f x y rx ry s m =
    add_is f x y rx ry
    ∙ ap₂ (λ (t : Bool) (n : ℕ). sum f (sign_bit x) (mag f x) t n (2 ^ low f)) s m
    ∙ sum_cancel f (sign_bit x) (mag f x)

pub sub_self : (f : Format) (x : Float) → Real f x → sub f x x ≡ plus_zero
unfolding sub
sub_self f x r = add_cancel f x (neg x) r (neg_real f x r) (neg_sign_bit x r.fin) (neg_mag f x)

-- ---- x + 0
sum_zero : (f : Format) (s : Bool) (n : ℕ) → 0 < n → sum f s n false 0 (2 ^ low f) ≡ of_units f s n
unfolding sum of_units
sum_zero f false n h = ap (of_units f false) (add-zero n)
sum_zero f true n h =
    ap₂ (λ (b c : Bool). cond b (of_units f false (0 - n)) (of_units f c (n - 0)))
    (not_below n) (is_true (ltb 0 n) (lt→ltb 0 n h))
    ∙ ap (of_units f true) (sub-zero n)

add_plus_zero : (f : Format) (x : Float) → Real f x → 0 < mag f x → add f x plus_zero ≡ x
add_plus_zero f x r h =
    add_is f x plus_zero r (zero_real f)
    ∙ ap (λ (n : ℕ). sum f (sign_bit x) (mag f x) false n (2 ^ low f)) (zero_mag f)
    ∙ sum_zero f (sign_bit x) (mag f x) h ∙ of_units_own f x r

zero_plus_zero : (f : Format) (x : Float) → Real f x → mag f x ≡ 0 → add f x plus_zero ≡ plus_zero
unfolding sum of_units
zero_plus_zero f x r e =
    add_is f x plus_zero r (zero_real f)
    ∙ ap₂ (λ (n k : ℕ). sum f (sign_bit x) n false k (2 ^ low f)) e (zero_mag f)
    ∙ zeros (sign_bit x)
  where
    zeros : (s : Bool) → sum f s 0 false 0 (2 ^ low f) ≡ plus_zero
    zeros true = sum_cancel f true 0
    zeros false = of_units_plus_zero f

-- so by parts it is what x is
abbrev pub tidied : Format → Float → Float
tidied f x = add f x plus_zero

pub tidied_split : (s : Bool) (f : Format) (x : Float) → Real f x → Split s f (tidied f x) (part s f x) (part (not s) f x)
tidied_split s f x r = elim (eq-zero-or-pos (mag f x)) [
  | inl e ↦
      let b = part_both s f x in
      subst (λ (z : Float). Split s f z (part s f x) (part (not s) f x)) (sym (zero_plus_zero f x r e))
      (record {
        real = zero_real f;
        same = nothing s ∙ left (part s f x) (part (not s) f x) (mag f x) b e;
        other = nothing (not s) ∙ right (part s f x) (part (not s) f x) (mag f x) b e;
      })
  | inr h ↦
      subst (λ (z : Float). Split s f z (part s f x) (part (not s) f x)) (sym (add_plus_zero f x r h))
      (record { real = r; same = refl; other = refl })
]
  where
    nothing : (s : Bool) → part s f plus_zero ≡ 0
    nothing true = refl
    nothing false = zero_mag f

    left : (a b n : ℕ) → a + b ≡ n → n ≡ 0 → 0 ≡ a
    left a b n p q = omega arith

    right : (a b n : ℕ) → a + b ≡ n → n ≡ 0 → 0 ≡ b
    right a b n p q = omega arith

pub tidied_zero : (f : Format) (x : Float) → Real f x → mag f (tidied f x) ≡ 0 → tidied f x ≡ plus_zero
tidied_zero f x r e =
    let t = tidied_split false f x r in
    zero_plus_zero f x r
    (sym (part_both false f x) ∙ ap₂ (λ (a b : ℕ). a + b) (sym t.same) (sym t.other) ∙ part_both false f (tidied f x) ∙ e)

-- ---- against 0: above it where there is a plus part, below it where there is a minus part
zero_parts : (f : Format) → (plus f plus_zero ≡ 0) × (minus f plus_zero ≡ 0)
zero_parts f = (mag_zero_parts f plus_zero).0 (zero_mag f)

pub lt_positive : (f : Format) (x : Float) → Real f x → lt plus_zero x ≡ ltb 0 (plus f x)
lt_positive f x r =
    lt_is f plus_zero x (zero_real f) r
    ∙ rw ((zero_parts f).0, (zero_parts f).1) (one (sign_bit x) (mag f x))
  where
    one : (s : Bool) (n : ℕ) → ltb (0 + cond s n 0) (cond s 0 n + 0) ≡ ltb 0 (cond s 0 n)
    one true n = not_below (0 + n)
    one false n = ap (ltb 0) (add-zero n)

pub lt_negative : (f : Format) (x : Float) → Real f x → lt x plus_zero ≡ ltb 0 (minus f x)
lt_negative f x r =
    lt_is f x plus_zero r (zero_real f)
    ∙ rw ((zero_parts f).0, (zero_parts f).1) (one (sign_bit x) (mag f x))
  where
    one : (s : Bool) (n : ℕ) → ltb (cond s 0 n + 0) (0 + cond s n 0) ≡ ltb 0 (cond s n 0)
    one true n = ap (ltb 0) (zero-add n)
    one false n = not_below (n + 0)
