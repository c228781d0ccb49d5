-- The product of two finite values, where it is a whole number Q of units: Q rounded, with the product's sign.
-- In order: products that are whole; `mul` as `of_units`; by the parts of either sign, finite; infinite.
-- Not here: the roundoff of a product; a product that is no whole number of units. Assumes nothing.
use mathlib.Core.Path.{◌≡◌, sym, ap, ap₂, ◌∙◌, subst}
use mathlib.Core.Bool.{Bool, true, false, not, cond}
use mathlib.Core.Logic.{◌⊎◌, inl, inr}
use Prim.Native.Nat.{ℕ, ◌+◌, ◌*◌, ◌/◌, ◌^◌, ◌≤◌, ◌<◌, ◌∣◌}
use native.Mathlib.Nat.{not-le_of_lt, mul_assoc, mul_right_comm, mul-mul-mul_comm, mul-pos, zero-mul, mul-zero, eq_of_mul-eq-mul_right}
use native.Mathlib.Nat.{dvd_trans, dvd-mul_left, mul-dvd-mul, dvd_of_mul-dvd-mul_right, div-mul_cancel}
use lib.Pow.{pow-add, pow_pos}
use lib.Ieee.{Float, nan, inf, fin, Format, prec, low, up, down, unlike, mul}
use lib.Ieee.Fits.{down_pos}
use lib.Ieee.Scale.{overflow, round_same}
use Rattle.double.specs.Worth.{sign_bit, mag, of_units}
use Rattle.double.proofs.Laws.Rounding.{rn, rn_zero}
use Rattle.double.proofs.Laws.Units.{Real, Parts, mag_exact, of_units_parts, of_units_inf}
use Rattle.double.proofs.Laws.Signed.{part, Split, split_of, of_units_split, part_only}

-- ---- a product of multiples of 2 ^ k1 and 2 ^ k2, where k1 + k2 is k + l, is 2 ^ l times a multiple of 2 ^ k
module _ (X Y k1 k2 k l : ℕ) (u : 2 ^ k1 ∣ X) (v : 2 ^ k2 ∣ Y) (e : k1 + k2 ≡ k + l) where
  factor : 2 ^ k * 2 ^ l ∣ X * Y
  factor =
      subst (λ (z : ℕ). z ∣ X * Y) (sym (pow-add 2 k1 k2) ∙ ap (λ (z : ℕ). 2 ^ z) e ∙ pow-add 2 k l)
      (mul-dvd-mul (2 ^ k1) (2 ^ k2) u v)

  pub product_whole : X * Y ≡ X * Y / 2 ^ l * 2 ^ l
  product_whole = sym (div-mul_cancel (2 ^ l) (dvd_trans (2 ^ l) (dvd-mul_left (2 ^ l) (2 ^ k)) factor))

  pub product_grain : 2 ^ k ∣ X * Y / 2 ^ l
  product_grain =
      dvd_of_mul-dvd-mul_right {k = 2 ^ l} (2 ^ k) (pow_pos l) (subst (λ (z : ℕ). 2 ^ k * 2 ^ l ∣ z) product_whole factor)

pub mul_whole : (f : Format) (x y : Float) (Q : ℕ) → Real f x → Real f y → mag f x * mag f y ≡ Q * 2 ^ low f
    → mul f x y ≡ of_units f (unlike (sign_bit x) (sign_bit y)) Q
unfolding mul of_units
mul_whole f nan y Q rx ry e = absurd rx.fin
mul_whole f (inf s) y Q rx ry e = absurd rx.fin
mul_whole f (fin s m d) nan Q rx ry e = absurd ry.fin
mul_whole f (fin s m d) (inf t) Q rx ry e = absurd ry.fin
mul_whole f (fin s m d) (fin t n c) Q rx ry e =
    let l = 2 ^ low f in
    let L = pow_pos (low f) in
    let X = mag f (fin s m d) in
    let Y = mag f (fin t n c) in
    round_same f (unlike s t) (m * up d * (n * up c)) (down d * down c) Q l (mul-pos (down_pos d) (down_pos c)) L
    (eq_of_mul-eq-mul_right l L (m * up d * (n * up c) * l) (Q * (down d * down c))
    (mul_assoc (m * up d * (n * up c)) l l
    ∙ mul-mul-mul_comm (m * up d) (n * up c) l l
    ∙ ap₂ (λ (v w : ℕ). v * w) (mag_exact f (fin s m d) rx.fit) (mag_exact f (fin t n c) ry.fit)
    ∙ mul-mul-mul_comm X (down d) Y (down c)
    ∙ ap (λ (z : ℕ). z * (down d * down c)) e
    ∙ mul_right_comm Q l (down d * down c)))

-- ---- by sides: a product of 0 has no sign to mind
of_units_zero : (f : Format) (s t : Bool) → Split s f (of_units f t 0) (rn (prec f) 0) 0
of_units_zero f s t = go s t (of_units_parts f t 0 (subst (λ (n : ℕ). n < overflow f) (sym (rn_zero (prec f))) (pow_pos _)))
  where
    z : rn (prec f) 0 ≡ 0
    z = rn_zero (prec f)

    go : (s t : Bool) → Parts f (of_units f t 0) (cond t 0 (rn (prec f) 0)) (cond t (rn (prec f) 0) 0)
        → Split s f (of_units f t 0) (rn (prec f) 0) 0
    go false false r = split_of false f (of_units f false 0) (rn (prec f) 0) 0 r
    go true true r = split_of true f (of_units f true 0) (rn (prec f) 0) 0 r
    go false true r = record { real = r.real; same = r.plus_is ∙ sym z; other = r.minus_is ∙ z }
    go true false r = record { real = r.real; same = r.minus_is ∙ sym z; other = r.plus_is ∙ z }

none : (Q l : ℕ) → 0 < l → 0 ≡ Q * l → Q ≡ 0
none Q l L e = eq_of_mul-eq-mul_right l L Q 0 (sym e ∙ sym (zero-mul l))

-- x has nothing on the side of not s, y nothing on that of not t
module _ (f : Format) (s t : Bool) (x y : Float) (rx : Real f x) (ry : Real f y) (ox : part (not s) f x ≡ 0) (oy : part (not t) f y ≡ 0)
    (Q : ℕ) (e : part s f x * part t f y ≡ Q * 2 ^ low f) where
  -- either the signs are s and t, or the product is 0
  signs : (mul f x y ≡ of_units f (unlike (sign_bit x) (sign_bit y)) Q) × ((unlike (sign_bit x) (sign_bit y) ≡ unlike s t) ⊎ (Q ≡ 0))
  signs =
      let a = part_only s f x ox in
      let b = part_only t f y oy in
      let l = 2 ^ low f in
      let L = pow_pos (low f) in (
        mul_whole f x y Q rx ry (ap₂ (λ (v w : ℕ). v * w) a.0 b.0 ∙ e),
        elim a.1 [
          | inr z ↦ inr (none Q l L (sym (zero-mul (part t f y)) ∙ ap (λ (v : ℕ). v * part t f y) (sym z) ∙ e))
          | inl u ↦ elim b.1 [
            | inr z ↦ inr (none Q l L (sym (mul-zero (part s f x)) ∙ ap (λ (v : ℕ). part s f x * v) (sym z) ∙ e))
            | inl v ↦ inl (ap₂ (λ (g h : Bool). unlike g h) u v)
          ]
        ],
      )

  pub mul_split : rn (prec f) Q < overflow f → Split (unlike s t) f (mul f x y) (rn (prec f) Q) 0
  mul_split h = let g = signs in go (unlike (sign_bit x) (sign_bit y)) g.0 g.1
    where
      r : Bool
      r = unlike s t

      go : (u : Bool) → mul f x y ≡ of_units f u Q → (u ≡ r) ⊎ (Q ≡ 0) → Split r f (mul f x y) (rn (prec f) Q) 0
      go u w (inl k) =
          let v = w ∙ ap (λ (z : Bool). of_units f z Q) k in
          subst (λ (z : Float). Split r f z (rn (prec f) Q) 0) (sym v) (of_units_split f r Q h)
      go u w (inr k) =
          let v = w ∙ ap (λ (z : ℕ). of_units f u z) k in
          subst (λ (z : ℕ). Split r f (mul f x y) (rn (prec f) z) 0) (sym k)
          (subst (λ (z : Float). Split r f z (rn (prec f) 0) 0) (sym v) (of_units_zero f r u))

  pub mul_inf : overflow f ≤ rn (prec f) Q → mul f x y ≡ inf (unlike s t)
  mul_inf h = let g = signs in elim g.1 [
    | inl k ↦ g.0 ∙ ap (λ (z : Bool). of_units f z Q) k ∙ of_units_inf f (unlike s t) Q h
    | inr k ↦ absurd (not-le_of_lt (pow_pos _) (subst (λ (z : ℕ). overflow f ≤ z) (ap (rn (prec f)) k ∙ rn_zero (prec f)) h))
  ]
