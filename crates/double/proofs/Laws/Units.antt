-- Values of a format in whole units of its smallest one, 2 ^ - low. In order: a value that fits is a whole number of units (`mag`) of
-- at most `prec` digits, below overflow; a fraction of 2 ^ low read as sign and magnitude (`Known`); n units rounded (`of_units`), finite or
-- infinite, and its parts `plus` and `minus`; a finite value is known by sign bit and magnitude.
-- Not here: `worth`, the whole number in ℤ (`Worth`); arithmetic (`Sum`, `Multiply`). Assumes nothing.
use mathlib.Core.Path.{◌≡◌, refl, sym, ap, ap₂, ◌∙◌, subst}
use mathlib.Core.Logic.{◌↔◌}
use mathlib.Core.Bool.{Bool, true, false, ◌&&◌, cond}
use Prim.Native.Nat.{ℕ, zero, suc, ◌+◌, ◌-◌, ◌*◌, ◌/◌, ◌%◌, ◌^◌, ◌≤◌, ◌<◌}
use native.Mathlib.Nat.{le_trans, le_of_eq, le_of_lt, lt_of_lt_of_le, lt_of_le_of_lt, not-le_of_lt, lt_of_not-le, le_of_suc-le-suc}
use native.Mathlib.Nat.{one-mul, mul-one, zero-mul, mul_comm, mul_assoc, mul_right_comm, mul-pos, mul-le-mul_right, mul-lt-mul_of_pos_right}
use native.Mathlib.Nat.{lt_of_mul-lt-mul_right, mul-div_cancel, dvd-mul_left}
use native.Mathlib.Omega.{arith}
use lib.IntN.{ℤ, pos, negsuc}
use lib.Dec.{T, leb, ltb, eqb, leb→le, ltb→lt, eqb→eq}
use lib.Pow.{pow-add, pow_pos, pow-lt}
use lib.Ieee.{Float, nan, inf, fin, Format, prec, emax, low, up, down, size, odd, units, fits, to_bits, of_bits, top, hid}
use lib.Ieee.Fits.{round_is, round-fits, down_pos, up_pos, and_l, and_r, two, two-le_pos, core}
use lib.Ieee.Exact.{HasValue, units_val}
use lib.Ieee.Nearest.{closest, closest_same}
use lib.Ieee.Scale.{finite, overflow}
use lib.Ieee.Positive.{num, den}
use lib.Ieee.Bits.{of_bits-to_bits}
use Rattle.double.specs.Worth.{sign_bit, mag, plus, minus, of_units}
use Rattle.double.proofs.Laws.Digits.{cut, ulp, Rep, rep_of}
use Rattle.double.proofs.Laws.Rounding.{rn, rn_kept}

-- x is a finite value of the format
pub record Real (f : Format) (x : Float) : Type 0 where
  pub fin : T (finite x)
  pub fit : T (fits f x)

-- a format has digits
pub prec_pos : (f : Format) → 0 < prec f
prec_pos f = two-le_pos (prec f) (two f)

-- ---- a value that fits is a whole number of units
-- what `fits` says of a finite value
record Held (f : Format) (m : ℕ) (e : ℤ) : Type 0 where
  digits : m < 2 ^ prec f
  fine : down e ≤ 2 ^ low f
  small : m * up e < 2 ^ suc (emax f) * down e

held : (f : Format) (s : Bool) (m : ℕ) (e : ℤ) → T (fits f (fin s m e)) → Held f m e
unfolding fits
held f s zero e t =
    let one : up e * down e ≤ 1 = le_of_eq (eqb→eq (up e * down e) 1 t) in
    let below : 1 * down e ≤ up e * down e = mul-le-mul_right (down e) (up_pos e) in
    record {
      digits = pow_pos (prec f);
      fine = le_trans (le_of_eq (sym (one-mul (down e)))) (le_trans below (le_trans one (pow_pos (low f))));
      small = lt_of_le_of_lt (le_of_eq (zero-mul (up e))) (mul-pos (pow_pos (suc (emax f))) (down_pos e));
    }
held f s (suc m) e t =
    let a : Bool = eqb (suc m % 2) 1 in
    let b : Bool = ltb (suc m) (2 ^ prec f) in
    let c : Bool = leb (down e) (2 ^ low f) in
    let d : Bool = ltb (suc m * up e) (2 ^ suc (emax f) * down e) in
    record {
      digits = ltb→lt (suc m) (2 ^ prec f) (and_r a b (and_l (a && b) c (and_l (a && b && c) d t)));
      fine = leb→le (down e) (2 ^ low f) (and_r (a && b) c (and_l (a && b && c) d t));
      small = ltb→lt (suc m * up e) (2 ^ suc (emax f) * down e) (and_r (a && b && c) d t);
    }

-- 2 ^ low / down e is 2 ^ j
grain : (f : Format) (e : ℤ) → down e ≤ 2 ^ low f → (j : ℕ) × (up e * 2 ^ low f ≡ 2 ^ j * down e)
grain f (pos k) h = (k + low f, sym (pow-add 2 k (low f)) ∙ sym (mul-one (2 ^ (k + low f))))
grain f (negsuc k) h = (
  low f - suc k,
  one-mul (2 ^ low f) ∙ ap (λ (x : ℕ). 2 ^ x) (sym (back (suc k) (low f) (exponent (suc k) (low f) h))) ∙ pow-add 2 (low f - suc k) (suc k),
)
  where
    exponent : (k l : ℕ) → 2 ^ k ≤ 2 ^ l → k ≤ l
    exponent k l h = le_of_suc-le-suc (lt_of_not-le (λ (g : suc l ≤ k). not-le_of_lt (pow-lt g) h))

    back : (i j : ℕ) → i ≤ j → j - i + i ≡ j
    back i j h = omega arith

-- so the magnitude of `fin s m e` is m * 2 ^ j
mag_is : (f : Format) (s : Bool) (m : ℕ) (e : ℤ) → T (fits f (fin s m e))
    → (j : ℕ) × (mag f (fin s m e) ≡ m * 2 ^ j) × (m * up e * 2 ^ low f ≡ m * 2 ^ j * down e)
mag_is f s m e t =
    let g = grain f e (held f s m e t).fine in
    let q : m * up e * 2 ^ low f ≡ m * 2 ^ g.0 * down e =
    mul_assoc m (up e) (2 ^ low f) ∙ ap (λ (x : ℕ). m * x) g.1 ∙ sym (mul_assoc m (2 ^ g.0) (down e)) in
    (g.0, ap (λ (x : ℕ). x / down e) q ∙ mul-div_cancel (m * 2 ^ g.0) (down_pos e), q)

-- the division in `mag` leaves nothing
pub mag_exact : (f : Format) (x : Float) → T (fits f x) → num x * 2 ^ low f ≡ mag f x * den x
mag_exact f nan t = none (0 * 2 ^ low f)
  where
    none : (n : ℕ) → n ≡ n / 1 * 1
    none n = omega arith
mag_exact f (inf s) t = none (0 * 2 ^ low f)
  where
    none : (n : ℕ) → n ≡ n / 1 * 1
    none n = omega arith
mag_exact f (fin s m e) t = let g = mag_is f s m e t in g.2 ∙ ap (λ (x : ℕ). x * down e) (sym g.1)

-- it has at most `prec` digits ..
pub mag_rep : (f : Format) (x : Float) → Real f x → Rep (prec f) (mag f x)
mag_rep f nan r = absurd r.fin
mag_rep f (inf s) r = absurd r.fin
mag_rep f (fin s m e) r =
    let g = mag_is f s m e r.fit in
    let short : m * 2 ^ g.0 ≤ 2 ^ (prec f + g.0) =
    le_trans (mul-le-mul_right (2 ^ g.0) (le_of_lt (held f s m e r.fit).digits)) (le_of_eq (sym (pow-add 2 (prec f) g.0))) in
    subst (λ (x : ℕ). Rep (prec f) x) (sym g.1) (rep_of (prec f) g.0 (m * 2 ^ g.0) (prec_pos f) (dvd-mul_left (2 ^ g.0) m) short)

-- .. and is below overflow
pub mag_lt : (f : Format) (x : Float) → Real f x → mag f x < overflow f
mag_lt f nan r = absurd r.fin
mag_lt f (inf s) r = absurd r.fin
mag_lt f (fin s m e) r =
    let l = 2 ^ low f in
    let c = 2 ^ suc (emax f) in
    let turn : c * down e * l ≡ overflow f * down e =
    mul_right_comm c (down e) l ∙ ap (λ (x : ℕ). x * down e) (mul_comm c l ∙ sym (pow-add 2 (low f) (suc (emax f)))) in
    lt_of_mul-lt-mul_right (down e)
    (lt_of_le_of_lt (le_of_eq (sym (mag_exact f (fin s m e) r.fit)))
    (lt_of_lt_of_le (mul-lt-mul_of_pos_right (held f s m e r.fit).small (pow_pos (low f))) (le_of_eq turn)))

-- ---- a fraction of 2 ^ low, read as sign and magnitude
pub value_mag : (f : Format) (x : Float) (s : Bool) (n : ℕ) → HasValue x s n (2 ^ low f) → mag f x ≡ n
value_mag f nan s n h = absurd h
value_mag f (inf t) s n h = absurd h
value_mag f (fin t m e) s n h = ap (λ (x : ℕ). x / down e) h.1 ∙ mul-div_cancel n (down_pos e)

pub value_sign_bit : (x : Float) (s : Bool) (n c : ℕ) → HasValue x s n c → sign_bit x ≡ s
value_sign_bit nan s n c h = absurd h
value_sign_bit (inf t) s n c h = absurd h
value_sign_bit (fin t m e) s n c h = h.0

pub value_finite : (x : Float) (s : Bool) (n c : ℕ) → HasValue x s n c → T (finite x)
value_finite nan s n c h = absurd h
value_finite (inf t) s n c h = absurd h
value_finite (fin t m e) s n c h = tt

-- x is the finite value of sign s and of n units
pub record Known (f : Format) (x : Float) (s : Bool) (n : ℕ) : Type 0 where
  pub real : Real f x
  pub sign_is : sign_bit x ≡ s
  pub mag_is : mag f x ≡ n

pub value_known : (f : Format) (x : Float) (s : Bool) (n : ℕ) → T (fits f x) → HasValue x s n (2 ^ low f) → Known f x s n
value_known f x s n t h = record {
  real = record { fin = value_finite x s n (2 ^ low f) h; fit = t };
  sign_is = value_sign_bit x s n (2 ^ low f) h;
  mag_is = value_mag f x s n h;
}

-- what the parts of x are
pub record Parts (f : Format) (x : Float) (a b : ℕ) : Type 0 where
  pub real : Real f x
  pub plus_is : plus f x ≡ a
  pub minus_is : minus f x ≡ b

pub value_parts : (f : Format) (x : Float) (s : Bool) (n : ℕ) → T (fits f x) → HasValue x s n (2 ^ low f)
    → Parts f x (cond s 0 n) (cond s n 0)
value_parts f x s n t h =
    let b : sign_bit x ≡ s = value_sign_bit x s n (2 ^ low f) h in
    let m : mag f x ≡ n = value_mag f x s n h in
    record {
      real = record { fin = value_finite x s n (2 ^ low f) h; fit = t };
      plus_is = ap₂ (λ (t : Bool) (z : ℕ). cond t 0 z) b m;
      minus_is = ap₂ (λ (t : Bool) (z : ℕ). cond t z 0) b m;
    }

-- both parts are 0 exactly where the magnitude is
pub mag_zero_parts : (f : Format) (x : Float) → (mag f x ≡ 0) ↔ ((plus f x ≡ 0) × (minus f x ≡ 0))
mag_zero_parts f x = (parts (sign_bit x), whole (sign_bit x))
  where
    parts : (s : Bool) → mag f x ≡ 0 → (cond s 0 (mag f x) ≡ 0) × (cond s (mag f x) 0 ≡ 0)
    parts false e = (e, refl)
    parts true e = (refl, e)

    whole : (s : Bool) → (cond s 0 (mag f x) ≡ 0) × (cond s (mag f x) 0 ≡ 0) → mag f x ≡ 0
    whole false h = h.0
    whole true h = h.1

-- ---- n units, rounded: `rn` of n, or infinite
pub of_units_fits : (f : Format) (s : Bool) (n : ℕ) → T (fits f (of_units f s n))
unfolding of_units
of_units_fits f s n = round-fits f s n (2 ^ low f)

of_units_is : (f : Format) (s : Bool) (n : ℕ) → of_units f s n ≡ units f s (closest n (ulp (prec f) n)) (cut (prec f) n)
unfolding of_units
of_units_is f s n =
    let l = 2 ^ low f in
    let L = pow_pos (low f) in
    let k = cut (prec f) n in
    let K = pow_pos k in
    round_is f s n l
    ∙ ap (λ (z : ℕ). core f s (n * l) l (size z - prec f)) (mul-div_cancel n L)
    ∙ ap (λ (z : ℕ). units f s z k) (closest_same (n * l) (l * 2 ^ k) n (2 ^ k) (mul-pos L K) K (mul_assoc n l (2 ^ k)))

pub of_units_value : (f : Format) (s : Bool) (n : ℕ) → rn (prec f) n < overflow f → HasValue (of_units f s n) s (rn (prec f) n) (2 ^ low f)
unfolding rn
of_units_value f s n h =
    let p = prec f in
    subst (λ (x : Float). HasValue x s (rn p n) (2 ^ low f)) (sym (of_units_is f s n)) (units_val f s (closest n (ulp p n)) (cut p n) h)

pub of_units_inf : (f : Format) (s : Bool) (n : ℕ) → overflow f ≤ rn (prec f) n → of_units f s n ≡ inf s
unfolding rn units
of_units_inf f s n h = of_units_is f s n ∙ go (ltb (rn (prec f) n) (overflow f)) (ltb→lt (rn (prec f) n) (overflow f))
  where
    go : (b : Bool) → (T b → rn (prec f) n < overflow f)
        → cond b (odd (suc (prec f)) s (closest n (ulp (prec f) n)) (cut (prec f) n) (low f)) (inf s) ≡ inf s
    go true k = absurd (not-le_of_lt (k tt) h)
    go false k = refl

pub of_units_parts : (f : Format) (s : Bool) (n : ℕ) → rn (prec f) n < overflow f
    → Parts f (of_units f s n) (cond s 0 (rn (prec f) n)) (cond s (rn (prec f) n) 0)
of_units_parts f s n h = value_parts f (of_units f s n) s (rn (prec f) n) (of_units_fits f s n) (of_units_value f s n h)

-- ---- a finite value is known by its sign bit and its magnitude
pub value_unique : (f : Format) (x y : Float) → Real f x → Real f y → sign_bit x ≡ sign_bit y → mag f x ≡ mag f y → x ≡ y
value_unique f x y rx ry s m =
    sym (of_bits-to_bits f x rx.fit)
    ∙ ap (λ (z : ℕ). of_bits f z) (pattern x rx.fin ∙ ap₂ fields s m ∙ sym (pattern y ry.fin))
    ∙ of_bits-to_bits f y ry.fit
  where
    fields : Bool → ℕ → ℕ
    fields t n = cond t (top f) 0 + (size n - prec f) * hid f + n / 2 ^ (size n - prec f)

    pattern : (x : Float) → T (finite x) → to_bits f x ≡ fields (sign_bit x) (mag f x)
    pattern nan u = absurd u
    pattern (inf s) u = absurd u
    pattern (fin s m e) u = unfold to_bits in refl

-- so it is its own magnitude, rounded
pub of_units_own : (f : Format) (x : Float) → Real f x → of_units f (sign_bit x) (mag f x) ≡ x
of_units_own f x r =
    let s = sign_bit x in
    let n = mag f x in
    let l = 2 ^ low f in
    let e : rn (prec f) n ≡ n = rn_kept (prec f) (mag_rep f x r) in
    let v : HasValue (of_units f s n) s (rn (prec f) n) l = of_units_value f s n (lt_of_le_of_lt (le_of_eq e) (mag_lt f x r)) in
    value_unique f (of_units f s n) x (record { fin = value_finite (of_units f s n) s (rn (prec f) n) l v; fit = of_units_fits f s n }) r
    (value_sign_bit (of_units f s n) s (rn (prec f) n) l v) (value_mag f (of_units f s n) s (rn (prec f) n) v ∙ e)
