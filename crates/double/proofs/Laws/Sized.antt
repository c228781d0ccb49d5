-- Grains and bounds of doubles. `Sized g b x`: x is a finite double, a multiple of 2 ^ g units and at most 2 ^ b units in magnitude.
-- `Sided s g b x n` says besides that x is n units on the side s. A difference and a product of two such are again such, and it is said
-- how many units they are. In order: the two records; the reach of a coordinate; differences; products. Not here: roundoffs (`Roundoff`).
-- Assumes nothing.
use mathlib.Core.Path.{◌≡◌, refl, sym, ap, ap₂, ◌∙◌, subst}
use mathlib.Core.Bool.{Bool, true, false, not, cond}
use mathlib.Core.Logic.{◌⊎◌, inl, inr}
use Prim.Native.Nat.{ℕ, suc, ◌+◌, ◌-◌, ◌*◌, ◌/◌, ◌^◌, ◌≤◌, ◌<◌, ◌∣◌}
use native.Mathlib.Nat.{le_trans, le_of_eq, le_of_lt, lt_of_le_of_lt, mul-le-mul, le_of_mul-le-mul_right, zero-lt-suc, add-zero}
use native.Mathlib.Nat.{two-pow-succ, dvd-add, dvd-sub, dvd-zero, le_of_dvd}
use native.Mathlib.Omega.{arith}
use lib.Dec.{T, ltb, ltb→lt, nltb→le}
use lib.Pow.{pow-add, pow_pos, pow-lt}
use lib.Ieee.{Float, binary64, sub, mul, unlike, size}
use Rattle.double.specs.Worth.{sign_bit, mag, plus, minus}
use Rattle.double.proofs.Laws.Digits.{gap, size_gt, rep_pow, dvd_lower}
use Rattle.double.proofs.Laws.Rounding.{rn, rn_le, rn_dvd, rn_zero, rn_zero_only}
use Rattle.double.proofs.Laws.Units.{Real, Parts, mag_rep}
use Rattle.double.proofs.Laws.Sum.{sub_law}
use Rattle.double.proofs.Laws.Signed.{part, Split, split_of, split_own, part_both}
use Rattle.double.proofs.Laws.Multiply.{product_whole, product_grain, mul_split}

pub record Sized (g b : ℕ) (x : Float) : Type 0 where
  pub real : Real binary64 x
  pub grain : 2 ^ g ∣ mag binary64 x
  pub most : mag binary64 x ≤ 2 ^ b

pub record Sided (s : Bool) (g b : ℕ) (x : Float) (n : ℕ) : Type 0 where
  pub split : Split s binary64 x n 0
  pub grain : 2 ^ g ∣ n
  pub most : n ≤ 2 ^ b

pub split_mag : {s : Bool} {x : Float} {n : ℕ} → Split s binary64 x n 0 → mag binary64 x ≡ n
split_mag {s} {x} {n} r = sym (part_both s binary64 x) ∙ ap₂ (λ (v w : ℕ). v + w) r.same r.other ∙ add-zero n

pub sized_of : {s : Bool} {g b : ℕ} {x : Float} {n : ℕ} → Sided s g b x n → Sized g b x
sized_of {g = g} r =
    let e = split_mag r.split in
    record { real = r.split.real; grain = subst (λ (z : ℕ). 2 ^ g ∣ z) (sym e) r.grain; most = le_trans (le_of_eq e) r.most }

-- a value on the side of its own sign
pub sided_own : {g b : ℕ} {x : Float} → Sized g b x → Sided (sign_bit x) g b x (mag binary64 x)
sided_own {x = x} r = record { split = split_own (sign_bit x) binary64 x r.real refl; grain = r.grain; most = r.most }

-- one that is not 0 is at least its grain
pub sized_least : {g b : ℕ} {x : Float} → Sized g b x → 0 < mag binary64 x → 2 ^ g ≤ mag binary64 x
sized_least r h = le_of_dvd h r.grain

-- ---- a coordinate of the reach k: a zero, or from 2 ^ -k to 2 ^ k in magnitude
abbrev pub Reach : ℕ → Float → Type 0
Reach k x = Sized (1022 - k) (1074 + k) x

pub reach_of : (k : ℕ) (x : Float) → Real binary64 x
    → (mag binary64 x ≡ 0) ⊎ ((2 ^ (1074 - k) ≤ mag binary64 x) × (mag binary64 x ≤ 2 ^ (1074 + k))) → Reach k x
reach_of k x r (inl e) = record {
  real = r;
  grain = subst (λ (z : ℕ). 2 ^ (1022 - k) ∣ z) (sym e) (dvd-zero (2 ^ (1022 - k)));
  most = le_trans (le_of_eq e) (le_of_lt (pow_pos (1074 + k)));
}
reach_of k x r (inr h) = record {
  real = r;
  grain = dvd_lower (deep (size (mag binary64 x)) (size_gt (mag binary64 x) (1074 - k) h.0)) (mag_rep binary64 x r);
  most = h.1;
}
  where
    deep : (z : ℕ) → 1074 - k < z → 1022 - k ≤ z - 53
    deep z h = omega arith

-- ---- both parts are multiples of the grain
part_grain : (s : Bool) {g b : ℕ} {x : Float} → Sized g b x → 2 ^ g ∣ part s binary64 x
part_grain s {g} {b} {x} r = go s (sign_bit x)
  where
    go : (s t : Bool) → 2 ^ g ∣ cond s (cond t (mag binary64 x) 0) (cond t 0 (mag binary64 x))
    go true true = r.grain
    go true false = dvd-zero (2 ^ g)
    go false true = dvd-zero (2 ^ g)
    go false false = r.grain

-- a power of two bounds what is rounded too
pub rn_pow : (n b : ℕ) → n ≤ 2 ^ b → rn 53 n ≤ 2 ^ b
rn_pow n b h = rn_le 53 n (2 ^ b) (zero-lt-suc 52) (rep_pow 53 b (zero-lt-suc 52)) h

-- ---- differences: x - y is gain - loss, and negative where it falls
abbrev pub gain : Float → Float → ℕ
gain x y = plus binary64 x + minus binary64 y

abbrev pub loss : Float → Float → ℕ
loss x y = minus binary64 x + plus binary64 y

abbrev pub falls : Float → Float → Bool
falls x y = ltb (gain x y) (loss x y)

abbrev pub apart : Float → Float → ℕ
apart x y = gap (gain x y) (loss x y)

side_of : (x : Float) (P N : ℕ) → Parts binary64 x (rn 53 (P - N)) (rn 53 (N - P)) → Split (ltb P N) binary64 x (rn 53 (gap P N)) 0
side_of x P N r = go (ltb P N) (ltb→lt P N) (nltb→le P N)
  where
    none : (n : ℕ) → n ≡ 0 → rn 53 n ≡ 0
    none n e = ap (λ (z : ℕ). rn 53 z) e ∙ rn_zero 53

    go : (s : Bool) → (T s → P < N) → (T (not s) → N ≤ P) → Split s binary64 x (rn 53 (gap P N)) 0
    go true h k =
        let l = h tt in
        split_of true binary64 x (rn 53 (gap P N)) 0 (record {
          real = r.real;
          plus_is = r.plus_is ∙ none (P - N) (omega arith);
          minus_is = r.minus_is ∙ ap (λ (z : ℕ). rn 53 z) (omega arith);
        })
    go false h k =
        let l = k tt in
        split_of false binary64 x (rn 53 (gap P N)) 0 (record {
          real = r.real;
          plus_is = r.plus_is ∙ ap (λ (z : ℕ). rn 53 z) (omega arith);
          minus_is = r.minus_is ∙ none (N - P) (omega arith);
        })

module _ (g b : ℕ) (x y : Float) (rx : Sized g b x) (ry : Sized g b y) (room : suc b < 2098) where
  apart_most : apart x y ≤ 2 ^ suc b
  apart_most =
      le_trans (far (plus binary64 x) (minus binary64 x) (plus binary64 y) (minus binary64 y) (mag binary64 x) (mag binary64 y) (2 ^ b)
      (part_both false binary64 x) (part_both false binary64 y) rx.most ry.most) (le_of_eq (sym (two-pow-succ b)))
    where
      far : (a b c d m n B : ℕ) → a + b ≡ m → c + d ≡ n → m ≤ B → n ≤ B → gap (a + d) (b + c) ≤ B + B
      far a b c d m n B p q h k = omega arith

  apart_grain : 2 ^ g ∣ apart x y
  apart_grain =
      let u = dvd-add (2 ^ g) (part_grain false rx) (part_grain true ry) in
      let v = dvd-add (2 ^ g) (part_grain true rx) (part_grain false ry) in
      dvd-add (2 ^ g) (dvd-sub (2 ^ g) u v) (dvd-sub (2 ^ g) v u)

  pub sub_sided : Sided (falls x y) g (suc b) (sub binary64 x y) (rn 53 (apart x y))
  sub_sided =
      let h : rn 53 (apart x y) ≤ 2 ^ suc b = rn_pow (apart x y) (suc b) apart_most in
      record {
        split = side_of (sub binary64 x y) (gain x y) (loss x y)
            (sub_law binary64 x y rx.real ry.real (lt_of_le_of_lt h (pow-lt room)));
        grain = rn_dvd 53 g apart_grain;
        most = h;
      }

-- a rounded difference is zero only where the values are equal
pub sub_zero_only : {g b : ℕ} (x y : Float) → Sided (falls x y) g b (sub binary64 x y) (rn 53 (apart x y))
    → mag binary64 (sub binary64 x y) ≡ 0 → gain x y ≡ loss x y
sub_zero_only x y r e = level (gain x y) (loss x y) (rn_zero_only 53 (apart x y) (zero-lt-suc 52) (sym (split_mag r.split) ∙ e))
  where
    level : (P N : ℕ) → gap P N ≡ 0 → P ≡ N
    level P N e = omega arith

-- and any other is at least a grain, and no infinity: from 2 ^ -452 to 2 ^ 401 at the reach 400
pub sub_range : (k : ℕ) (x y : Float) → k ≤ 1022 → Reach k x → Reach k y
    → 0 < mag binary64 (sub binary64 x y)
    → (2 ^ (1022 - k) ≤ mag binary64 (sub binary64 x y)) × (mag binary64 (sub binary64 x y) ≤ 2 ^ (1075 + k))
sub_range k x y h rx ry p =
    let r : Sized (1022 - k) (suc (1074 + k)) (sub binary64 x y) = sized_of (sub_sided (1022 - k) (1074 + k) x y rx ry (omega arith)) in
    (sized_least r p, le_trans r.most (le_of_eq (ap (λ (z : ℕ). 2 ^ z) (next k))))
  where
    next : (k : ℕ) → suc (1074 + k) ≡ 1075 + k
    next k = omega arith

-- it is finite
pub sub_real : (k : ℕ) (x y : Float) → k ≤ 1022 → Reach k x → Reach k y → Real binary64 (sub binary64 x y)
sub_real k x y h rx ry = (sub_sided (1022 - k) (1074 + k) x y rx ry (omega arith)).split.real

-- ---- products: m * n squares of units are that many units
abbrev pub units_of : ℕ → ℕ → ℕ
units_of m n = m * n / 2 ^ 1074

module _ (s t : Bool) (g1 b1 g2 b2 g : ℕ) (x y : Float) (m n : ℕ) (rx : Sided s g1 b1 x m) (ry : Sided t g2 b2 y n)
    (eg : g1 + g2 ≡ g + 1074) where
  pub units_whole : m * n ≡ units_of m n * 2 ^ 1074
  units_whole = product_whole m n g1 g2 g 1074 rx.grain ry.grain eg

  pub units_grain : 2 ^ g ∣ units_of m n
  units_grain = product_grain m n g1 g2 g 1074 rx.grain ry.grain eg

  module _ (b : ℕ) (eb : b1 + b2 ≡ b + 1074) (room : b < 2098) where
    units_most : units_of m n ≤ 2 ^ b
    units_most =
        le_of_mul-le-mul_right (le_trans (le_of_eq (sym units_whole)) (le_trans (mul-le-mul rx.most ry.most)
        (le_of_eq (sym (pow-add 2 b1 b2) ∙ ap (λ (z : ℕ). 2 ^ z) eb ∙ pow-add 2 b 1074)))) (pow_pos 1074)

    pub mul_sided : Sided (unlike s t) g b (mul binary64 x y) (rn 53 (units_of m n))
    mul_sided =
        let h : rn 53 (units_of m n) ≤ 2 ^ b = rn_pow (units_of m n) b units_most in
        record {
          split = mul_split binary64 s t x y rx.split.real ry.split.real rx.split.other ry.split.other (units_of m n)
              (ap₂ (λ (v w : ℕ). v * w) rx.split.same ry.split.same ∙ units_whole) (lt_of_le_of_lt h (pow-lt room));
          grain = rn_dvd 53 g units_grain;
          most = h;
        }
