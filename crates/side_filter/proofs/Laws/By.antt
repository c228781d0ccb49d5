-- A whole number as a difference of two naturals, `By z p n`: z is p - n. In order: the worth of a double, a natural number; sums,
-- differences, products; the order. Not here: the parts of which one is 0 (`Parts` of crate whole). Assumes nothing.
use mathlib.Core.Path.{◌≡◌, ap}
use mathlib.Core.Bool.{false}
use Prim.Native.Nat.{ℕ, ◌+◌, ◌*◌, ◌≤◌, ◌<◌}
use native.Mathlib.Omega.{arith}
use lib.IntN.{ℤ, pos, ◌+ℤ◌, ◌-ℤ◌, ◌*ℤ◌, neg_ℤ}
use lib.Ieee.{Float, binary64}
use Rattle.whole.specs.Order.{◌≤ᶻ◌, ◌<ᶻ◌}
use Rattle.whole.proofs.Laws.Parts.{up, dn, add_parts, mul_parts, up_neg, dn_neg, ≡_parts, ≤_parts, <_parts}
use Rattle.double.specs.Worth.{mag, plus, minus, worth}
use Rattle.double.proofs.Laws.Signed.{part_both}
use Rattle.double.proofs.Laws.Worth.{worth_up, worth_dn}

pub record By (z : ℤ) (p n : ℕ) : Type 0 where
  pub eq : up z + n ≡ dn z + p

pub by_worth : (x : Float) → By (worth x) (plus binary64 x) (minus binary64 x)
by_worth x = record { eq = omega (arith, worth_up x, worth_dn x) }

-- of one that is not below 0
pub by_mag : (x : Float) → minus binary64 x ≡ 0 → By (worth x) (mag binary64 x) 0
by_mag x h = record { eq = omega (arith, worth_up x, worth_dn x, part_both false binary64 x) }

pub by_pos : (n : ℕ) → By (pos n) n 0
unfolding up dn
by_pos n = record { eq = omega arith }

-- ---- sums, differences, products
pub by_add : {z w : ℤ} {p n q m : ℕ} → By z p n → By w q m → By (z +ℤ w) (p + q) (n + m)
by_add {z} {w} h k = record { eq = omega (arith, h.eq, k.eq, add_parts z w) }

pub by_sub : {z w : ℤ} {p n q m : ℕ} → By z p n → By w q m → By (z -ℤ w) (p + m) (n + q)
by_sub {z} {w} h k = record { eq = omega (arith, h.eq, k.eq, add_parts z (neg_ℤ w), up_neg w, dn_neg w) }

pub by_mul : {z w : ℤ} {p n q m : ℕ} → By z p n → By w q m → By (z *ℤ w) (p * q + n * m) (p * m + n * q)
by_mul {z} {w} {p} {n} {q} {m} h k =
    let a = ap (λ (t : ℕ). t * up w) h.eq in
    let b = ap (λ (t : ℕ). t * dn w) h.eq in
    let c = ap (λ (t : ℕ). t * p) k.eq in
    let d = ap (λ (t : ℕ). t * n) k.eq in
    record { eq = omega (arith, mul_parts z w) }

-- times one that is not below 0
pub by_scale : {z w : ℤ} {p n q : ℕ} → By z p n → By w q 0 → By (z *ℤ w) (p * q) (n * q)
by_scale h k = record { eq = omega (arith, (by_mul h k).eq) }

-- ---- the order
pub by-≤ : {z w : ℤ} {p n q m : ℕ} → By z p n → By w q m → p + m ≤ q + n → z ≤ᶻ w
by-≤ {z} {w} h k l = (≤_parts z w).1 (omega (arith, h.eq, k.eq))

pub by_positive : {z : ℤ} {p n : ℕ} → By z p n → n < p → pos 0 <ᶻ z
unfolding up dn
by_positive {z} h l = (<_parts (pos 0) z).1 (omega (arith, h.eq))

pub by_negative : {z : ℤ} {p n : ℕ} → By z p n → p < n → z <ᶻ pos 0
unfolding up dn
by_negative {z} h l = (<_parts z (pos 0)).1 (omega (arith, h.eq))

pub by_zero : {z : ℤ} {p n : ℕ} → By z p n → p ≡ n → z ≡ pos 0
unfolding up dn
by_zero {z} h l = (≡_parts z (pos 0)).1 (omega (arith, h.eq))
