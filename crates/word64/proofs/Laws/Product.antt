-- The last word of a product. In order: a product of two halves is a word; the product by halves; the promise. Assumes nothing.
use Rattle.std.proofs.Common.{◌≡◌, ℕ, ◌+◌, ◌-◌, ◌*◌, ◌/◌, ◌%◌, ◌^◌, ◌<◌, ◌≤◌, sym, ◌∙◌, ap₂, mul-le-mul, arith}
use Rattle.refusal.specs.Outcome.{Fixes}
use Rattle.word64.specs.Word.{LastOfProductSays}

-- ---- halves
pub halves_fit : (x y : ℕ) → x < 2 ^ 32 → y < 2 ^ 32 → x * y < 2 ^ 64
halves_fit x y hx hy =
    let p : x ≤ 2 ^ 32 - 1 = omega arith in
    let q : y ≤ 2 ^ 32 - 1 = omega arith in
    omega (arith, mul-le-mul p q)

-- what the upper halves' product adds is a multiple of 2^64, and so is what the middle loses
pub product_by_halves : (a b middle : ℕ) → middle ≡ (a / 2 ^ 32 * (b % 2 ^ 32) + a % 2 ^ 32 * (b / 2 ^ 32)) % 2 ^ 64
    → (a % 2 ^ 32 * (b % 2 ^ 32) + middle % 2 ^ 32 * 2 ^ 32) % 2 ^ 64 ≡ a * b % 2 ^ 64
product_by_halves a b middle e =
    let p : a ≡ a / 2 ^ 32 * 2 ^ 32 + a % 2 ^ 32 = omega arith in
    let q : b ≡ b / 2 ^ 32 * 2 ^ 32 + b % 2 ^ 32 = omega arith in
    omega (arith, ap₂ ◌*◌ p q)

-- ---- the promise, which no two results satisfy
pub last_of_product_fixed : (a b : ℕ) → Fixes (LastOfProductSays a b)
last_of_product_fixed a b r s p q = p ∙ sym q
