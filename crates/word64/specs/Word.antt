-- Words of 64 binary digits: the last word of a product, and the difference of two words as a signed number. With both the roundoff of a
-- product (Side 10 of docs/RULES.md) is made from whole numbers.
use Rattle.std.specs.Prelude.{◌≡◌, ℕ, ◌*◌, ◌%◌, ◌^◌, ℤ, pos, ◌+ℤ◌, ◌-ℤ◌, ◌*ℤ◌, neg_ℤ, unsigned_abs}
use Rattle.whole.specs.Order.{◌≤ᶻ◌, ◌<ᶻ◌}

-- the promise of `last_of_product`: the product, without what stands above its last word
abbrev pub LastOfProductSays : ℕ → ℕ → ℕ → Type 0
LastOfProductSays a b r = r ≡ a * b % 2 ^ 64

-- the promise of `signed_difference`: the number from -2^63 to 2^63 - 1 that differs from a - b by a multiple of 2^64
pub record SignedDifferenceSays (a b : ℕ) (r : ℤ) : Type 0 where
  pub least : neg_ℤ (pos (2 ^ 63)) ≤ᶻ r
  pub most : r <ᶻ pos (2 ^ 63)
  pub differs : (words : ℤ) × (r +ℤ words *ℤ pos (2 ^ 64) ≡ pos a -ℤ pos b)

-- the promise of `magnitude`: z without its sign
abbrev pub MagnitudeSays : ℤ → ℕ → Type 0
MagnitudeSays z r = r ≡ unsigned_abs z
