-- The order of whole numbers. It is that of `lib.Signed`, under names that bind looser than `+ℤ` and `*ℤ`, so that a +ℤ b <ᶻ c *ℤ d
-- reads as written.
use Rattle.std.specs.Prelude.{ℤ, ◌≤ℤ◌, ◌<ℤ◌}

-- a is at most b
infix 4 ◌≤ᶻ◌
abbrev pub ◌≤ᶻ◌ : ℤ → ℤ → Type 0
a ≤ᶻ b = ◌≤ℤ◌ a b

-- a is less than b
infix 4 ◌<ᶻ◌
abbrev pub ◌<ᶻ◌ : ℤ → ℤ → Type 0
a <ᶻ b = ◌<ℤ◌ a b
