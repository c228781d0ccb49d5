-- A double and its bit pattern, by IEEE 754 as `lib.Ieee` has it. Every NaN is one: its other bits are not kept.
use Rattle.std.specs.Prelude.{ℕ, ◌≡◌, Float}
use Rattle.std.specs.Float.{binary64}
use Rattle.std.specs.Float.Ieee.{of_bits, to_bits}

-- Numbers 8, the promise: the double that these bits are
abbrev pub FromPatternSays : ℕ → Float → Type 0
FromPatternSays bits r = r ≡ of_bits binary64 bits

-- Numbers 8, the promise: the bits of a double
abbrev pub ToPatternSays : Float → ℕ → Type 0
ToPatternSays x r = r ≡ to_bits binary64 x
