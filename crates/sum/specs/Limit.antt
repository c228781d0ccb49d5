-- The numbers of the sum. The list's limit is a power of two, and the ceiling's divisor follows from that power.
use Rattle.std.specs.Prelude.{ℕ, ◌-◌, ◌^◌}

abbrev pub power : ℕ
power = 10

-- Sum 1: the most entries of a list, 1,024
abbrev pub limit : ℕ
limit = 2 ^ power

-- Ceiling 2: the 43 is a double's 53 digits, less the power
abbrev pub divisor : ℕ
divisor = 53 - power
