-- The difference of two patterns, as the track file stores it: Track 5 and 6 of docs/RULES.md.
use Rattle.std.specs.Prelude.{◌≡◌, ℕ, ◌+◌, ◌-◌, ◌*◌, ◌/◌, ◌%◌, ◌^◌, cond, ℤ, pos, negsuc, ◌==◌, nat_lt}

-- Track 5: a pattern less the one that came before it on its axis, wrapping at 2^64
abbrev pub difference : ℕ → ℕ → ℕ
difference pattern before = (pattern + (2 ^ 64 - before)) % 2 ^ 64

-- Track 6: that difference as a signed number d: p below 2^63 is itself, any other is p - 2^64 (`negsuc n` is -(n+1))
abbrev pub signed : ℕ → ℤ
signed p = cond (nat_lt p (2 ^ 63)) (pos p) (negsuc (2 ^ 64 - 1 - p))

-- Track 6: 2d is stored if d is 0 or above, -2d-1 if d is below 0
abbrev pub folded : ℤ → ℕ
folded (pos n) = 2 * n
folded (negsuc n) = 2 * n + 1

unfoldable pub stored_of : ℕ → ℕ → ℕ
stored_of pattern before = folded (signed (difference pattern before))

-- Track 6, for the reader: the d of a stored number
abbrev pub unfolded : ℕ → ℤ
unfolded number = cond (number % 2 == 0) (pos (number / 2)) (negsuc (number / 2))

-- d as a 64-bit pattern
abbrev pub unsigned : ℤ → ℕ
unsigned (pos n) = n
unsigned (negsuc n) = 2 ^ 64 - 1 - n

-- Track 5, for the reader: the pattern of a stored number, from the one that came before it on its axis
unfoldable pub restored_of : ℕ → ℕ → ℕ
restored_of number before = (unsigned (unfolded number) + before) % 2 ^ 64

-- Track 6, the promise: the number that is stored
abbrev pub StoredSays : ℕ → ℕ → ℕ → Type 0
StoredSays pattern before r = r ≡ stored_of pattern before
