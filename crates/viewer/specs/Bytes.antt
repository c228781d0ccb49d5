-- Doubles from patterns, and patterns from bytes: Viewer 1 and 2 of docs/RULES.md.
use Rattle.std.specs.Prelude.{ℕ, zero, suc, ◌+◌, ◌*◌, ◌/◌, List, [], ◌∷◌, length, take, drop, Float}
use Rattle.std.specs.Float.{binary64}
use Rattle.std.specs.Float.Ieee.{of_bits}
use Rattle.point.specs.declared.Point.{Point}

-- Viewer 1: the point that two patterns of 64 bits are
abbrev pub point_of : ℕ → ℕ → Point
point_of x y = record { x = of_bits binary64 x; y = of_bits binary64 y }

-- Viewer 2: little-endian: the lowest byte first, so that byte i counts 256^i
abbrev pub little_endian : List ℕ → ℕ
little_endian [] = 0
little_endian (b ∷ bytes) = b + 256 * little_endian bytes

-- Viewer 2: the bytes of a pattern, and of a corner: x, then y
abbrev pub pattern_bytes : ℕ
pattern_bytes = 8

abbrev pub corner_bytes : ℕ
corner_bytes = 16

-- the first n doubles of bytes
unfoldable pub doubles_from : ℕ → List ℕ → List Float
doubles_from zero bytes = []
doubles_from (suc n) bytes = of_bits binary64 (little_endian (take pattern_bytes bytes)) ∷ doubles_from n (drop pattern_bytes bytes)

-- all doubles of bytes, as a zone has them: x, y, x, y
unfoldable pub doubles_of : List ℕ → List Float
doubles_of bytes = doubles_from (length bytes / pattern_bytes) bytes
