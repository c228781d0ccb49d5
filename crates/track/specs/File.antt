-- The file of a list of points: Track 3 to 8 of docs/RULES.md. A list of points is x, y, x, y ..
use Rattle.std.specs.Prelude.{ℕ, ◌+◌, ◌*◌, ◌/◌, List, [], ◌∷◌, ◌++◌, length, Float}
use Rattle.std.specs.Float.{binary64}
use Rattle.std.specs.Float.Ieee.{to_bits}
use Rattle.number.specs.Number.{written_of}
use Rattle.coordinate.specs.Difference.{stored_of}

-- Track 3: the most points
abbrev pub limit : ℕ
limit = 512

-- Track 4 and 5: a number for each coordinate, x and y by turns: `before` is the pattern that came before on its axis, `other` that of the
-- other axis, whose turn is next
unfoldable pub coordinate_bytes : ℕ → ℕ → List Float → List ℕ
coordinate_bytes before other [] = []
coordinate_bytes before other (x ∷ xs) = written_of (stored_of (to_bits binary64 x) before) ++ coordinate_bytes other (to_bits binary64 x) xs

-- Track 3, 4, 5 and 7: the number of points, then the coordinates, 0 standing before the first of each axis; and there the file ends.
-- Track 12, that an accepted file is this one and reads back to the same points, is a law (Laws.Calls)
unfoldable pub file_of : List Float → List ℕ
unfolding coordinate_bytes
file_of points = written_of (length points / 2) ++ coordinate_bytes 0 0 points

-- the most bytes of a file of at most `most` points: the count's, and ten for each of two coordinates per point
abbrev pub largest : ℕ → ℕ
largest most = length (written_of most) + 10 * (2 * most)

-- Track 8: the most bytes of a file (Laws.Calls: that is `largest limit`)
abbrev pub most_bytes : ℕ
most_bytes = 10242
