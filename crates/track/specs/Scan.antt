-- The coordinates of a file up to what stops a reader: Track 4 and 7 and Order 8 of docs/RULES.md.
use Rattle.std.specs.Prelude.{ℕ, zero, suc, List, [], ◌∷◌, leb, length, Float}
use Rattle.refusal.specs.Outcome.{Outcome, answers, refuses, bytes_after}
use Rattle.refusal.specs.Judged.{require}
use Rattle.coordinate.specs.declared.answer.Coordinate.{Coordinate}
use Rattle.coordinate.specs.Coordinate.{coordinate_of}

-- the whole coordinates before the stop, in order; and what stopped it, if anything: 6, 7 or 3 where a number begins, 8 at the first byte
-- too many
pub record Scan : Type 0 where
  pub coordinates : List Coordinate
  pub stop : Outcome Unit

-- Order 2: a coordinate and the scan of what follows it; a refusal is the last
abbrev pub coordinate_then : Outcome Coordinate → (Coordinate → Scan) → Scan
coordinate_then (answers c) rest = record { coordinates = c ∷ (rest c).coordinates; stop = (rest c).stop }
coordinate_then (refuses number place) rest = record { coordinates = []; stop = refuses number place }

-- Order 8: the last n coordinates of a file, which begin at an offset, after the pattern that came before on the axis whose turn it is and
-- that of the other: number by number 6 or 7 and then 3. Track 7: bytes behind the last number are 8
unfoldable pub scan_from : List ℕ → ℕ → ℕ → ℕ → ℕ → Scan
unfolding coordinate_of
scan_from bytes start before other zero = record { coordinates = []; stop = require (leb (length bytes) start) bytes_after start }
scan_from bytes start before other (suc n) =
    coordinate_then (coordinate_of bytes start before) (λ c. scan_from bytes c.next other c.pattern n)

-- the doubles that they are
abbrev pub values : List Coordinate → List Float
values [] = []
values (c ∷ cs) = c.value ∷ values cs

-- ---- after some coordinates

-- the offset after the last of them, where the next number begins
abbrev pub offset_after : ℕ → List Coordinate → ℕ
offset_after start [] = start
offset_after start (c ∷ cs) = offset_after c.next cs

-- the preceding pattern of the axis whose turn is next
abbrev pub pattern_after : ℕ → ℕ → List Coordinate → ℕ
pattern_after before other [] = before
pattern_after before other (c ∷ cs) = pattern_after other c.pattern cs
