-- What a read of a whole file and a write of a whole text do to the bytes that a reader has left and a writer holds, where those are known.
use Rattle.std.specs.Prelude.{ℕ, ◌<◌, ◌≤◌, List, length, take, Some, None}
use Rattle.std.specs.Io.KnownBytes.{Appends, Consumes, IsAtEnd}
use Rattle.std.specs.declared.option.Option.{Option}

-- the first bytes of what is left stand at the start of buf, and all of them where buf is not full; of what can not be read nothing is said
abbrev pub HoldsStart : Option (List ℕ) → Option (List ℕ) → Option ℕ → List ℕ → Type 0
HoldsStart old new (Some n) buf = (n ≤ length buf) × Consumes old new (take n buf) × (n < length buf → IsAtEnd new)
HoldsStart old new None buf = Unit {0}

-- a start of the text was appended, and nothing behind it
abbrev pub AppendsStart : Option (List ℕ) → Option (List ℕ) → List ℕ → Type 0
AppendsStart old new text = (n : ℕ) × (n ≤ length text) × Appends old new (take n text)

-- so many bytes are in buf
abbrev pub IsWithin : Option ℕ → List ℕ → Type 0
IsWithin (Some n) buf = n ≤ length buf
IsWithin None buf = Unit {0}
