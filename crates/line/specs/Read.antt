-- A line read byte by byte: what is found on the way and what its end asks, put together to what the line asks.
use Rattle.std.specs.Prelude.{ℕ, List, [], ◌∷◌, Option, Some, None}
use Rattle.line.specs.Line.{Meaning, copied, unclear, of_doubles, of_file}
use Rattle.line.specs.Next.{next_of, ended_of}
use Rattle.line.specs.declared.answer.Line.{Line}
use Rattle.line.specs.declared.answer.Found.{Found}
use Rattle.line.specs.declared.answer.Found.TheVariants.{Number, Byte}
use Rattle.line.specs.declared.answer.Asked.{Asked}
use Rattle.line.specs.declared.answer.Asked.TheVariants.{Nothing as Copied, Unclear, OfDoubles, OfFile}
use Rattle.line.specs.declared.answer.Step.{Step}

-- what was found stands before what the rest of the line asks: a double or a count before the numbers, a byte before a file's bytes
abbrev pub joined : Option Found → Meaning → Meaning
joined None m = m
joined (Some (Number v)) copied = copied
joined (Some (Number v)) unclear = unclear
joined (Some (Number v)) (of_doubles word count vs) = of_doubles word count (v ∷ vs)
joined (Some (Number v)) (of_file room bytes) = of_file room bytes
joined (Some (Byte b)) copied = copied
joined (Some (Byte b)) unclear = unclear
joined (Some (Byte b)) (of_doubles word count vs) = of_doubles word count vs
joined (Some (Byte b)) (of_file room bytes) = of_file room (b ∷ bytes)

-- what is asked, where nothing was found
abbrev pub bare : Asked → Meaning
bare Copied = copied
bare Unclear = unclear
bare (OfDoubles q) = of_doubles q.word q.count []
bare (OfFile room) = of_file room []

abbrev pub end_meaning : Step Asked → Meaning
end_meaning e = joined e.found (bare e.to)

-- what a line comes to that was read so far, by the bytes that are left
unfoldable pub read_from : Line → List ℕ → Meaning
unfolding next_of ended_of
read_from line [] = end_meaning (ended_of line)
read_from line (b ∷ bytes) = let s = next_of line b in joined s.found (read_from s.to bytes)
