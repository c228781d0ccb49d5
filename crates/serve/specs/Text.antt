-- The text of what is told of two files: Desk 3, 4, 6 and 7 of docs/RULES.md. In order: the bytes of words; a number in decimal; the text. Not
-- here: files that can not be read (`Printed`).
use Rattle.std.specs.Prelude.{ℕ, zero, suc, ◌+◌, ◌/◌, ◌%◌, cond, List, [], ◌∷◌, ◌++◌, ltb, length}
use Prim.Native.Char.{code}
use Prim.Native.String.{String, [] as []ˢ, ◌∷◌ as ◌∷ˢ◌}
use Rattle.report.specs.Report.{Told, releases, refused_zone, refused_releases}

-- the bytes of words in ASCII: a byte is its character's code
abbrev pub ascii : String → List ℕ
ascii []ˢ = []
ascii (c ∷ˢ s) = code c ∷ ascii s

-- the character of a digit: 48 is that of 0
abbrev pub digit : ℕ → ℕ
digit d = 48 + d

-- Desk 7: n in decimal, the most significant digit first and no zero in front, where at most `more` digits follow the first
unfoldable pub decimal_within : ℕ → ℕ → List ℕ
decimal_within zero n = digit n ∷ []
decimal_within (suc more) n = cond (ltb n 10) (digit n ∷ []) (decimal_within more (n / 10) ++ digit (n % 10) ∷ [])

-- and never more than n of them follow
unfoldable pub decimal : ℕ → List ℕ
unfolding decimal_within
decimal n = decimal_within n n

-- Desk 6: the end of a release's line: its place, by the code 0, 1 or 2 of outside, border and inside
abbrev pub place_text : ℕ → List ℕ
place_text zero = ascii " outside\n"
place_text (suc zero) = ascii " border\n"
place_text (suc (suc more)) = ascii " inside\n"

-- Desk 6: the line of a release: its number and its place
abbrev pub line_text : ℕ → ℕ → List ℕ
line_text release place = decimal release ++ place_text place

-- the lines of releases that are counted on from a number
unfoldable pub lines_from : ℕ → List ℕ → List ℕ
unfolding decimal
lines_from release [] = []
lines_from release (place ∷ places) = line_text release place ++ lines_from (suc release) places

-- Desk 6: the header, with the number of releases
abbrev pub header_text : ℕ → List ℕ
header_text many = ascii "releases " ++ decimal many ++ ascii "\n"

-- Desk 3 and 4: number and place, after the words that say what is refused
abbrev pub refusal_text : List ℕ → ℕ → ℕ → List ℕ
refusal_text words number place = words ++ decimal number ++ ascii " " ++ decimal place ++ ascii "\n"

-- Desk 3, 4 and 6: all that is printed: the header and a line for each release from 1 on, or one line that refuses zone or releases.
-- Desk 8 is an example of it (Laws.Printed)
unfoldable pub text_of : Told (List ℕ) → List ℕ
unfolding decimal lines_from
text_of (releases codes) = header_text (length codes) ++ lines_from 1 codes
text_of (refused_zone number place) = refusal_text (ascii "refused zone ") number place
text_of (refused_releases number place) = refusal_text (ascii "refused releases ") number place
