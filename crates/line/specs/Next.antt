-- What one byte more does to a line that is being read, and its end: the promises of `next` and `ended`.
use Rattle.std.specs.Prelude.{ℕ, zero, suc, ◌+◌, ◌*◌, ◌^◌, ◌%◌, ◌≡◌, Bool, true, false, cond, ◌&&◌, eqb, ltb, leb}
use Rattle.std.specs.Prelude.{Option, Some, None, is_none, unwrap_or}
use Rattle.line.specs.Numeral.{with_digit, digit_of}
use Rattle.line.specs.Word.{form_of, word_of}
use Rattle.line.specs.declared.answer.Word.{Word}
use Rattle.line.specs.declared.word.Form.{Form}
use Rattle.line.specs.declared.word.Form.TheVariants.{Doubles, Counted, Counts, File as Bytes}
use Rattle.line.specs.declared.answer.Line.{Line}
use Rattle.line.specs.declared.answer.Line.TheVariants.{Empty, Comment, Unclear, Naming, Counting, Asking, Reading}
use Rattle.line.specs.declared.answer.Counting.{Counting as Count}
use Rattle.line.specs.declared.answer.Asking.{Asking as Double}
use Rattle.line.specs.declared.answer.Reading.{Reading as File}
use Rattle.line.specs.declared.answer.Found.TheVariants.{Number as IsNumber, Byte}
use Rattle.line.specs.declared.answer.Step.{Step}
use Rattle.line.specs.declared.answer.Asked.{Asked}
use Rattle.line.specs.declared.answer.Asked.TheVariants.{Nothing as Copied, Unclear as NotClear, OfDoubles, OfFile}

-- a byte, or an end, with which no number ends
abbrev pub only : {A : Type 0} → A → Step A
only a = record { to = a; found = None }

-- ---- a byte that is no space

-- one letter more of the first word: at most eight, and none of code 0
abbrev pub naming_of : ℕ → ℕ → Line
naming_of letters b = cond (eqb b 0) Unclear (cond (ltb letters (2 ^ 56)) (Naming (256 * letters + b)) Unclear)

-- the first byte of a line: `#` is the code 35
abbrev pub begun_of : ℕ → Line
begun_of b = cond (eqb b 35) Comment (naming_of 0 b)

-- a 0 was read
abbrev pub is_zero : Option ℕ → Bool
is_zero None = false
is_zero (Some n) = eqb n 0

-- one digit more of a count: none after a first 0, and below 2^32
abbrev pub count_with : Count → ℕ → Line
count_with c d =
    cond (is_zero c.count) Unclear
    (cond (ltb (10 * unwrap_or c.count 0 + d) (2 ^ 32))
    (Counting (record { word = c.word; count = Some (10 * unwrap_or c.count 0 + d); many = c.many; left = c.left }))
    Unclear)

abbrev pub counting_of : Count → ℕ → Line
counting_of c b = with_digit 10 (digit_of b) (count_with c) Unclear

-- one digit more of a double: at most 16
abbrev pub double_with : Double → ℕ → Line
double_with q d =
    cond (leb 16 q.digits) Unclear
    (cond (ltb q.value (2 ^ 60))
    (Asking (record { word = q.word; count = q.count; digits = q.digits + 1; value = 16 * q.value + d }))
    Unclear)

abbrev pub asking_of : Double → ℕ → Line
asking_of q b = with_digit 16 (digit_of b) (double_with q) Unclear

-- one digit more of a file: the second of a byte has it found
abbrev pub half_with : ℕ → Option ℕ → ℕ → Step Line
half_with room None d = only (Reading (record { room = room; some = true; half = Some d }))
half_with room (Some x) d =
    record { to = Reading (record { room = room; some = true; half = None }); found = Some (Byte (16 * (x % 16) + d)) }

abbrev pub file_with : File → ℕ → Step Line
file_with f d = half_with f.room f.half d

abbrev pub reading_of : File → ℕ → Step Line
reading_of f b = with_digit 16 (digit_of b) (file_with f) (only Unclear)

abbrev pub grown_of : Line → ℕ → Step Line
grown_of Empty b = only (begun_of b)
grown_of Comment b = only Comment
grown_of Unclear b = only Unclear
grown_of (Naming letters) b = only (naming_of letters b)
grown_of (Counting c) b = only (counting_of c b)
grown_of (Asking q) b = only (asking_of q b)
grown_of (Reading f) b = reading_of f b

-- ---- a space

-- a double is to be read
abbrev pub asked : Word → ℕ → Line
asked word count = Asking (record { word = word; count = count; digits = 0; value = 0 })

-- a count is to be read: the first of the line, by 0 and 0; or one after it, with `left` of them to read, this one among them
abbrev pub to_count : Word → ℕ → ℕ → Line
to_count word many left = Counting (record { word = word; count = None; many = many; left = left })

abbrev pub begins : Form → Word → Line
begins Doubles word = asked word 0
begins Counted word = to_count word 0 0
begins Counts word = to_count word 0 0
begins Bytes word = to_count word 0 0

abbrev pub known_of : Option Word → Line
known_of (Some word) = begins (form_of word) word
known_of None = Unclear

-- the first word is whole
abbrev pub named_of : ℕ → Line
unfolding word_of
named_of letters = known_of (word_of letters)

-- the next of the counts that are left is to be read or, where none is, a double
abbrev pub listing_of : Word → ℕ → ℕ → Line
listing_of word many zero = asked word many
listing_of word many (suc left) = to_count word many (suc left)

-- the first count says what follows
abbrev pub after_it : Form → Word → ℕ → Line
after_it Doubles word n = asked word n
after_it Counted word n = asked word n
after_it Counts word n = listing_of word n n
after_it Bytes word n = Reading (record { room = n; some = false; half = None })

-- a count after the first is found, and one fewer is left
abbrev pub after_one : Word → ℕ → ℕ → ℕ → Step Line
after_one word many zero n = only (after_it (form_of word) word n)
after_one word many (suc left) n = record { to = listing_of word many left; found = Some (IsNumber n) }

-- a count is whole: it has a digit, and numbers or a file follow
abbrev pub count_found : Word → ℕ → ℕ → Option ℕ → Step Line
count_found word many left None = only Unclear
count_found word many left (Some n) = after_one word many left n

abbrev pub counted_of : Count → Step Line
counted_of c = count_found c.word c.many c.left c.count

-- a double is whole: it has 16 digits, and is found
abbrev pub taken_of : Double → Step Line
taken_of q = cond (eqb q.digits 16) (record { to = asked q.word q.count; found = Some (IsNumber q.value) }) (only Unclear)

abbrev pub parted_of : Line → Step Line
parted_of Empty = only Unclear
parted_of Comment = only Comment
parted_of Unclear = only Unclear
parted_of (Naming letters) = only (named_of letters)
parted_of (Counting c) = counted_of c
parted_of (Asking q) = taken_of q
parted_of (Reading f) = only Unclear

-- the promise of `next`
unfoldable pub next_of : Line → ℕ → Step Line
next_of line b = cond (eqb b 32) (parted_of line) (grown_of line b)

abbrev pub NextSays : Line → ℕ → Step Line → Type 0
NextSays line b step = step ≡ next_of line b

-- ---- the end of a line

-- what is asked where no word is being read
abbrev pub asked_of : Line → Asked
asked_of Empty = NotClear
asked_of Comment = NotClear
asked_of Unclear = NotClear
asked_of (Naming letters) = NotClear
asked_of (Counting c) = NotClear
asked_of (Asking q) = OfDoubles (record { word = q.word; count = q.count })
asked_of (Reading f) = OfFile f.room

-- a last number is whole
abbrev pub closed_of : Step Line → Step Asked
closed_of s = record { to = asked_of s.to; found = s.found }

-- a file is whole: at least one byte, and no digit is left
abbrev pub file_of : File → Asked
file_of f = cond (f.some && is_none f.half) (OfFile f.room) NotClear

-- the promise of `ended`
unfoldable pub ended_of : Line → Step Asked
ended_of Empty = only Copied
ended_of Comment = only Copied
ended_of Unclear = only NotClear
ended_of (Naming letters) = only (asked_of (named_of letters))
ended_of (Counting c) = closed_of (counted_of c)
ended_of (Asking q) = closed_of (taken_of q)
ended_of (Reading f) = only (file_of f)

abbrev pub EndedSays : Line → Step Asked → Type 0
EndedSays line end = end ≡ ended_of line
