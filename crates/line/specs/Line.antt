-- What a whole line asks: words parted by single spaces, of which the first says the form of the others.
use Rattle.std.specs.Prelude.{ℕ, zero, suc, ◌+◌, ◌*◌, ◌^◌, cond, List, [], ◌∷◌, eqb, ltb, Option, Some, None}
use Rattle.line.specs.Numeral.{with_digit, digit_of, pattern_of, count_of}
use Rattle.line.specs.Word.{word_of, form_of}
use Rattle.line.specs.declared.answer.Word.{Word}
use Rattle.line.specs.declared.word.Form.{Form}
use Rattle.line.specs.declared.word.Form.TheVariants.{Doubles, Counted, Counts, File}

-- what a line asks: nothing, since it is copied; nothing that is known; a word with its first count (0 where there is none) and its numbers,
-- which are the patterns of its doubles, and before them the counts of a plan; or to read a file's bytes with room for so many doubles
pub data Meaning : Type 0 where
  copied : Meaning
  unclear : Meaning
  of_doubles : Word → ℕ → List ℕ → Meaning
  of_file : ℕ → List ℕ → Meaning

-- a space is the code 32; up to it goes the first word, and the later ones follow
unfoldable pub first_of : List ℕ → List ℕ
first_of [] = []
first_of (b ∷ bs) = cond (eqb b 32) [] (b ∷ first_of bs)

unfoldable pub later_of : List ℕ → List (List ℕ)
unfolding first_of
later_of [] = []
later_of (b ∷ bs) = cond (eqb b 32) (first_of bs ∷ later_of bs) (later_of bs)

-- goes on with a number, where a word is one
abbrev pub with_number : Option ℕ → (ℕ → Meaning) → Meaning
with_number (Some n) k = k n
with_number None k = unclear

-- goes on with the doubles, where each word is one
unfoldable pub doubles_of : List (List ℕ) → (List ℕ → Meaning) → Meaning
unfolding pattern_of
doubles_of [] k = k []
doubles_of (word ∷ words) k = with_number (pattern_of word) (λ v. doubles_of words (λ vs. k (v ∷ vs)))

-- goes on with so many counts and then with doubles, where the words are such
unfoldable pub numbers_of : ℕ → List (List ℕ) → (List ℕ → Meaning) → Meaning
unfolding count_of doubles_of
numbers_of zero words k = doubles_of words k
numbers_of (suc n) [] k = unclear
numbers_of (suc n) (word ∷ words) k = with_number (count_of word) (λ c. numbers_of n words (λ vs. k (c ∷ vs)))

-- goes on with the bytes of a word: two hexadecimal digits for each
unfoldable pub bytes_of : List ℕ → (List ℕ → Meaning) → Meaning
bytes_of [] k = k []
bytes_of (a ∷ []) k = unclear
bytes_of (a ∷ b ∷ digits) k =
    with_digit 16 (digit_of a) (λ x. with_digit 16 (digit_of b) (λ y. bytes_of digits (λ bs. k ((16 * x + y) ∷ bs))) unclear) unclear

-- the file after its count: no word is an empty file, and one word has at least a byte
abbrev pub file_in : List (List ℕ) → ℕ → Meaning
unfolding bytes_of
file_in [] room = of_file room []
file_in ([] ∷ words) room = unclear
file_in ((b ∷ bs) ∷ []) room = bytes_of (b ∷ bs) (of_file room)
file_in ((b ∷ bs) ∷ word ∷ words) room = unclear

-- goes on with the count, which is the first of the words
abbrev pub after_count : List (List ℕ) → (ℕ → List (List ℕ) → Meaning) → Meaning
unfolding count_of
after_count [] k = unclear
after_count (word ∷ words) k = with_number (count_of word) (λ n. k n words)

abbrev pub in_form : Form → Word → List (List ℕ) → Meaning
unfolding doubles_of numbers_of
in_form Doubles word words = doubles_of words (of_doubles word 0)
in_form Counted word words = after_count words (λ n rest. doubles_of rest (of_doubles word n))
in_form Counts word words = after_count words (λ n rest. numbers_of n rest (of_doubles word n))
in_form File word words = after_count words (λ n rest. file_in rest n)

abbrev pub of_word : Option Word → List (List ℕ) → Meaning
of_word (Some word) words = in_form (form_of word) word words
of_word None words = unclear

-- the first word by its letters, at most eight of them and none of code 0
unfoldable pub name_of : ℕ → List ℕ → Option ℕ
name_of v [] = Some v
name_of v (b ∷ bs) = cond (eqb b 0) None (cond (ltb v (2 ^ 56)) (name_of (256 * v + b) bs) None)

-- what a line asks, by its bytes, the line end left out: an empty line and one that begins with `#`, the code 35, are copied
unfoldable pub meaning_of : List ℕ → Meaning
unfolding word_of name_of first_of later_of doubles_of numbers_of
meaning_of [] = copied
meaning_of (b ∷ bs) =
    cond (eqb b 35) copied
    (with_number (name_of 0 (first_of (b ∷ bs))) (λ letters. of_word (word_of letters) (later_of (b ∷ bs))))
