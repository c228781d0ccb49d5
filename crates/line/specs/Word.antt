-- The first word of a question.
use Rattle.std.specs.Prelude.{ℕ, ◌+◌, ◌*◌, cond, eqb, Option, Some, None}
use Prim.Native.Char.{code}
use Prim.Native.String.{String, [] as []ˢ, ◌∷◌ as ◌∷ˢ◌}
use Rattle.line.specs.declared.answer.Word.{Word}
use Rattle.line.specs.declared.answer.Word.TheVariants.{Apart, Run, Ceiling, Plain, Side, Zone, Plane, Meet, Why, Plan, Write, Read}
use Rattle.line.specs.declared.word.Form.{Form}
use Rattle.line.specs.declared.word.Form.TheVariants.{Doubles, Counted, Counts, File}

-- the letters of a word after those of v, as one number: 256 for each. No letter is 0, so that no two words have the same.
abbrev pub letters_of : ℕ → String → ℕ
letters_of v []ˢ = v
letters_of v (c ∷ˢ s) = letters_of (256 * v + code c) s

abbrev pub is_word : ℕ → String → Word → Option Word → Option Word
is_word letters name word other = cond (eqb letters (letters_of 0 name)) (Some word) other

-- the word by its letters
unfoldable pub word_of : ℕ → Option Word
word_of letters =
    is_word letters "apart" Apart
    (is_word letters "run" Run
    (is_word letters "ceiling" Ceiling
    (is_word letters "plain" Plain
    (is_word letters "side" Side
    (is_word letters "zone" Zone
    (is_word letters "plane" Plane
    (is_word letters "meet" Meet
    (is_word letters "why" Why
    (is_word letters "plan" Plan
    (is_word letters "write" Write
    (is_word letters "read" Read
    None)))))))))))

-- what follows a word: doubles; a count and doubles; a count, so many counts and doubles; or a count and the bytes of a file
abbrev pub form_of : Word → Form
form_of Apart = Doubles
form_of Run = Counted
form_of Ceiling = Doubles
form_of Plain = Doubles
form_of Side = Doubles
form_of Zone = Doubles
form_of Plane = Doubles
form_of Meet = Doubles
form_of Why = Counted
form_of Plan = Counts
form_of Write = Counted
form_of Read = File
