-- A line read byte by byte comes to what the whole line asks. In order: what follows the first word; the first word; the line.
-- Assumes nothing.
use mathlib.Core.Path.{◌≡◌, refl, ◌∙◌}
use mathlib.Core.Bool.{Bool, true, false, cond}
use mathlib.Core.List.{List, [], ◌∷◌}
use Prim.Native.Nat.{ℕ, ◌+◌, ◌*◌, ◌^◌}
use lib.Dec.{eqb, ltb}
use borrow.Author.Tests.{eqb-true}
use Rattle.std.specs.Prelude.{Option, Some, None}
use Rattle.line.specs.Numeral.{count_of}
use Rattle.line.specs.Word.{word_of, form_of}
use Rattle.line.specs.Line.{Meaning, copied, unclear, of_doubles, first_of, later_of, with_number, doubles_of, numbers_of, bytes_of}
use Rattle.line.specs.Line.{file_in, in_form, of_word, name_of, meaning_of}
use Rattle.line.specs.Next.{ended_of, asked_of, begins, known_of, naming_of}
use Rattle.line.specs.Read.{bare, read_from}
use Rattle.line.specs.declared.answer.Word.{Word}
use Rattle.line.specs.declared.answer.Line.TheVariants.{Empty, Comment, Unclear, Naming}
use Rattle.line.specs.declared.word.Form.{Form}
use Rattle.line.specs.declared.word.Form.TheVariants.{Doubles, Counted, Counts, File}
use Rattle.line.proofs.Laws.Read.{space_read, space_first, space_later, other_read, other_first, other_later}
use Rattle.line.proofs.Laws.Read.{read_unclear, read_comment}
use Rattle.line.proofs.Laws.Doubles.{read_doubles}
use Rattle.line.proofs.Laws.Count.{read_count}
use Rattle.line.proofs.Laws.Numbers.{numbers_end, read_numbers}
use Rattle.line.proofs.Laws.Bytes.{read_file}

-- ---- what follows the first word
form_ends : (form : Form) (word : Word) → bare (asked_of (begins form word)) ≡ in_form form word []
unfolding doubles_of numbers_of count_of
form_ends Doubles word = refl
form_ends Counted word = refl
form_ends Counts word = refl
form_ends File word = refl

known_ends : (known : Option Word) → bare (asked_of (known_of known)) ≡ of_word known []
known_ends (Some word) = form_ends (form_of word) word
known_ends None = refl

form_goes : (form : Form) (word : Word) → form_of word ≡ form → (bytes : List ℕ)
    → read_from (begins form word) bytes ≡ in_form form word (first_of bytes ∷ later_of bytes)
unfolding doubles_of numbers_of count_of bytes_of
form_goes Doubles word e bytes = read_doubles word 0 bytes
form_goes Counted word e bytes =
    read_count word 0 0 (λ n rest. doubles_of rest (of_doubles word n)) (λ n. rw e refl) (λ n more. rw e (read_doubles word n more)) bytes
form_goes Counts word e bytes =
    read_count word 0 0 (λ n rest. numbers_of n rest (of_doubles word n)) (λ n. rw e (numbers_end word n n))
    (λ n more. rw e (read_numbers word n n more)) bytes
form_goes File word e bytes = read_count word 0 0 (λ n rest. file_in rest n) (λ n. rw e refl) (λ n more. rw e (read_file n more)) bytes

known_goes : (known : Option Word) (bytes : List ℕ) → read_from (known_of known) bytes ≡ of_word known (first_of bytes ∷ later_of bytes)
known_goes (Some word) bytes = form_goes (form_of word) word refl bytes
known_goes None bytes = read_unclear bytes

-- ---- the first word
named : List (List ℕ) → Option ℕ → Meaning
named later z = with_number z (λ letters. of_word (word_of letters) later)

Reads : ℕ → List ℕ → Type 0
Reads letters bytes = read_from (Naming letters) bytes ≡ named (later_of bytes) (name_of letters (first_of bytes))

-- one letter more
letter : (letters b : ℕ) (bytes : List ℕ) → Reads (256 * letters + b) bytes
    → read_from (naming_of letters b) bytes ≡ named (later_of bytes) (name_of letters (b ∷ first_of bytes))
unfolding Reads named name_of
letter letters b bytes ih = go (eqb b 0) (ltb letters (2 ^ 56))
  where
    go : (t u : Bool) → read_from (cond t Unclear (cond u (Naming (256 * letters + b)) Unclear)) bytes
        ≡ named (later_of bytes) (cond t None (cond u (name_of (256 * letters + b) (first_of bytes)) None))
    go true u = read_unclear bytes
    go false true = ih
    go false false = read_unclear bytes

read_named : (bytes : List ℕ) (letters : ℕ) → Reads letters bytes
unfolding Reads named name_of word_of read_from ended_of first_of later_of
read_named [] letters = known_ends (word_of letters)
read_named (b ∷ bytes) letters = go (eqb b 32) refl (read_named bytes (256 * letters + b))
  where
    go : (t : Bool) → eqb b 32 ≡ t → Reads (256 * letters + b) bytes → Reads letters (b ∷ bytes)
    go true e ih =
        space_read b bytes e (Naming letters) ∙ known_goes (word_of letters) bytes ∙ rw (space_first b bytes e, space_later b bytes e) refl
    go false e ih =
        other_read b bytes e (Naming letters) ∙ letter letters b bytes ih ∙ rw (other_first b bytes e, other_later b bytes e) refl

-- ---- the line
pub line_read : (bytes : List ℕ) → read_from Empty bytes ≡ meaning_of bytes
unfolding named name_of word_of meaning_of read_from ended_of
line_read [] = refl
line_read (b ∷ bytes) = go (eqb b 32) refl
  where
    other : (t : Bool) → read_from (cond t Comment (naming_of 0 b)) bytes
        ≡ cond t copied (named (later_of bytes) (name_of 0 (b ∷ first_of bytes)))
    other true = read_comment bytes
    other false = letter 0 b bytes (read_named bytes (256 * 0 + b))

    -- a space is no `#`, and no word has no letter
    space : b ≡ 32 → unclear ≡ cond (eqb b 35) copied (named (later_of (b ∷ bytes)) (name_of 0 []))
    space f = rw f refl

    go : (t : Bool) → eqb b 32 ≡ t → read_from Empty (b ∷ bytes) ≡ meaning_of (b ∷ bytes)
    go true e = space_read b bytes e Empty ∙ read_unclear bytes ∙ space (eqb-true b 32 e) ∙ rw (space_first b bytes e) refl
    go false e = other_read b bytes e Empty ∙ other (eqb b 35) ∙ rw (other_first b bytes e, other_later b bytes e) refl
