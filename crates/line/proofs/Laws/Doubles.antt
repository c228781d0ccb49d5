-- The doubles of a line, read byte by byte. In order: a double found stands before those that are left; one that is begun; all of them.
-- Assumes nothing.
use mathlib.Core.Path.{◌≡◌, refl, ap, ◌∙◌}
use mathlib.Core.Bool.{Bool, true, false, cond}
use mathlib.Core.List.{List, [], ◌∷◌}
use Prim.Native.Nat.{ℕ, ◌+◌, ◌*◌, ◌^◌, ◌≤◌, ◌<◌}
use native.Mathlib.Nat.{zero-add, add-zero, pow-le-pow_right, pow-succ'}
use native.Mathlib.Numerals.{add-one}
use native.Mathlib.Omega.{arith}
use lib.Dec.{eqb, ltb, leb}
use lib.ListN.{length}
use borrow.Author.Tests.{ne_eqb, lt-ltb, ltb-true, leb-true, leb-false}
use Rattle.std.specs.Prelude.{Option, Some, None}
use Rattle.line.specs.Numeral.{with_digit, digit_of, onward, pattern_of}
use Rattle.line.specs.Line.{Meaning, unclear, of_doubles, first_of, later_of, with_number, doubles_of}
use Rattle.line.specs.Next.{ended_of, asked, taken_of, double_with}
use Rattle.line.specs.Read.{joined, read_from}
use Rattle.line.specs.declared.answer.Word.{Word}
use Rattle.line.specs.declared.answer.Line.{Line}
use Rattle.line.specs.declared.answer.Line.TheVariants.{Unclear, Asking}
use Rattle.line.specs.declared.answer.Asking.{Asking as Double}
use Rattle.line.specs.declared.answer.Found.TheVariants.{Number as IsNumber}
use Rattle.line.proofs.Laws.Read.{after, space_read, space_first, space_later, other_read, other_first, other_later, read_unclear}

-- what is found stands before what goes on with a number
pub joined_number : (v : ℕ) (z : Option ℕ) (f g : ℕ → Meaning) → ((x : ℕ) → joined (Some (IsNumber v)) (f x) ≡ g x)
    → joined (Some (IsNumber v)) (with_number z f) ≡ with_number z g
joined_number v (Some x) f g h = h x
joined_number v None f g h = refl

pub joined_doubles : (v : ℕ) (words : List (List ℕ)) (k l : List ℕ → Meaning) → ((vs : List ℕ) → joined (Some (IsNumber v)) (k vs) ≡ l vs)
    → joined (Some (IsNumber v)) (doubles_of words k) ≡ doubles_of words l
unfolding doubles_of
joined_doubles v [] k l h = h []
joined_doubles v (word ∷ words) k l h =
    joined_number v (pattern_of word) (λ x. doubles_of words (λ vs. k (x ∷ vs))) (λ x. doubles_of words (λ vs. l (x ∷ vs)))
    (λ x. joined_doubles v words (λ vs. k (x ∷ vs)) (λ vs. l (x ∷ vs)) (λ vs. h (x ∷ vs)))

-- a word that goes on after so many digits of a double
double_from : ℕ → ℕ → List ℕ → Option ℕ
double_from digits value word = cond (eqb (digits + length word) 16) (onward 16 value word) None

module _ (word : Word) (count : ℕ) where
  -- the doubles that are left, the first of them begun
  doubles_from : ℕ → ℕ → List ℕ → List (List ℕ) → Meaning
  doubles_from digits value first later =
      with_number (double_from digits value first) (λ v. doubles_of later (λ vs. of_doubles word count (v ∷ vs)))

  asking : ℕ → ℕ → Line
  asking digits value = Asking (record { word = word; count = count; digits = digits; value = value })

  Reads : ℕ → ℕ → List ℕ → Type 0
  Reads digits value bytes = read_from (asking digits value) bytes ≡ doubles_from digits value (first_of bytes) (later_of bytes)

  none_begun : (first : List ℕ) (later : List (List ℕ)) → doubles_from 0 0 first later ≡ doubles_of (first ∷ later) (of_doubles word count)
  unfolding doubles_from double_from doubles_of pattern_of
  none_begun first later = rw (zero-add (length first)) refl

  module _ (digits value b : ℕ) (bytes : List ℕ) where
    -- the double that is begun, and the line after it
    q : Double
    q = record { word = word; count = count; digits = digits; value = value }

    more : Option ℕ → Meaning
    more z = with_number z (λ v. doubles_of (later_of bytes) (λ vs. of_doubles word count (v ∷ vs)))

    asking_space : eqb b 32 ≡ true → Reads 0 0 bytes → Reads digits value (b ∷ bytes)
    unfolding Reads doubles_from double_from asking onward q
    asking_space e ih =
        space_read b bytes e (asking digits value) ∙ go (eqb digits 16) refl ∙ rw (space_first b bytes e, space_later b bytes e) refl
      where
        whole : joined (Some (IsNumber value)) (read_from (asking 0 0) bytes)
            ≡ doubles_of (first_of bytes ∷ later_of bytes) (λ vs. of_doubles word count (value ∷ vs))
        whole =
            ap (joined (Some (IsNumber value))) (ih ∙ none_begun (first_of bytes) (later_of bytes))
            ∙ joined_doubles value (first_of bytes ∷ later_of bytes) (of_doubles word count) (λ vs. of_doubles word count (value ∷ vs))
            (λ vs. refl)

        go : (t : Bool) → eqb digits 16 ≡ t → after (taken_of q) bytes
            ≡ doubles_from digits value [] (first_of bytes ∷ later_of bytes)
        go true e = rw (add-zero digits, e) whole
        go false e = rw (add-zero digits, e) (read_unclear bytes)

    asking_other : eqb b 32 ≡ false → value < 16 ^ digits
        → ((d : ℕ) → d < 16 → Reads (digits + 1) (16 * value + d) bytes) → Reads digits value (b ∷ bytes)
    unfolding Reads doubles_from double_from asking onward q more
    asking_other e h ih =
        other_read b bytes e (asking digits value) ∙ go (digit_of b) ∙ rw (other_first b bytes e, other_later b bytes e) refl
      where
        neither : (t : Bool) → unclear ≡ more (cond t None None)
        neither true = refl
        neither false = refl

        next : ℕ → ℕ → Option ℕ
        next n d = cond (eqb n 16) (onward 16 (16 * value + d) (first_of bytes)) None

        pick : (d : ℕ) (t : Bool) → ltb d 16 ≡ t → (u : Bool) → leb 16 digits ≡ u → read_from (cond t (double_with q d) Unclear) bytes
            ≡ more (cond (eqb (digits + length (b ∷ first_of bytes)) 16) (cond t (onward 16 (16 * value + d) (first_of bytes)) None) None)
        pick d true f true g =
            let long : 16 ≤ digits = leb-true 16 digits g in
            rw (g, ne_eqb (digits + length (b ∷ first_of bytes)) 16 (λ same. omega arith)) (read_unclear bytes)
        pick d true f false g =
            let few : digits ≤ 15 = omega (arith, leb-false 16 digits g) in
            let least : 16 ^ digits ≤ 16 ^ 15 = pow-le-pow_right {n = 16} (omega arith) few in
            let one : digits + 1 + length (first_of bytes) ≡ digits + length (b ∷ first_of bytes) = omega arith in
            rw (g, lt-ltb value (2 ^ 60) (omega arith)) (ih d (ltb-true d 16 f) ∙ ap (λ (n : ℕ). more (next n d)) one)
        pick d false f u g = read_unclear bytes ∙ neither (eqb (digits + length (b ∷ first_of bytes)) 16)

        go : (z : Option ℕ) → read_from (with_digit 16 z (double_with q) Unclear) bytes
            ≡ more (cond (eqb (digits + length (b ∷ first_of bytes)) 16)
            (with_digit 16 z (λ d. onward 16 (16 * value + d) (first_of bytes)) None) None)
        go (Some d) = pick d (ltb d 16) refl (leb 16 digits) refl
        go None = read_unclear bytes ∙ neither (eqb (digits + length (b ∷ first_of bytes)) 16)

  read_asking : (bytes : List ℕ) (digits value : ℕ) → value < 16 ^ digits → Reads digits value bytes
  unfolding Reads doubles_from double_from asking onward read_from ended_of doubles_of first_of later_of
  read_asking [] digits value h = go (eqb digits 16) refl
    where
      go : (t : Bool) → eqb digits 16 ≡ t → read_from (asking digits value) [] ≡ doubles_from digits value [] []
      go true e = rw (add-zero digits, e) refl
      go false e = rw (add-zero digits, e) refl
  read_asking (b ∷ bytes) digits value h =
      go (eqb b 32) refl (read_asking bytes 0 0 (omega arith)) (λ d k. read_asking bytes (digits + 1) (16 * value + d) (fits d k))
    where
      fits : (d : ℕ) → d < 16 → 16 * value + d < 16 ^ (digits + 1)
      fits d k =
          let grown : 16 ^ (digits + 1) ≡ 16 * 16 ^ digits = ap (λ (n : ℕ). 16 ^ n) (add-one digits) ∙ pow-succ' 16 digits in
          omega arith

      go : (t : Bool) → eqb b 32 ≡ t → Reads 0 0 bytes → ((d : ℕ) → d < 16 → Reads (digits + 1) (16 * value + d) bytes)
          → Reads digits value (b ∷ bytes)
      go true e ih step = asking_space digits value b bytes e ih
      go false e ih step = asking_other digits value b bytes e h step

pub read_doubles : (word : Word) (count : ℕ) (bytes : List ℕ)
    → read_from (asked word count) bytes ≡ doubles_of (first_of bytes ∷ later_of bytes) (of_doubles word count)
unfolding Reads asking
read_doubles word count bytes = read_asking word count bytes 0 0 (omega arith) ∙ none_begun word count (first_of bytes) (later_of bytes)
