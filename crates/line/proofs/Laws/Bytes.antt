-- The bytes of a line's file, read digit by digit. In order: a byte that is begun; one that is found stands before those that are left; no
-- word follows; a digit more; all of them. Assumes nothing.
use mathlib.Core.Path.{◌≡◌, refl, sym, ap, ◌∙◌}
use mathlib.Core.Bool.{Bool, true, false, cond}
use mathlib.Core.List.{List, [], ◌∷◌}
use Prim.Native.Nat.{ℕ, ◌+◌, ◌*◌, ◌<◌}
use native.Mathlib.Nat.{mod-eq_of_lt}
use lib.Dec.{eqb, ltb}
use borrow.Author.Tests.{ltb-true}
use Rattle.std.specs.Prelude.{Option, Some, None, IfSome}
use Rattle.line.specs.Numeral.{with_digit, digit_of}
use Rattle.line.specs.Line.{Meaning, unclear, of_file, first_of, later_of, bytes_of, file_in}
use Rattle.line.specs.Next.{ended_of, only, file_with, reading_of}
use Rattle.line.specs.Read.{joined, read_from}
use Rattle.line.specs.declared.answer.Line.TheVariants.{Unclear, Reading}
use Rattle.line.specs.declared.answer.Reading.{Reading as File}
use Rattle.line.specs.declared.answer.Found.TheVariants.{Byte}
use Rattle.line.proofs.Laws.Read.{after, space_read, space_first, space_later, other_read, other_first, other_later, read_unclear}

-- the bytes after a first digit
half_of : ℕ → List ℕ → (List ℕ → Meaning) → Meaning
half_of x [] k = unclear
half_of x (b ∷ digits) k = with_digit 16 (digit_of b) (λ y. bytes_of digits (λ bs. k ((16 * x + y) ∷ bs))) unclear

bytes_half : (a : ℕ) (digits : List ℕ) (k : List ℕ → Meaning)
    → with_digit 16 (digit_of a) (λ x. half_of x digits k) unclear ≡ bytes_of (a ∷ digits) k
unfolding bytes_of half_of
bytes_half a [] k = go (digit_of a)
  where
    go : (z : Option ℕ) → with_digit 16 z (λ x. unclear) unclear ≡ unclear
    go (Some d) = pick (ltb d 16)
      where
        pick : (t : Bool) → cond t unclear unclear ≡ unclear
        pick true = refl
        pick false = refl
    go None = refl
bytes_half a (b ∷ digits) k = refl

module _ (v : ℕ) where
  Joins : (k l : List ℕ → Meaning) → Type 0
  Joins k l = (bs : List ℕ) → joined (Some (Byte v)) (k bs) ≡ l bs

  joined_digit : (z : Option ℕ) (f g : ℕ → Meaning) → ((d : ℕ) → joined (Some (Byte v)) (f d) ≡ g d)
      → joined (Some (Byte v)) (with_digit 16 z f unclear) ≡ with_digit 16 z g unclear
  joined_digit (Some d) f g h = go (ltb d 16)
    where
      go : (t : Bool) → joined (Some (Byte v)) (cond t (f d) unclear) ≡ cond t (g d) unclear
      go true = h d
      go false = refl
  joined_digit None f g h = refl

  joined_bytes : (digits : List ℕ) (k l : List ℕ → Meaning) → Joins k l → joined (Some (Byte v)) (bytes_of digits k) ≡ bytes_of digits l
  unfolding bytes_of Joins
  joined_bytes [] k l h = h []
  joined_bytes (a ∷ []) k l h = refl
  joined_bytes (a ∷ b ∷ digits) k l h =
      joined_digit (digit_of a) (λ x. with_digit 16 (digit_of b) (λ y. bytes_of digits (λ bs. k ((16 * x + y) ∷ bs))) unclear)
      (λ x. with_digit 16 (digit_of b) (λ y. bytes_of digits (λ bs. l ((16 * x + y) ∷ bs))) unclear)
      (λ x. joined_digit (digit_of b) (λ y. bytes_of digits (λ bs. k ((16 * x + y) ∷ bs))) (λ y. bytes_of digits (λ bs. l ((16 * x + y) ∷ bs)))
      (λ y. joined_bytes digits (λ bs. k ((16 * x + y) ∷ bs)) (λ bs. l ((16 * x + y) ∷ bs)) (λ bs. h ((16 * x + y) ∷ bs))))

-- no word follows
alone : List (List ℕ) → Meaning → Meaning
alone [] m = m
alone (word ∷ words) m = unclear

joined_alone : (v : ℕ) (later : List (List ℕ)) (m : Meaning) → joined (Some (Byte v)) (alone later m) ≡ alone later (joined (Some (Byte v)) m)
unfolding alone
joined_alone v [] m = refl
joined_alone v (word ∷ words) m = refl

alone_unclear : (later : List (List ℕ)) → alone later unclear ≡ unclear
unfolding alone
alone_unclear [] = refl
alone_unclear (word ∷ words) = refl

module _ (room : ℕ) where
  file : Bool → Option ℕ → File
  file some half = record { room = room; some = some; half = half }

  bytes_from : Option ℕ → List ℕ → Meaning
  bytes_from (Some x) digits = half_of x digits (of_file room)
  bytes_from None digits = bytes_of digits (of_file room)

  -- what is held of a byte is a digit
  abbrev Holds : Option ℕ → Type 0
  Holds half = IfSome half (λ x. x < 16)

  Reads : Option ℕ → List ℕ → Type 0
  Reads half bytes = read_from (Reading (file true half)) bytes ≡ alone (later_of bytes) (bytes_from half (first_of bytes))

  module _ (b : ℕ) (bytes : List ℕ) (ih : (half : Option ℕ) → Holds half → Reads half bytes) where
    -- the first digit of a byte
    first_digit : (some : Bool)
        → after (reading_of (file some None) b) bytes ≡ alone (later_of bytes) (bytes_of (b ∷ first_of bytes) (of_file room))
    unfolding file Reads bytes_from
    first_digit some = go (digit_of b) ∙ ap (alone (later_of bytes)) (bytes_half b (first_of bytes) (of_file room))
      where
        go : (z : Option ℕ) → after (with_digit 16 z (file_with (file some None)) (only Unclear)) bytes
            ≡ alone (later_of bytes) (with_digit 16 z (λ d. half_of d (first_of bytes) (of_file room)) unclear)
        go (Some d) = pick (ltb d 16) refl
          where
            pick : (t : Bool) → ltb d 16 ≡ t → after (cond t (file_with (file some None) d) (only Unclear)) bytes
                ≡ alone (later_of bytes) (cond t (half_of d (first_of bytes) (of_file room)) unclear)
            pick true f = ih (Some d) (ltb-true d 16 f)
            pick false f = read_unclear bytes ∙ sym (alone_unclear (later_of bytes))
        go None = read_unclear bytes ∙ sym (alone_unclear (later_of bytes))

    -- the second
    second_digit : (x : ℕ) → x < 16
        → after (reading_of (file true (Some x)) b) bytes ≡ alone (later_of bytes) (half_of x (b ∷ first_of bytes) (of_file room))
    unfolding file Reads bytes_from half_of Joins
    second_digit x h = go (digit_of b)
      where
        go : (z : Option ℕ) → after (with_digit 16 z (file_with (file true (Some x))) (only Unclear)) bytes
            ≡ alone (later_of bytes) (with_digit 16 z (λ y. bytes_of (first_of bytes) (λ bs. of_file room ((16 * x + y) ∷ bs))) unclear)
        go (Some d) = pick (ltb d 16)
          where
            pick : (t : Bool) → after (cond t (file_with (file true (Some x)) d) (only Unclear)) bytes
                ≡ alone (later_of bytes) (cond t (bytes_of (first_of bytes) (λ bs. of_file room ((16 * x + d) ∷ bs))) unclear)
            pick true = rw (mod-eq_of_lt h)
                (ap (joined (Some (Byte (16 * x + d)))) (ih None tt)
                ∙ joined_alone (16 * x + d) (later_of bytes) (bytes_of (first_of bytes) (of_file room))
                ∙ ap (alone (later_of bytes))
                (joined_bytes (16 * x + d) (first_of bytes) (of_file room) (λ bs. of_file room ((16 * x + d) ∷ bs)) (λ bs. refl)))
            pick false = read_unclear bytes ∙ sym (alone_unclear (later_of bytes))
        go None = read_unclear bytes ∙ sym (alone_unclear (later_of bytes))

  read_some : (bytes : List ℕ) (half : Option ℕ) → Holds half → Reads half bytes
  unfolding Reads bytes_from file alone half_of bytes_of read_from ended_of first_of later_of
  read_some [] (Some x) h = refl
  read_some [] None h = refl
  read_some (b ∷ bytes) half h = go (eqb b 32) refl half h (read_some bytes)
    where
      go : (t : Bool) → eqb b 32 ≡ t → (half : Option ℕ) → Holds half → ((half : Option ℕ) → Holds half → Reads half bytes)
          → Reads half (b ∷ bytes)
      go true e half h ih = space_read b bytes e (Reading (file true half)) ∙ read_unclear bytes ∙ rw (space_later b bytes e) refl
      go false e (Some x) h ih = other_read b bytes e (Reading (file true (Some x))) ∙ second_digit b bytes ih x h
          ∙ rw (other_first b bytes e, other_later b bytes e) refl
      go false e None h ih = other_read b bytes e (Reading (file true None)) ∙ first_digit b bytes ih true
          ∙ rw (other_first b bytes e, other_later b bytes e) refl

  file_in_lem : (b : ℕ) (digits : List ℕ) (later : List (List ℕ))
      → alone later (bytes_of (b ∷ digits) (of_file room)) ≡ file_in ((b ∷ digits) ∷ later) room
  unfolding alone bytes_of
  file_in_lem b digits [] = refl
  file_in_lem b digits (word ∷ words) = refl

  pub read_file : (bytes : List ℕ) → read_from (Reading (record { room = room; some = false; half = None })) bytes
      ≡ file_in (first_of bytes ∷ later_of bytes) room
  unfolding file read_from ended_of first_of later_of bytes_of
  read_file [] = refl
  read_file (b ∷ bytes) = go (eqb b 32) refl
    where
      go : (t : Bool) → eqb b 32 ≡ t
          → read_from (Reading (file false None)) (b ∷ bytes) ≡ file_in (first_of (b ∷ bytes) ∷ later_of (b ∷ bytes)) room
      go true e = space_read b bytes e (Reading (file false None)) ∙ read_unclear bytes ∙ rw (space_first b bytes e) refl
      go false e = other_read b bytes e (Reading (file false None)) ∙ first_digit b bytes (read_some bytes) false
          ∙ file_in_lem b (first_of bytes) (later_of bytes) ∙ rw (other_first b bytes e, other_later b bytes e) refl
