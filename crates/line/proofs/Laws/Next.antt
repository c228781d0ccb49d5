-- What a byte more does to a line: a first word that is none of those that are known; a count after the first; and that the promises leave nothing
-- open. Assumes nothing.
use mathlib.Core.Path.{◌≡◌, refl, sym, ◌∙◌}
use Prim.Native.Nat.{ℕ, zero, suc, ◌-◌}
use Prim.Native.String.{String}
use native.Mathlib.Numerals.{sub-one}
use borrow.Author.Tests.{ne_eqb}
use Rattle.refusal.specs.Outcome.{Fixes}
use Rattle.std.specs.Prelude.{Some, None}
use Rattle.line.specs.Word.{letters_of, word_of}
use Rattle.line.specs.Next.{listing_of, after_one, counted_of, NextSays, EndedSays}
use Rattle.line.specs.declared.answer.Line.{Line}
use Rattle.line.specs.declared.answer.Counting.{Counting as Count}
use Rattle.line.specs.declared.answer.Found.TheVariants.{Number as IsNumber}

module _ (letters : ℕ) where
  abbrev is_not : String → Type 0
  is_not name = letters ≡ letters_of 0 name → ⊥

  pub word_none : is_not "apart" → is_not "run" → is_not "ceiling" → is_not "plain" → is_not "side" → is_not "zone" → is_not "plane"
      → is_not "meet" → is_not "why" → is_not "plan" → is_not "write" → is_not "read" → None ≡ word_of letters
  unfolding word_of
  word_none n1 n2 n3 n4 n5 n6 n7 n8 n9 n10 n11 n12 =
      rw (
        ne_eqb letters _ n1,
        ne_eqb letters _ n2,
        ne_eqb letters _ n3,
        ne_eqb letters _ n4,
        ne_eqb letters _ n5,
        ne_eqb letters _ n6,
        ne_eqb letters _ n7,
        ne_eqb letters _ n8,
        ne_eqb letters _ n9,
        ne_eqb letters _ n10,
        ne_eqb letters _ n11,
        ne_eqb letters _ n12,
      )

pub counted_later : (c : Count) (n : ℕ) (line : Line) → c.count ≡ Some n → (c.left ≡ 0 → ⊥) → line ≡ listing_of c.word c.many (c.left - 1)
    → record { to = line; found = Some (IsNumber n) } ≡ counted_of c
counted_later c n line e k l = rw (e, l) (later c.left k)
  where
    later : (left : ℕ) → (left ≡ 0 → ⊥)
        → record { to = listing_of c.word c.many (left - 1); found = Some (IsNumber n) } ≡ after_one c.word c.many left n
    later zero k = absurd (k refl)
    later (suc left) k = rw sub-one

pub next_fixed : (line : Line) (b : ℕ) → Fixes (NextSays line b)
next_fixed line b s t h k = h ∙ sym k

pub ended_fixed : (line : Line) → Fixes (EndedSays line)
ended_fixed line s t h k = h ∙ sym k
