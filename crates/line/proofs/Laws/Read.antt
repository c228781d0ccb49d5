-- A line read byte by byte, from any point of it. In order: after a space, and after another byte; an unclear line, and a comment, stay so.
-- Assumes nothing.
use mathlib.Core.Path.{◌≡◌, refl, ap, ◌∙◌}
use mathlib.Core.Bool.{Bool, true, false}
use mathlib.Core.List.{List, [], ◌∷◌}
use Prim.Native.Nat.{ℕ}
use lib.Dec.{eqb}
use Rattle.line.specs.Line.{Meaning, copied, unclear, first_of, later_of}
use Rattle.line.specs.Next.{only, next_of, ended_of, parted_of, grown_of}
use Rattle.line.specs.Read.{joined, end_meaning, read_from}
use Rattle.line.specs.declared.answer.Line.{Line}
use Rattle.line.specs.declared.answer.Line.TheVariants.{Comment, Unclear}
use Rattle.line.specs.declared.answer.Step.{Step}

-- what a line comes to after a step
abbrev pub after : Step Line → List ℕ → Meaning
after s bytes = joined s.found (read_from s.to bytes)

module _ (b : ℕ) (bytes : List ℕ) (e : eqb b 32 ≡ true) where
  pub space_read : (line : Line) → read_from line (b ∷ bytes) ≡ after (parted_of line) bytes
  unfolding read_from next_of
  space_read line = rw e refl

  pub space_first : first_of (b ∷ bytes) ≡ []
  unfolding first_of
  space_first = rw e refl

  pub space_later : later_of (b ∷ bytes) ≡ first_of bytes ∷ later_of bytes
  unfolding later_of
  space_later = rw e refl

module _ (b : ℕ) (bytes : List ℕ) (e : eqb b 32 ≡ false) where
  pub other_read : (line : Line) → read_from line (b ∷ bytes) ≡ after (grown_of line b) bytes
  unfolding read_from next_of
  other_read line = rw e refl

  pub other_first : first_of (b ∷ bytes) ≡ b ∷ first_of bytes
  unfolding first_of
  other_first = rw e refl

  pub other_later : later_of (b ∷ bytes) ≡ later_of bytes
  unfolding later_of
  other_later = rw e refl

-- ---- a line that is over: no byte alters it
over : (line : Line) (m : Meaning) → end_meaning (ended_of line) ≡ m → parted_of line ≡ only line → ((b : ℕ) → grown_of line b ≡ only line)
    → (bytes : List ℕ) → read_from line bytes ≡ m
unfolding read_from
over line m ends parted grown [] = ends
over line m ends parted grown (b ∷ bytes) = go (eqb b 32) refl (over line m ends parted grown bytes)
  where
    go : (t : Bool) → eqb b 32 ≡ t → read_from line bytes ≡ m → read_from line (b ∷ bytes) ≡ m
    go true e ih = space_read b bytes e line ∙ ap (λ s. after s bytes) parted ∙ ih
    go false e ih = other_read b bytes e line ∙ ap (λ s. after s bytes) (grown b) ∙ ih

pub read_unclear : (bytes : List ℕ) → read_from Unclear bytes ≡ unclear
unfolding ended_of
read_unclear bytes = over Unclear unclear refl refl (λ b. refl) bytes

pub read_comment : (bytes : List ℕ) → read_from Comment bytes ≡ copied
unfolding ended_of
read_comment bytes = over Comment copied refl refl (λ b. refl) bytes
