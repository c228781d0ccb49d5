-- The counts of a plan and its doubles, read byte by byte. In order: a count that is found stands before the numbers that are left; all of
-- them. Assumes nothing.
use mathlib.Core.Path.{◌≡◌, refl, ap, ◌∙◌}
use mathlib.Core.List.{List, [], ◌∷◌}
use Prim.Native.Nat.{ℕ, zero, suc}
use Rattle.std.specs.Prelude.{Some}
use Rattle.line.specs.Numeral.{count_of}
use Rattle.line.specs.Line.{Meaning, of_doubles, first_of, later_of, doubles_of, numbers_of}
use Rattle.line.specs.Next.{asked_of, listing_of}
use Rattle.line.specs.Read.{joined, bare, read_from}
use Rattle.line.specs.declared.answer.Word.{Word}
use Rattle.line.specs.declared.answer.Found.TheVariants.{Number as IsNumber}
use Rattle.line.proofs.Laws.Doubles.{joined_number, joined_doubles, read_doubles}
use Rattle.line.proofs.Laws.Count.{read_count}

joined_numbers : (v n : ℕ) (words : List (List ℕ)) (k l : List ℕ → Meaning) → ((vs : List ℕ) → joined (Some (IsNumber v)) (k vs) ≡ l vs)
    → joined (Some (IsNumber v)) (numbers_of n words k) ≡ numbers_of n words l
unfolding numbers_of
joined_numbers v zero words k l h = joined_doubles v words k l h
joined_numbers v (suc n) [] k l h = refl
joined_numbers v (suc n) (word ∷ words) k l h =
    joined_number v (count_of word) (λ x. numbers_of n words (λ vs. k (x ∷ vs))) (λ x. numbers_of n words (λ vs. l (x ∷ vs)))
    (λ x. joined_numbers v n words (λ vs. k (x ∷ vs)) (λ vs. l (x ∷ vs)) (λ vs. h (x ∷ vs)))

module _ (word : Word) (many : ℕ) where
  pub numbers_end : (left : ℕ) → bare (asked_of (listing_of word many left)) ≡ numbers_of left [] (of_doubles word many)
  unfolding numbers_of doubles_of
  numbers_end zero = refl
  numbers_end (suc left) = refl

  pub read_numbers : (left : ℕ) (bytes : List ℕ)
      → read_from (listing_of word many left) bytes ≡ numbers_of left (first_of bytes ∷ later_of bytes) (of_doubles word many)
  unfolding numbers_of
  read_numbers zero bytes = read_doubles word many bytes
  read_numbers (suc left) bytes =
      read_count word many (suc left) (λ n rest. numbers_of left rest (λ vs. of_doubles word many (n ∷ vs)))
      (λ n. before n [] (numbers_end left)) (λ n more. before n (first_of more ∷ later_of more) (read_numbers left more)) bytes
    where
      before : (n : ℕ) (rest : List (List ℕ)) {m : Meaning} → m ≡ numbers_of left rest (of_doubles word many)
          → joined (Some (IsNumber n)) m ≡ numbers_of left rest (λ vs. of_doubles word many (n ∷ vs))
      before n rest e =
          ap (joined (Some (IsNumber n))) e
          ∙ joined_numbers n left rest (of_doubles word many) (λ vs. of_doubles word many (n ∷ vs)) (λ vs. refl)
