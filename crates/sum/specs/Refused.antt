-- Which lists are refused: Order 3 of docs/RULES.md. 1 at place 0 where the list is too long, then 2 at the first entry that is not finite.
use Rattle.std.specs.Prelude.{ℕ, ◌≤◌, ◌<◌, ◌≡◌, List, [], ◌∷◌, ◌⊎◌, T, leb, length, Float}
use Rattle.std.specs.Float.{nan}
use Rattle.std.specs.Float.Ieee.Scale.{finite}
use Rattle.refusal.specs.Outcome.{Outcome, too_many, not_finite}
use Rattle.refusal.specs.Search.{passing_from, IsFirst}
use Rattle.refusal.specs.Judged.{require, also}
use Rattle.sum.specs.Limit.{limit}

-- Refusals 2: the first entry that is not finite, among entries that stand from index i on
abbrev pub checked_from : {A : Type 0} → ℕ → List Float → A → Outcome A
checked_from i xs answer = passing_from finite not_finite i xs answer

-- Order 3: the answer, unless the list is refused: 1, then 2
unfoldable pub checked : {A : Type 0} → List Float → A → Outcome A
unfolding passing_from
checked xs answer = also (require (leb (length xs) limit) too_many 0) (λ _. checked_from 0 xs answer)

-- the same said of the list alone: with which number and place it is refused
abbrev pub RefusedAs : List Float → ℕ → ℕ → Type 0
RefusedAs xs number place =
    ((limit < length xs) × (number ≡ too_many) × (place ≡ 0))
    ⊎ ((length xs ≤ limit) × (number ≡ not_finite) × IsFirst finite nan xs place)

-- every entry is finite
abbrev pub AllFinite : List Float → Type 0
AllFinite [] = Unit
AllFinite (x ∷ xs) = T (finite x) × AllFinite xs

-- a list that is not refused
pub record Accepted (xs : List Float) : Type 0 where
  pub short : length xs ≤ limit
  pub finite : AllFinite xs
