-- Whose a release is, by its place in each of a plan's zones.
use Rattle.std.specs.Prelude.{ℕ, ◌<◌, ◌≡◌, List, get_or}
use Rattle.ground.specs.Zone.{Lies, outside, place_number}
use Rattle.crease.specs.declared.answer.Claim.{Claim}
use Rattle.crease.specs.declared.answer.Claim.TheVariants.{Border, None, Alone, Shared}

-- Crease 2: the release is on the border of zone k; beyond the last zone stands `outside`
abbrev pub On : List Lies → ℕ → Type 0
On places k = place_number (get_or places k outside) ≡ 1

-- Crease 2: it is inside zone k
abbrev pub In : List Lies → ℕ → Type 0
In places k = place_number (get_or places k outside) ≡ 2

-- Crease 2: it is on no border
abbrev pub Off : List Lies → Type 0
Off places = (k : ℕ) → ¬ On places k

-- Crease 3 to 6: when each claim is right: on the border of zone k and of no lower one; on no border and inside none; on no border, inside k and
-- no other; on no border, inside the two, of which the first is lower, and inside no other below the second
abbrev pub Holds : Claim → List Lies → Type 0
Holds (Border k) places = On places k × ((i : ℕ) → i < k → ¬ On places i)
Holds None places = Off places × ((i : ℕ) → ¬ In places i)
Holds (Alone k) places = Off places × In places k × ((i : ℕ) → In places i → i ≡ k)
Holds (Shared both) places =
    Off places × In places both.first × In places both.second × (both.first < both.second)
    × ((i : ℕ) → In places i → i < both.second → i ≡ both.first)
