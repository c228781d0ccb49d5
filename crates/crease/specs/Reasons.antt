-- What a refusal says of the plan and the release, by what `zone` answers of each zone; and which of the four a claim is: the words of the laws about
-- the call (Laws.Calls).
use Rattle.std.specs.Prelude.{ℕ, ◌*◌, ◌≤◌, ◌<◌, ◌≡◌, List, [], ◌∷◌, length, get_or, Float}
use Rattle.std.specs.Float.{nan}
use Rattle.ground.specs.Zone.{Lies}
use Rattle.refusal.specs.Outcome.{answers, too_many, not_accepted, odd_length}
use Rattle.refusal.specs.Search.{IsFirst}
use Rattle.point.specs.declared.Point.{Point}
use Rattle.point.specs.Accepted.{accepted_of, Accepted}
use Rattle.geometry.specs.Zone.{zone_of}
use Rattle.geometry.specs.Reasons.{ZoneRefusedAs}
use Rattle.crease.specs.Plan.{most_zones, counted_in, zones_of}
use Rattle.crease.specs.declared.answer.Claim.{Claim}
use Rattle.crease.specs.declared.answer.Claim.TheVariants.{Border, None, Alone, Shared}

-- Order 15: the doubles of zone k, as `zone` is handed them
abbrev pub zone_at : List ℕ → List Float → ℕ → List Float
zone_at counts corners k = get_or (zones_of counts corners) k []

-- the plan has no more zones than it may, and its list is as long as counted
pub record Counted (counts : List ℕ) (corners : List Float) : Type 0 where
  pub few : length counts ≤ most_zones
  pub exact : length corners ≡ 2 * counted_in counts

-- a zone is answered
abbrev pub Answered : List Float → Point → Type 0
Answered zone p = (place : Lies) × (zone_of zone p ≡ answers place)

-- Order 15: a plan is refused with this number, place and zone's number
pub data PlanRefusedAs (counts : List ℕ) (corners : List Float) (p : Point) : ℕ → ℕ → ℕ → Type 0 where
  many : most_zones < length counts → PlanRefusedAs counts corners p too_many 0 0
  uncounted : length counts ≤ most_zones → ¬ (length corners ≡ 2 * counted_in counts) → PlanRefusedAs counts corners p odd_length 0 0
  point : Counted counts corners → (place : ℕ) → IsFirst accepted_of nan (p.x ∷ p.y ∷ []) place → PlanRefusedAs counts corners p not_accepted place 0
  zone : Counted counts corners → Accepted p → (k : ℕ) → k < length counts → ((i : ℕ) → i < k → Answered (zone_at counts corners i) p)
      → (number place : ℕ) → ZoneRefusedAs (zone_at counts corners k) p number place → PlanRefusedAs counts corners p number place k

-- Crease 7: which of the four
abbrev pub word_of : Claim → ℕ
word_of (Border k) = 0
word_of None = 1
word_of (Alone k) = 2
word_of (Shared both) = 3
