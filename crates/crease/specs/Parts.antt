-- What inner functions find: believed by no reader, since laws say that a claim is what its rules say.
use Rattle.std.specs.Prelude.{ℕ, ◌+◌, ◌*◌, List, [], ◌∷◌, eqb, leb, length, Float, Err, Ok, Result}
use Rattle.ground.specs.Zone.{Lies, outside, border, inside}
use Rattle.refusal.specs.Outcome.{Outcome, answers, refuses, too_many, odd_length, kind_number}
use Rattle.refusal.specs.Judged.{require, also}
use Rattle.point.specs.declared.Point.{Point}
use Rattle.geometry.specs.Zone.{zone_of}
use Rattle.crease.specs.Plan.{most_zones, counted_in}
use Rattle.crease.specs.declared.answer.Claim.{Claim}
use Rattle.crease.specs.declared.answer.Claim.TheVariants.{Border, None, Alone, Shared}
use Rattle.crease.specs.declared.answer.ZoneRefusal.{ZoneRefusal}

-- the refusals of the lists alone, whatever the release is
abbrev pub lists_judged : List ℕ → List Float → Outcome Unit
lists_judged counts corners =
    also (require (leb (length counts) most_zones) too_many 0) (λ _.
    require (eqb (length corners) (2 * counted_in counts)) odd_length 0)

-- the claim of the zones below k, with zone k: on its border; inside it; at any place
abbrev pub with_border : Claim → ℕ → Claim
with_border (Border j) k = Border j
with_border None k = Border k
with_border (Alone j) k = Border k
with_border (Shared both) k = Border k

abbrev pub with_inside : Claim → ℕ → Claim
with_inside (Border j) k = Border j
with_inside None k = Alone k
with_inside (Alone j) k = Shared (record { first = j; second = k })
with_inside (Shared both) k = Shared both

abbrev pub with_zone : Claim → ℕ → Lies → Claim
with_zone claim k outside = claim
with_zone claim k (border edge) = with_border claim k
with_zone claim k inside = with_inside claim k

-- the zones from k on
abbrev pub claim_from : ℕ → Claim → List Lies → Claim
claim_from k claim [] = claim
claim_from k claim (place ∷ places) = claim_from (k + 1) (with_zone claim k place) places

-- what the walk over the zones finds: a claim, or a refusal's number and place, and the number of the zone that it is about
pub data Found : Type 0 where
  claims : Claim → Found
  halts : ℕ → ℕ → ℕ → Found

abbrev pub found : Result Claim ZoneRefusal → Found
found (Ok claim) = claims claim
found (Err r) = halts (kind_number r.refusal.kind) r.refusal.place r.zone

-- the claim with zone k, or its refusal
abbrev pub with_next : Claim → ℕ → Outcome Lies → Found
with_next claim k (answers place) = claims (with_zone claim k place)
with_next claim k (refuses number place) = halts number place k

-- goes on with a claim; a refusal is the last
abbrev pub goes_on : Found → (Claim → Found) → Found
goes_on (claims claim) next = next claim
goes_on (halts number place zone) next = halts number place zone

unfoldable pub folded_from : ℕ → Claim → List (List Float) → Point → Found
unfolding zone_of
folded_from k claim [] p = claims claim
folded_from k claim (zone ∷ zones) p = goes_on (with_next claim k (zone_of zone p)) (λ more. folded_from (k + 1) more zones p)
