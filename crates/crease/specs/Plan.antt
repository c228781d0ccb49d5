-- The zones of a plan, lent as one list of doubles and one of corner counts; its refusals, and the promise.
use Rattle.std.specs.Prelude.{ℕ, ◌+◌, ◌*◌, ◌≡◌, List, [], ◌∷◌, map, eqb, leb, length, take, drop, Float, Err, Ok, Result}
use Rattle.ground.specs.Zone.{Lies}
use Rattle.refusal.specs.Outcome.{Outcome, answers, refuses, too_many, odd_length, kind_number}
use Rattle.refusal.specs.declared.Refusal.{Refusal}
use Rattle.refusal.specs.Judged.{require}
use Rattle.point.specs.declared.Point.{Point}
use Rattle.point.specs.Accepted.{accepting_from}
use Rattle.geometry.specs.Zone.{place_in, zone_of}
use Rattle.crease.specs.Claim.{Holds}
use Rattle.crease.specs.declared.answer.Claim.{Claim}
use Rattle.crease.specs.declared.answer.ZoneRefusal.{ZoneRefusal}

-- Crease 1: a plan has at most 16 zones
abbrev pub most_zones : ℕ
most_zones = 16

-- ---- the zones

-- the corners counted
abbrev pub counted_in : List ℕ → ℕ
counted_in [] = 0
counted_in (count ∷ counts) = count + counted_in counts

-- Crease 1: the doubles of each zone, one zone after the other: two for each of its corners
unfoldable pub zones_of : List ℕ → List Float → List (List Float)
zones_of [] corners = []
zones_of (count ∷ counts) corners = take (2 * count) corners ∷ zones_of counts (drop (2 * count) corners)

-- Crease 2: the place of the release in each zone
abbrev pub places_in : List (List Float) → Point → List Lies
places_in zones p = map (λ zone. place_in zone p) zones

-- ---- the refusals

-- Order 15: not refused; or refused with a number and a place, and a zone's number beside them
pub data Verdict : Type 0 where
  passes : Verdict
  stops : ℕ → ℕ → ℕ → Verdict

-- Order 2: what is judged after an answer; a refusal is the last, and has this zone's number beside it
abbrev pub beside : {A : Type 0} → ℕ → Outcome A → Verdict → Verdict
beside zone (answers a) next = next
beside zone (refuses number place) next = stops number place zone

-- Order 15: the zones from k on: as the first that is refused
unfoldable pub zones_judged : ℕ → List (List Float) → Point → Verdict
unfolding zone_of
zones_judged k [] p = passes
zones_judged k (zone ∷ zones) p = beside k (zone_of zone p) (zones_judged (k + 1) zones p)

-- Order 15: the point's refusal 3, at place 0 or 1
abbrev pub point_judged : Point → Outcome Unit
point_judged p = accepting_from 0 (p.x ∷ p.y ∷ []) tt

-- Order 15: refusal 1, 5, the point's 3, each beside zone 0; then the zones'
unfoldable pub judging_of : List ℕ → List Float → Point → Verdict
unfolding zones_judged
judging_of counts corners p =
    beside 0 (require (leb (length counts) most_zones) too_many 0)
    (beside 0 (require (eqb (length corners) (2 * counted_in counts)) odd_length 0)
    (beside 0 (point_judged p)
    (zones_judged 0 (zones_of counts corners) p)))

-- ---- the answer

-- Order 15: a refusal that is about no zone has 0 beside it: the promise of the conversion
abbrev pub FromSays : Refusal → ZoneRefusal → Type 0
FromSays refusal r = r ≡ record { refusal = refusal; zone = 0 }

-- Answer 4: number, place and zone's number of the code's refusal
abbrev pub verdict_said : Result Claim ZoneRefusal → Verdict
verdict_said (Ok claim) = passes
verdict_said (Err r) = stops (kind_number r.refusal.kind) r.refusal.place r.zone

-- Crease 3 to 6: the claim that is answered holds; a refusal says nothing of the places
abbrev pub Tells : Result Claim ZoneRefusal → List Lies → Type 0
Tells (Ok claim) places = Holds claim places
Tells (Err r) places = Unit {0}

-- the promise of `plan`: it is refused as Order 15 says and not otherwise, and a claim that is answered holds
pub record PlanSays (counts : List ℕ) (corners : List Float) (p : Point) (r : Result Claim ZoneRefusal) : Type 0 where
  pub judged : verdict_said r ≡ judging_of counts corners p
  pub claim : Tells r (places_in (zones_of counts corners) p)
