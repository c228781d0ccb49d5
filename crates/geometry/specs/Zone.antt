-- The zone of corners that are lent as doubles, by the rule of `ground` (docs/RULES.md, section Zone); its refusals, and the promise.
use Rattle.std.specs.Prelude.{ℕ, ◌+◌, ◌*◌, ◌/◌, ◌%◌, ◌≤◌, ◌<◌, ◌≡◌, cond, List, [], ◌∷◌, map, eqb, leb, ltb, length, get_or, Float, Result}
use Rattle.std.specs.Float.{nan}
use Rattle.ground.specs.Plane.{Spot}
use Rattle.ground.specs.Edge.{Edge, edge, edges_of}
use Rattle.ground.specs.Zone.{Lies, outside, border, inside, place_of}
use Rattle.refusal.specs.Outcome.{Outcome, too_many, too_few_corners, odd_length, outcome}
use Rattle.refusal.specs.Search.{passing_from}
use Rattle.refusal.specs.Judged.{require, also}
use Rattle.double.specs.Worth.{worth}
use Rattle.point.specs.declared.Point.{Point}
use Rattle.point.specs.Accepted.{accepted_within, accepting_from, Accepted}
use Rattle.point.specs.Spot.{spot_of}
use Rattle.geometry.specs.declared.answer.Place.{Place}
use Rattle.geometry.specs.declared.answer.Place.TheVariants.{Outside, Border, Inside}
use Rattle.refusal.specs.declared.Refusal.{Refusal}

-- Zone 1: a zone has 3 to 64 corners
abbrev pub fewest : ℕ
fewest = 3

abbrev pub most : ℕ
most = 64

-- ---- corners
-- Zone 1: the corners of a list of doubles, x and y by turns
unfoldable pub points_of : List Float → List Point
points_of [] = []
points_of (x ∷ []) = []
points_of (x ∷ y ∷ rest) = record { x = x; y = y } ∷ points_of rest

-- and what they are worth
unfoldable pub corners_of : List Float → List Spot
unfolding points_of worth
corners_of xs = map spot_of (points_of xs)

-- Zone 9: the place of a point in the zone of these corners
unfoldable pub place_in : List Float → Point → Lies
unfolding corners_of edges_of place_of worth
place_in corners p = place_of (edges_of (corners_of corners)) (spot_of p)

-- ---- a corner by its number, the number of the next, and the edge between them
abbrev pub corner_at : List Float → ℕ → Point
corner_at xs k = record { x = get_or xs (2 * k) nan; y = get_or xs (2 * k + 1) nan }

abbrev pub next_of : ℕ → ℕ → ℕ
next_of n k = cond (ltb (k + 1) n) (k + 1) 0

-- the promise of `next_of`
abbrev pub NextSays : ℕ → ℕ → ℕ → Type 0
NextSays n k r = r ≡ next_of n k

abbrev pub edge_at : List Float → ℕ → Edge
edge_at xs k = edge (spot_of (corner_at xs k)) (spot_of (corner_at xs (next_of (length xs / 2) k)))

-- a zone that is not refused, of n corners
pub record Zoned (xs : List Float) (n : ℕ) : Type 0 where
  pub corners : length xs ≡ 2 * n
  pub some : fewest ≤ n
  pub few : n ≤ most
  pub accepted : (k : ℕ) → k < n → Accepted (corner_at xs k)

-- ---- the answer
-- Answer 4: the rules' word for each case of the answer
unfoldable pub place_said : Place → Lies
place_said Outside = outside
place_said (Border k) = border k
place_said Inside = inside

unfoldable pub zone_said : Result Place Refusal → Outcome Lies
unfolding place_said
zone_said r = outcome place_said r

-- Order 6: refusal 5, 4, 1, then 3 at the point's places 0 and 1 and the corners' from 2; otherwise the place
unfoldable pub zone_of : List Float → Point → Outcome Lies
unfolding passing_from accepted_within place_in
zone_of corners p =
    also (require (eqb (length corners % 2) 0) odd_length 0) (λ _.
    also (require (leb fewest (length corners / 2)) too_few_corners 0) (λ _.
    also (require (leb (length corners / 2) most) too_many 0) (λ _.
    accepting_from 0 (p.x ∷ p.y ∷ corners) (place_in corners p))))

-- the promise of `zone`
abbrev pub ZoneSays : List Float → Point → Result Place Refusal → Type 0
ZoneSays corners p z = zone_said z ≡ zone_of corners p
