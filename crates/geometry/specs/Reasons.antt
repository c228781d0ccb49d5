-- What an answer of a side, a zone or a plane says of the points alone: the words of the laws about the calls (Laws.Calls, Laws.PlaneCalls).
use Rattle.std.specs.Prelude.{ℕ, ◌/◌, ◌%◌, ◌≤◌, ◌<◌, ◌≡◌, true, false, List, ◌∷◌, ℤ, length, Float}
use Rattle.std.specs.Float.{nan}
use Rattle.refusal.specs.Outcome.{too_many, not_accepted, too_few_corners, odd_length}
use Rattle.refusal.specs.Search.{IsFirst}
use Rattle.point.specs.declared.Point.{Point}
use Rattle.point.specs.declared.HighPoint.{HighPoint}
use Rattle.point.specs.Accepted.{accepted_of}
use Rattle.point.specs.Spot.{spot_of}
use Rattle.point.specs.High.{high_accepted}
use Rattle.geometry.specs.Side.{six_of}
use Rattle.ground.specs.Edge.{edges_of, on_edge}
use Rattle.ground.specs.Zone.{tally_of, total_of}
use Rattle.geometry.specs.Plane.{twelve_of}
use Rattle.geometry.specs.Zone.{fewest, most, corners_of, edge_at}

-- a side is refused with this number and place
abbrev pub SideRefusedAs : Point → Point → Point → ℕ → ℕ → Type 0
SideRefusedAs p q r number place = (number ≡ not_accepted) × IsFirst accepted_of nan (six_of p q r) place

-- a plane is refused with this number and place
abbrev pub PlaneRefusedAs : HighPoint → HighPoint → HighPoint → HighPoint → ℕ → ℕ → Type 0
PlaneRefusedAs p q r s number place = (number ≡ not_accepted) × IsFirst high_accepted nan (twelve_of p q r s) place

-- a zone is refused with this number and place
pub data ZoneRefusedAs (xs : List Float) (p : Point) : ℕ → ℕ → Type 0 where
  odd : length xs % 2 ≡ 1 → ZoneRefusedAs xs p odd_length 0
  few : length xs % 2 ≡ 0 → length xs / 2 < fewest → ZoneRefusedAs xs p too_few_corners 0
  many : length xs % 2 ≡ 0 → most < length xs / 2 → ZoneRefusedAs xs p too_many 0
  unaccepted : length xs % 2 ≡ 0 → fewest ≤ length xs / 2 → length xs / 2 ≤ most → (place : ℕ)
      → IsFirst accepted_of nan (p.x ∷ p.y ∷ xs) place → ZoneRefusedAs xs p not_accepted place

-- edge k has the point, and no earlier one
pub record FirstOn (xs : List Float) (p : Point) (k : ℕ) : Type 0 where
  pub inside : k < length xs / 2
  pub on : on_edge (edge_at xs k) (spot_of p) ≡ true
  pub before : (i : ℕ) → i < k → on_edge (edge_at xs i) (spot_of p) ≡ false

-- no edge has it
abbrev pub OffBorder : List Float → Point → Type 0
OffBorder xs p = (k : ℕ) → k < length xs / 2 → on_edge (edge_at xs k) (spot_of p) ≡ false

-- Zone 7: the edges that count upward less those that count downward
abbrev pub total_in : List Float → Point → ℤ
total_in xs p = total_of (tally_of (edges_of (corners_of xs)) (spot_of p))
