-- What an answer of `why` says of the zone and the point alone: the words of the laws about the call (Laws.Calls).
use Rattle.std.specs.Prelude.{ℕ, ◌+◌, ◌/◌, ◌%◌, ◌<◌, ◌≡◌, cond, List, [], ◌∷◌, eqb, ℤ, pos, negsuc, ◌+ℤ◌, length, get_or, Float, Ok, Result}
use Rattle.ground.specs.Edge.{edges_of}
use Rattle.ground.specs.Zone.{tally_of}
use Rattle.refusal.specs.Outcome.{no_room}
use Rattle.refusal.specs.declared.Refusal.{Refusal}
use Rattle.point.specs.declared.Point.{Point}
use Rattle.point.specs.Accepted.{Accepted}
use Rattle.point.specs.Spot.{spot_of}
use Rattle.geometry.specs.Zone.{corners_of, Zoned}
use Rattle.geometry.specs.Reasons.{ZoneRefusedAs, OffBorder}
use Rattle.reason.specs.declared.answer.Counted.{Counted}
use Rattle.reason.specs.declared.answer.Why.TheVariants.{Inside, Outside}
use Rattle.reason.specs.declared.answer.Why.{Why}

-- how many edges count
abbrev pub many_in : List Float → Point → ℕ
many_in xs p = let t = tally_of (edges_of (corners_of xs)) (spot_of p) in t.ups + t.downs

-- a reason is refused with this number and place, where so many bytes are lent
pub data WhyRefusedAs (xs : List Float) (p : Point) (room : ℕ) : ℕ → ℕ → Type 0 where
  as_zone : (number place : ℕ) → ZoneRefusedAs xs p number place → WhyRefusedAs xs p room number place
  short : Zoned xs (length xs / 2) → Accepted p → OffBorder xs p → room < many_in xs p → WhyRefusedAs xs p room no_room 0

-- an answer off the border, inside or outside
pub data Tells (c : Counted) : Result Why Refusal → Type 0 where
  of_inside : Tells c (Ok (Inside c))
  of_outside : Tells c (Ok (Outside c))

-- a byte stands among the first n of a list
pub record Stands (bytes : List ℕ) (n : ℕ) (byte : ℕ) : Type 0 where
  pub at : ℕ
  pub within : at < n
  pub is : get_or bytes at 0 ≡ byte

-- the total of entries as bytes: an even one is up, an odd one is down
abbrev pub total_coded : List ℕ → ℤ
total_coded [] = pos 0
total_coded (b ∷ bs) = cond (eqb (b % 2) 0) (pos 1) (negsuc 0) +ℤ total_coded bs
