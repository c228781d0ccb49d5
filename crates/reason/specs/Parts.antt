-- What inner functions find: believed by no reader, since laws say that a reason is what its rules say.
use Rattle.std.specs.Prelude.{ℕ, ◌+◌, ◌/◌, ◌<◌, ◌≤◌, ◌≡◌, Bool, ◌&&◌, List, ◌++◌, map, length, take, drop, set, Result, Ok, Err, Float}
use Rattle.std.specs.Float.Ieee.{eq}
use Rattle.whole.specs.Sign.{sgn}
use Rattle.ground.specs.Edge.{Edge, edge, edges_of, side_of_edge, is_up, is_down}
use Rattle.ground.specs.Zone.{count_of, tally_of, total_of}
use Rattle.ground.specs.Reason.{up, down, entry, list_from}
use Rattle.refusal.specs.declared.Kind.TheVariants.{NoRoom}
use Rattle.refusal.specs.declared.Refusal.{Refusal}
use Rattle.point.specs.declared.Point.{Point}
use Rattle.point.specs.Accepted.{Accepted, OfDoubles}
use Rattle.point.specs.Spot.{spot_of}
use Rattle.sum.specs.Total.{sign_number}
use Rattle.sum.specs.declared.answer.Sign.{Sign}
use Rattle.geometry.specs.Zone.{most, corners_of, edge_at, Zoned}
use Rattle.geometry.specs.declared.answer.Crossing.{Crossing}
use Rattle.geometry.specs.declared.answer.Crossing.TheVariants.{None, Up, Down}
use Rattle.reason.specs.Why.{code}
use Rattle.reason.specs.declared.answer.Counted.{Counted}
use Rattle.reason.specs.declared.crossing.Ends.{Ends}
use Rattle.reason.specs.declared.listing.Listed.{Listed}

-- a point that is accepted, and made of doubles
pub record Held (p : Point) : Type 0 where
  pub accepted : Accepted p
  pub of_doubles : OfDoubles p

-- the edge from a to b, by what they are worth
abbrev pub edge_from : Point → Point → Edge
edge_from a b = edge (spot_of a) (spot_of b)

-- the sign of the point's side
abbrev pub SideIs : Point → Point → Point → Sign → Type 0
SideIs a b p s = sign_number s ≡ sgn (side_of_edge (edge_from a b) (spot_of p))

-- points that are equal, by comparisons of doubles
abbrev pub same_by : Point → Point → Bool
same_by a b = eq a.x b.x && eq a.y b.y

-- corners of a zone that is not refused
abbrev pub IsZone : List Float → Type 0
IsZone corners = Zoned corners (length corners / 2)

-- the ends of edge k
pub record EndsSays (corners : List Float) (k : ℕ) (e : Ends) : Type 0 where
  pub edge : edge_from e.from e.to ≡ edge_at corners k
  pub from : Held e.from
  pub to : Held e.to

-- one edge more: it is counted, and its entry stands behind the others
abbrev pub with_edge : Listed → ℕ → Crossing → Listed
with_edge l k None = l
with_edge l k Up = record { ups = l.ups + 1; downs = l.downs; entries = set l.entries (l.ups + l.downs) (code (entry k up)) }
with_edge l k Down = record { ups = l.ups; downs = l.downs + 1; entries = set l.entries (l.ups + l.downs) (code (entry k down)) }

-- the entries of a zone's edges, as bytes
abbrev pub codes_in : List Float → Point → List ℕ
codes_in corners p = map code (list_from 0 (edges_of (corners_of corners)) (spot_of p))

-- all edges of a zone: how many count each way, and their entries at the start of a list with room for all
pub record ListedSays (corners : List Float) (p : Point) (l : Listed) : Type 0 where
  pub ups : l.ups ≡ count_of is_up (edges_of (corners_of corners)) (spot_of p)
  pub downs : l.downs ≡ count_of is_down (edges_of (corners_of corners)) (spot_of p)
  pub stand : take (l.ups + l.downs) l.entries ≡ codes_in corners p
  pub kept : length l.entries ≡ most

-- the edges that count are answered, and their entries stand at the start of the lent room; or they do not fit, and all stays
abbrev pub CountedSays : List Float → Point → List ℕ → Result Counted Refusal → List ℕ → Type 0
CountedSays corners p lent (Ok c) left =
    (c ≡ record { total = total_of (tally_of (edges_of (corners_of corners)) (spot_of p)); entries = length (codes_in corners p) })
    × (length (codes_in corners p) ≤ length lent) × (left ≡ codes_in corners p ++ drop (length (codes_in corners p)) lent)
CountedSays corners p lent (Err r) left =
    (r ≡ record { kind = NoRoom; place = 0 }) × (length lent < length (codes_in corners p)) × (left ≡ lent)
