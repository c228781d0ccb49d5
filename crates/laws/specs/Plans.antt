-- A plan whose zones are given one by one; and an edge that two zones of a plan share.
use Rattle.std.specs.Prelude.{ℕ, ◌/◌, ◌⊎◌, length, Float}
use mathlib.Core.List.{List, [], ◌∷◌, ◌++◌, map, Memᴰ}
use Rattle.ground.specs.Edge.{Edge, edges_of}
use Rattle.ground.specs.Listing.{turned_round}
use Rattle.geometry.specs.Zone.{corners_of}
use Rattle.crease.specs.Reasons.{zone_at}

-- Crease 1: how many corners each zone has: half as many as doubles
abbrev pub counts_of : List (List Float) → List ℕ
counts_of zones = map (λ zone. length zone / 2) zones

-- Crease 1: the doubles of all zones, one zone after the other
abbrev pub joined_of : List (List Float) → List Float
joined_of [] = []
joined_of (zone ∷ zones) = zone ++ joined_of zones

-- Crease 8: an edge of zone k, by what its corners are worth; the zone's list may begin at any corner
abbrev pub EdgeOf : List ℕ → List Float → ℕ → Edge → Type 0
EdgeOf counts corners k e = Memᴰ e (edges_of (corners_of (zone_at counts corners k)))

-- Crease 8: zones j and k share an edge, whichever way each runs
abbrev pub SharedEdge : List ℕ → List Float → ℕ → ℕ → Edge → Type 0
SharedEdge counts corners j k e = EdgeOf counts corners j e × (EdgeOf counts corners k e ⊎ EdgeOf counts corners k (turned_round e))
