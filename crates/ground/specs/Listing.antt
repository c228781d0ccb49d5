-- Other lists of the same corners, edges from their other end, and lists of two zones joined along what they share.
use Rattle.std.specs.Prelude.{ℕ, ◌+◌, ◌≡◌, true, ◌⊎◌, ℤ}
use mathlib.Core.List.{List, ◌∷◌, ◌++◌, reverse, Memᴰ}
use Rattle.ground.specs.Plane.{Spot}
use Rattle.ground.specs.Edge.{Edge, edge, edges_from, edges_of, on_edge}
use Rattle.ground.specs.Zone.{Tally, tally_of, total_of, place_number, place_of}

-- Zone 10: the same round of corners, begun at another one
pub record Turned {A : Type 0} (cs ds : List A) : Type 0 where
  pub front : List A
  pub back : List A
  pub one : cs ≡ front ++ back
  pub other : ds ≡ back ++ front

-- and listed in the same direction or backwards
abbrev pub Relisted : {A : Type 0} → List A → List A → Type 0
Relisted cs ds = Turned cs ds ⊎ Turned (reverse cs) ds

-- the edge that runs the other way
abbrev pub turned_round : Edge → Edge
turned_round e = edge e.to e.from

-- the number of a point's place in the zone of these corners
abbrev pub place_in : List Spot → Spot → ℕ
place_in cs p = place_number (place_of (edges_of cs) p)

-- Zone 7: the total of a point in the zone of these corners
abbrev pub total_in : List Spot → Spot → ℤ
total_in cs p = total_of (tally_of (edges_of cs) p)

-- the tallies of two lists of edges in one
abbrev pub together : Tally → Tally → Tally
together s t = record { ups = s.ups + t.ups; downs = s.downs + t.downs }

-- the tally of the same edges turned round
abbrev pub opposite : Tally → Tally
opposite t = record { ups = t.downs; downs = t.ups }

-- some edge of the list has the point on it
pub record Met (es : List Edge) (p : Spot) : Type 0 where
  pub at : Edge
  pub listed : Memᴰ at es
  pub on : on_edge at p ≡ true

-- Zone 12: two zones that share the edges from a by a chain of corners to b, one running on by cs back to a, two from a by ds back to b; their joint
-- outline leaves the chain out. The chain is empty where they share one edge; each of the three is listed from any corner, either way round
pub record Joined (one two outline : List Spot) : Type 0 where
  pub a : Spot
  pub b : Spot
  pub chain : List Spot
  pub cs : List Spot
  pub ds : List Spot
  pub first : Relisted one (a ∷ chain ++ b ∷ cs)
  pub second : Relisted two (b ∷ reverse chain ++ a ∷ ds)
  pub whole : Relisted outline (b ∷ cs ++ a ∷ ds)

-- the edges that the two share, from a to b
abbrev pub shared_edges : {one two outline : List Spot} → Joined one two outline → List Edge
shared_edges j = edges_from j.b j.a j.chain
