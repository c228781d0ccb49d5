-- Why a point has its place: the edge that it is on, or the edges that count (docs/RULES.md, section Reason).
use Rattle.std.specs.Prelude.{ℕ, suc, ◌+◌, ◌≤◌, Bool, ◌&&◌, ◌||◌, cond, List, [], ◌∷◌, ℤ, pos, negsuc, ◌+ℤ◌, get_or}
use Rattle.ground.specs.Compare.{equal}
use Rattle.ground.specs.Plane.{Spot}
use Rattle.ground.specs.Edge.{Edge, edge, is_up, is_down}
use Rattle.ground.specs.Zone.{Lies, outside, border, inside, tally_of, total_of, place_of}

-- ---- the edges that count

-- Reason 3: the turn of an edge that counts
pub data Turn : Type 0 where
  up : Turn
  down : Turn

-- Zone 5 and 6: whether an edge counts with this turn
abbrev pub counts : Turn → Edge → Spot → Bool
counts up e p = is_up e p
counts down e p = is_down e p

-- Reason 3: an edge that counts, by its number, and its turn
pub record Entry : Type 0 where
  pub edge : ℕ
  pub turn : Turn

abbrev pub entry : ℕ → Turn → Entry
entry k t = record { edge = k; turn = t }

-- an entry more, or none
abbrev pub added_if : Bool → Entry → List Entry → List Entry
added_if counted x xs = cond counted (x ∷ xs) xs

-- Reason 3: of edges that are numbered from k on, an entry for each that counts, in order
unfoldable pub list_from : ℕ → List Edge → Spot → List Entry
unfolding is_up is_down
list_from k [] p = []
list_from k (e ∷ es) p = added_if (is_up e p) (entry k up) (added_if (is_down e p) (entry k down) (list_from (k + 1) es p))

-- Reason 3: the numbers of entries rise, from k on
abbrev pub RiseFrom : ℕ → List Entry → Type 0
RiseFrom k [] = Unit
RiseFrom k (x ∷ xs) = (k ≤ x.edge) × RiseFrom (suc x.edge) xs

-- Reason 4: 1 for each entry that is up, less 1 for each that is down
abbrev pub turn_number : Turn → ℤ
turn_number up = pos 1
turn_number down = negsuc 0

unfoldable pub total_listed : List Entry → ℤ
total_listed [] = pos 0
total_listed (x ∷ xs) = turn_number x.turn +ℤ total_listed xs

-- ---- the edge that has the point

-- equal in value
abbrev pub same_spot : Spot → Spot → Bool
same_spot a b = equal a.x b.x && equal a.y b.y

-- Reason 2: the point is a corner of the edge: equal in value to one of its two ends
unfoldable pub is_corner : Edge → Spot → Bool
unfolding equal
is_corner e p = same_spot e.from p || same_spot e.to p

-- ---- the reason

-- Reason 1: on the border, the edge's number and whether the point is a corner of it; inside or outside, the total and the edges that count
pub data Reason (A : Type 0) : Type 0 where
  on_border : ℕ → Bool → Reason A
  is_inside : ℤ → A → Reason A
  is_outside : ℤ → A → Reason A

-- edge k of a list that has so many
abbrev pub edge_of : List Edge → ℕ → Spot → Edge
edge_of es k p = get_or es k (edge p p)

-- by the place that the zone's rule gives
abbrev pub reason_at : Lies → List Edge → Spot → Reason (List Entry)
reason_at (border k) es p = on_border k (is_corner (edge_of es k p) p)
reason_at inside es p = is_inside (total_of (tally_of es p)) (list_from 0 es p)
reason_at outside es p = is_outside (total_of (tally_of es p)) (list_from 0 es p)

unfoldable pub reason_of : List Edge → Spot → Reason (List Entry)
unfolding place_of total_of tally_of list_from is_corner
reason_of es p = reason_at (place_of es p) es p

-- Reason 5: the place of a reason
abbrev pub place_said : {A : Type 0} → Reason A → Lies
place_said (on_border k corner) = border k
place_said (is_inside total xs) = inside
place_said (is_outside total xs) = outside

-- Reason 6: the entries that a reason needs: none on the border
abbrev pub entries_of : Reason (List Entry) → List Entry
entries_of (on_border k corner) = []
entries_of (is_inside total xs) = xs
entries_of (is_outside total xs) = xs
