-- Why a point has its place in a zone of corners that are lent as doubles; its refusals, and the promise.
use Rattle.std.specs.Prelude.{ℕ, ◌+◌, ◌*◌, ◌≡◌, List, map, leb, length, Float, Result}
use Rattle.ground.specs.Edge.{edges_of}
use Rattle.ground.specs.Reason.{Turn, up, down, Entry, Reason, on_border, is_inside, is_outside, reason_of, entries_of}
use Rattle.refusal.specs.declared.Refusal.{Refusal}
use Rattle.refusal.specs.Outcome.{Outcome, answers, no_room, outcome}
use Rattle.refusal.specs.Judged.{require, also, filled}
use Rattle.point.specs.declared.Point.{Point}
use Rattle.point.specs.Spot.{spot_of}
use Rattle.geometry.specs.Zone.{corners_of, zone_of}
use Rattle.reason.specs.declared.answer.Why.TheVariants.{Border, Inside, Outside}
use Rattle.reason.specs.declared.answer.Why.{Why}

-- Reason 1: the reason of what corners and point are worth
unfoldable pub reason_in : List Float → Point → Reason (List Entry)
unfolding corners_of edges_of reason_of
reason_in corners p = reason_of (edges_of (corners_of corners)) (spot_of p)

-- Reason 7: an entry as a byte: 2k for edge k upward, 2k + 1 for edge k downward
abbrev pub turn_code : Turn → ℕ
turn_code up = 0
turn_code down = 1

abbrev pub code : Entry → ℕ
code x = 2 * x.edge + turn_code x.turn

-- Reason 6: how many entries are needed
abbrev pub needed_in : List Float → Point → ℕ
needed_in corners p = length (entries_of (reason_in corners p))

-- Order 14: refused as the zone is, then with 9 where the room is shorter than the entries
unfoldable pub why_of : List Float → Point → ℕ → Outcome (Reason (List Entry))
unfolding zone_of reason_in
why_of corners p room =
    also (zone_of corners p) (λ _.
    also (require (leb (needed_in corners p) room) no_room 0) (λ _.
    answers (reason_in corners p)))

-- ---- the answer

-- Answer 4: the rules' values for each case of the code's answer
abbrev pub why_value : Why → Reason ℕ
why_value (Border m) = on_border m.edge m.corner
why_value (Inside c) = is_inside c.total c.entries
why_value (Outside c) = is_outside c.total c.entries

-- or number and place
unfoldable pub why_said : Result Why Refusal → Outcome (Reason ℕ)
why_said r = outcome why_value r

-- Reason 7: the number of entries is answered
abbrev pub numbered : Reason (List Entry) → Reason ℕ
numbered (on_border k corner) = on_border k corner
numbered (is_inside total xs) = is_inside total (length xs)
numbered (is_outside total xs) = is_outside total (length xs)

abbrev pub number_said : Outcome (Reason (List Entry)) → Outcome (Reason ℕ)
number_said o = also o (λ r. answers (numbered r))

-- Reason 7: the entries stand at the start of the lent room and later bytes stay. Order 1: all stay after a refusal
abbrev pub lent_after : Outcome (Reason (List Entry)) → List ℕ → List ℕ
lent_after o lent = filled (also o (λ r. answers (map code (entries_of r)))) lent

-- the promise of `why`: its answer, and every lent byte
pub record WhySays (corners : List Float) (p : Point) (lent : List ℕ) (r : Result Why Refusal) (left : List ℕ) : Type 0 where
  pub answer : why_said r ≡ number_said (why_of corners p (length lent))
  pub room : left ≡ lent_after (why_of corners p (length lent)) lent
