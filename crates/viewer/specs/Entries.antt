-- What the viewer's two entries answer: docs/RULES.md, section Viewer.
use Rattle.std.specs.Prelude.{ℕ, zero, suc, ◌+◌, ◌%◌, ◌≡◌, Bool, false, ◌||◌, List, [], ◌∷◌, eqb, ℤ, pos, negsuc, length}
use Rattle.refusal.specs.Outcome.{Outcome, answers, refuses, odd_length}
use Rattle.refusal.specs.Judged.{require, also}
use Rattle.point.specs.declared.Point.{Point}
use Rattle.geometry.specs.Side.{Turned, side_of}
use Rattle.geometry.specs.Zone.{zone_of}
use Rattle.ground.specs.Zone.{Lies, place_number}
use Rattle.viewer.specs.Bytes.{point_of, corner_bytes, doubles_of}

-- Viewer 4: a refusal's number is added to 100
abbrev pub base : ℕ
base = 100

unfoldable pub entry_of : {A : Type 0} → (A → ℕ) → Outcome A → ℕ
entry_of number (answers answer) = number answer
entry_of number (refuses n place) = base + n

-- Viewer 3: -1 is answered by 0, 0 by 1 and +1 by 2
unfoldable pub sign_answer : ℤ → ℕ
sign_answer (negsuc n) = 0
sign_answer (pos zero) = 1
sign_answer (pos (suc n)) = 2

abbrev pub turn_answer : Turned → ℕ
turn_answer t = sign_answer t.sign

-- Viewer 1: the side's entry, of the patterns of px, py, qx, qy, rx, ry
unfoldable pub side_entry : ℕ → ℕ → ℕ → ℕ → ℕ → ℕ → ℕ
side_entry px py qx qy rx ry = entry_of turn_answer (side_of (point_of px py) (point_of qx qy) (point_of rx ry))

-- the promise
abbrev pub SideEntrySays : ℕ → ℕ → ℕ → ℕ → ℕ → ℕ → ℕ → Type 0
SideEntrySays px py qx qy rx ry n = n ≡ side_entry px py qx qy rx ry

-- Viewer 5: 5 for bytes that are no multiple of 16; any others are a zone, with its own answers and refusals
unfoldable pub zone_of_bytes : List ℕ → Point → Outcome Lies
zone_of_bytes bytes p = also (require (eqb (length bytes % corner_bytes) 0) odd_length 0) (λ _. zone_of (doubles_of bytes) p)

-- Viewer 2 and 3: the zone's entry, of the point's two patterns and the corners' bytes; outside is answered by 0, border by 1, inside by 2
unfoldable pub zone_entry : ℕ → ℕ → List ℕ → ℕ
zone_entry px py bytes = entry_of place_number (zone_of_bytes bytes (point_of px py))

-- the promise
abbrev pub ZoneEntrySays : ℕ → ℕ → List ℕ → ℕ → Type 0
ZoneEntrySays px py bytes n = n ≡ zone_entry px py bytes

-- ---- every number that an entry can answer
abbrev pub is_one_of : List ℕ → ℕ → Bool
is_one_of [] n = false
is_one_of (m ∷ ms) n = eqb n m || is_one_of ms n

-- Order 11: of the refusals only 3
abbrev pub side_answers : List ℕ
side_answers = 0 ∷ 1 ∷ 2 ∷ 103 ∷ []

-- Order 11: of the refusals 5, 4, 1 and 3
abbrev pub zone_answers : List ℕ
zone_answers = 0 ∷ 1 ∷ 2 ∷ 101 ∷ 103 ∷ 104 ∷ 105 ∷ []
