-- Refusals judged one after the other, and what a call leaves in lent memory: docs/RULES.md, section Order.
use Rattle.std.specs.Prelude.{ℕ, Bool, true, false, List, ◌++◌, length, drop}
use Rattle.refusal.specs.Outcome.{Outcome, answers, refuses}

-- Order 2: refused with this number and place, unless the test holds
abbrev pub require : Bool → ℕ → ℕ → Outcome Unit
require true number place = answers tt
require false number place = refuses number place

-- Order 2: what is judged after an answer; a refusal is the last
abbrev pub also : {A B : Type 0} → Outcome A → (A → Outcome B) → Outcome B
also (answers a) next = next a
also (refuses number place) next = refuses number place

-- Order 1: lent memory after a call: as its answer leaves it, or as it was lent after a refusal
abbrev pub leaves : {A E : Type 0} → Outcome A → (A → List E) → List E → List E
leaves (answers a) left lent = left a
leaves (refuses number place) left lent = lent

-- Track 10 and 11: what is answered stands at the start of lent memory, and later entries stay
abbrev pub filled : {A : Type 0} → Outcome (List A) → List A → List A
filled o lent = leaves o (λ vs. vs ++ drop (length vs) lent) lent
