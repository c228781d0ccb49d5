-- What inner functions of judge and report find: believed by no reader.
use Rattle.std.specs.Prelude.{ℕ, ◌*◌, ◌/◌, ◌≡◌, List, length, take, Float, Result}
use Rattle.refusal.specs.declared.Refusal.{Refusal}
use Rattle.refusal.specs.Outcome.{Outcome, outcome}
use Rattle.geometry.specs.Zone.{Zoned}
use Rattle.report.specs.declared.answer.ReportRefusal.{ReportRefusal}
use Rattle.report.specs.Zone.{zone_file_of, JudgeSays}
use Rattle.report.specs.Report.{releases_of, of_releases, Tells}

-- the corners that stand at the start of a list, or the refusal
abbrev pub held_said : Result ℕ Refusal → List Float → Outcome (List Float)
held_said r list = outcome (λ n. take (2 * n) list) r

pub record JudgedHeld (zone : List ℕ) (r : Result ℕ Refusal) (list : List Float) : Type 0 where
  pub answer : JudgeSays zone r
  pub corners : held_said r list ≡ zone_file_of zone

-- corners of a zone that is not refused
abbrev pub IsZone : List Float → Type 0
IsZone corners = Zoned corners (length corners / 2)

-- the promise for the release file in such a zone
abbrev pub CodedSays : List Float → List ℕ → List ℕ → Result ℕ ReportRefusal → List ℕ → Type 0
CodedSays corners bytes lent r left = Tells (of_releases (releases_of corners bytes (length lent))) lent r left
