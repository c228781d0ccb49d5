-- The report of releases: Desk 2 and 10 and Order 10 of docs/RULES.md.
use Rattle.std.specs.Prelude.{ℕ, ◌/◌, ◌≡◌, List, [], ◌∷◌, leb, length, Float, Err, Ok, Result}
use Rattle.refusal.specs.Outcome.{Outcome, answers, refuses, no_room, kind_number}
use Rattle.point.specs.declared.Point.{Point}
use Rattle.geometry.specs.Zone.{points_of, place_in}
use Rattle.ground.specs.Zone.{place_number}
use Rattle.refusal.specs.Judged.{require, also, filled}
use Rattle.report.specs.declared.answer.ReportRefusal.TheVariants.{Zone as RefusedZone, Releases as RefusedReleases}
use Rattle.report.specs.declared.answer.ReportRefusal.{ReportRefusal}
use Rattle.report.specs.Zone.{file_holds, zone_file_of}

-- Desk 10: the code of a release: 0 outside, 1 border, 2 inside
unfoldable pub code_of : List Float → Point → ℕ
code_of corners p = place_number (place_in corners p)

unfoldable pub codes_of : List Float → List Point → List ℕ
unfolding code_of
codes_of corners [] = []
codes_of corners (p ∷ ps) = code_of corners p ∷ codes_of corners ps

-- Order 10: the codes of a file's releases in a judged zone, or the reader's refusal; last 9 where fewer codes are lent
unfoldable pub releases_of : List Float → List ℕ → ℕ → Outcome (List ℕ)
unfolding codes_of
releases_of corners bytes room =
    also (file_holds bytes) (λ points.
    also (require (leb (length points / 2) room) no_room 0) (λ _.
    answers (codes_of corners (points_of points))))

-- Desk 10: what is told: of the releases; a refusal of the zone (Desk 3); a refusal of the releases (Desk 4)
pub data Told (A : Type 0) : Type 0 where
  releases : A → Told A
  refused_zone : ℕ → ℕ → Told A
  refused_releases : ℕ → ℕ → Told A

abbrev pub of_releases : {A : Type 0} → Outcome A → Told A
of_releases (answers a) = releases a
of_releases (refuses number place) = refused_releases number place

-- Desk 2: the zone is judged first, and the releases only in a good zone
abbrev pub after_zone : {A B : Type 0} → Outcome A → (A → Outcome B) → Told B
after_zone (answers corners) next = of_releases (next corners)
after_zone (refuses number place) next = refused_zone number place

unfoldable pub report_of : List ℕ → List ℕ → ℕ → Told (List ℕ)
unfolding zone_file_of releases_of
report_of zone bytes room = after_zone (zone_file_of zone) (λ corners. releases_of corners bytes room)

-- Desk 10: the number of releases is answered
abbrev pub number_said : Told (List ℕ) → Told ℕ
number_said (releases codes) = releases (length codes)
number_said (refused_zone number place) = refused_zone number place
number_said (refused_releases number place) = refused_releases number place

-- an answer, or a refusal of either file
abbrev pub outcome_of : {A : Type 0} → Told A → Outcome A
outcome_of (releases a) = answers a
outcome_of (refused_zone number place) = refuses number place
outcome_of (refused_releases number place) = refuses number place

-- Desk 10: the codes stand at the start of the lent bytes and later ones stay. Order 1: all stay after a refusal
abbrev pub lent_after : Told (List ℕ) → List ℕ → List ℕ
lent_after told lent = filled (outcome_of told) lent

-- Answer 4: the rules' values, or number and place, for each case of the code's answer
abbrev pub report_said : Result ℕ ReportRefusal → Told ℕ
report_said (Ok n) = releases n
report_said (Err (RefusedZone r)) = refused_zone (kind_number r.kind) r.place
report_said (Err (RefusedReleases r)) = refused_releases (kind_number r.kind) r.place

-- a call of this outcome: its answer, and every lent byte
pub record Tells (told : Told (List ℕ)) (lent : List ℕ) (r : Result ℕ ReportRefusal) (left : List ℕ) : Type 0 where
  pub answer : report_said r ≡ number_said told
  pub bytes : left ≡ lent_after told lent

-- the promise
abbrev pub ReportSays : List ℕ → List ℕ → List ℕ → Result ℕ ReportRefusal → List ℕ → Type 0
ReportSays zone bytes lent r left = Tells (report_of zone bytes (length lent)) lent r left
