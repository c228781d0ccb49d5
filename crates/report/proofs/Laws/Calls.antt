-- What the two public calls promise together, and what a report leaves in the lent bytes. In order: a zone that `judge` refuses is refused
-- so by `report`, and one that it does not refuse never is; the codes that stand at the start of the lent bytes. Not here: each call by
-- itself (`Zone`, `Report`). Assumes nothing.
use Prim.Native.Nat.{ℕ, ◌≤◌}
use mathlib.Core.Path.{◌≡◌, refl, sym, ap, ◌∙◌, subst}
use mathlib.Core.List.{List, ◌++◌}
use native.Mathlib.Omega.{arith}
use lib.ListN.{length, take, drop}
use lib.Seq.{take-append_seam, drop-append_seam}
use Rattle.std.specs.Prelude.{Err, Ok, Result}
use Rattle.refusal.specs.declared.Refusal.{Refusal}
use Rattle.refusal.specs.Outcome.{Outcome, answers, refuses, kind_number}
use Rattle.refusal.proofs.Laws.Outcome.{never}
use Rattle.refusal.proofs.Laws.Judged.{also_answered}
use Rattle.report.specs.declared.answer.ReportRefusal.TheVariants.{Zone as RefusedZone}
use Rattle.report.specs.declared.answer.ReportRefusal.{ReportRefusal}
use Rattle.report.specs.Zone.{zone_file_of, JudgeSays}
use Rattle.report.specs.Report.{releases_of, Told, releases, refused_zone, refused_releases, of_releases, report_of}
use Rattle.report.specs.Report.{number_said, lent_after, ReportSays}
use Rattle.report.proofs.Laws.Zone.{points_refused}
use Rattle.report.proofs.Laws.Report.{report_zone_first, report_judged, Reported, report_codes, report_codes_room, said_once}

-- ---- the two calls agree
-- a zone that `judge` refuses is refused so by `report`, with whatever releases; one that it does not refuse never is
pub judge_refused_report : (zone bytes lent : List ℕ) (r : Refusal) → JudgeSays zone (Err r)
    → (q : Result ℕ ReportRefusal) (left : List ℕ) → ReportSays zone bytes lent q left → (q ≡ Err (RefusedZone r)) × (left ≡ lent)
judge_refused_report zone bytes lent r h q left s =
    let z = points_refused (zone_file_of zone) (kind_number r.kind) r.place h in
    let e = report_zone_first zone bytes (length lent) (kind_number r.kind) r.place z in (
      said_once q (Err (RefusedZone r)) (s.answer ∙ ap number_said e),
      s.bytes ∙ ap (λ (t : Told (List ℕ)). lent_after t lent) e,
    )

releases_number : (o : Outcome (List ℕ)) (number place : ℕ) → refused_zone number place ≡ number_said (of_releases o) → ⊥
releases_number (answers codes) number place e = never (cc)
releases_number (refuses n p) number place e = never (cc)

pub judge_corners_report : (zone bytes lent : List ℕ) (n : ℕ) → JudgeSays zone (Ok n)
    → (r : Refusal) (left : List ℕ) → ReportSays zone bytes lent (Err (RefusedZone r)) left → ⊥
judge_corners_report zone bytes lent n h r left s =
    let a = also_answered (zone_file_of zone) _ (sym h) in
    releases_number (releases_of a.0 bytes (length lent)) (kind_number r.kind) r.place
    (s.answer ∙ ap number_said (report_judged zone bytes (length lent) a.0 a.1))

-- ---- what a report leaves
told_releases : (told : Told (List ℕ)) (n : ℕ) → releases n ≡ number_said told
    → (codes : List ℕ) × (told ≡ releases codes) × (length codes ≡ n)
told_releases (releases codes) n e = (codes, refl, cc)
told_releases (refused_zone number place) n e = never (cc)
told_releases (refused_releases number place) n e = never (cc)

-- n codes, those of the releases in the zone, stand at the start of the lent bytes; later bytes stay
pub record Stands (zone bytes lent : List ℕ) (n : ℕ) (left : List ℕ) : Type 0 where
  pub room : n ≤ length lent
  pub many : length (take n left) ≡ n
  pub codes : Reported zone bytes (take n left)
  pub later : drop n left ≡ drop n lent

pub report_stands : (zone bytes lent : List ℕ) (n : ℕ) (left : List ℕ) → ReportSays zone bytes lent (Ok n) left
    → Stands zone bytes lent n left
report_stands zone bytes lent n left s =
    let t = told_releases (report_of zone bytes (length lent)) n s.answer in
    let is = s.bytes ∙ ap (λ (t : Told (List ℕ)). lent_after t lent) t.1 in
    stands t.0 t.1 t.2 is
  where
    stands : (codes : List ℕ) → report_of zone bytes (length lent) ≡ releases codes → length codes ≡ n
        → left ≡ codes ++ drop (length codes) lent → Stands zone bytes lent n left
    stands codes e size is =
        let first : take n left ≡ codes = ap (λ (k : ℕ). take k left) (sym size) ∙ ap (take (length codes)) is
        ∙ take-append_seam codes (drop (length codes) lent) in
        record {
          room = omega (arith, report_codes_room zone bytes (length lent) codes e, size);
          many = ap length first ∙ size;
          codes = subst (Reported zone bytes) (sym first) (report_codes zone bytes (length lent) codes e);
          later = ap (λ (k : ℕ). drop k left) (sym size) ∙ ap (drop (length codes)) is
              ∙ drop-append_seam codes (drop (length codes) lent) ∙ ap (λ (k : ℕ). drop k lent) size;
        }
