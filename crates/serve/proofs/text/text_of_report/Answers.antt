-- By what the report says.
use Rattle.std.proofs.Common.{◌≡◌, ℕ, rules, length, replicate, ap, ◌∙◌}
use Rattle.std.specs.Prelude.{Err}
use Rattle.std.proofs.lemmas.List.{length-replicate}
use Rattle.serve.proofs.Laws.Text.{report_refused_zone, report_refused_releases}
use Rattle.serve.proofs.text.text_of_report.Goals as goal

-- 512 bytes are lent
room : length (replicate {A = ℕ} 512 0) ≡ 512
room = length-replicate {A = ℕ} 512 0

pub returns-in-Err-Zone : goal.returns-in-Err-Zone
returns-in-Err-Zone c =
    let says = report_refused_zone _ _ _ _ _ room c.report.ensures _ (c.in-Err-Zone.is ∙ ap Err c.in-Err-Zone.field-0-is) in
    search (rules, says)

pub returns-in-Err-Releases : goal.returns-in-Err-Releases
returns-in-Err-Releases c =
    let says = report_refused_releases _ _ _ _ _ room c.report.ensures _ (c.in-Err-Releases.is ∙ ap Err c.in-Err-Releases.field-0-is) in
    search (rules, says)
