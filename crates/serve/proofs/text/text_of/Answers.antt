-- By what could be read.
use Rattle.std.proofs.Common.{sym, ap, ap₂, ◌∙◌}
use Rattle.std.specs.Option.{option_copied}
use Rattle.serve.specs.Printed.{printed}
use Rattle.serve.proofs.Laws.Printed.{zone_unreadable, report_printed}
use Rattle.serve.proofs.text.text_of.Goals as goal

pub returns-in-Some-Some : goal.returns-in-Some-Some
returns-in-Some-Some c =
    c.text_of_report.ensures ∙ report_printed _ _
    ∙ ap₂ (λ z r. printed (option_copied z) (option_copied r)) (sym c.in-Some-Some.is-0) (sym c.in-Some-Some.is-1)

pub returns-in-None-default : goal.returns-in-None-default
returns-in-None-default c =
    c.set.ensures ∙ zone_unreadable _ ∙ ap (λ z. printed (option_copied z) (option_copied c.args.files.releases)) (sym c.in-None-default.is-0)
