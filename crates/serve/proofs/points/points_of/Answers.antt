-- By what was read.
use Rattle.std.proofs.Common.{◌≡◌, rules, sym, ap, ◌∙◌}
use Rattle.std.specs.Prelude.{Result, Ok, Err, Some}
use Rattle.std.specs.Result.{result_ok}
use Rattle.std.specs.Option.{option_copied}
use Rattle.report.proofs.Laws.Zone.{holds_points}
use Rattle.serve.specs.Parts.{points_found}
use Rattle.serve.proofs.points.points_of.Goals as goal

-- an answer that is taken without its refusal
ok_some : {A E : Type 0} (r : Result A E) (a : A) → result_ok r ≡ Some a → r ≡ Ok a
ok_some (Ok x) a e = ap Ok (cc)
ok_some (Err q) a e = search rules

pub returns : goal.returns
returns c =
    ap (λ f. points_found (option_copied f)) c.in_ok-file.was
    ∙ (holds_points _ _ _ _ (search rules) c.read.ensures _ (ok_some _ _ (sym c.ok.ensures.value ∙ c.in_ok-n.was))).read
