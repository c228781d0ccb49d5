use Rattle.std.proofs.Common.{◌∙◌}
use Rattle.serve.proofs.Laws.Printed.{judge_good}
use Rattle.serve.proofs.text.is_good_file.Goals as goal

pub returns : goal.returns
returns c = c.is_ok.ensures.value ∙ judge_good _ _ c.judge.ensures
