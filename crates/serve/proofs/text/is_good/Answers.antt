use Rattle.serve.proofs.Laws.Printed.{good_as}
use Rattle.serve.proofs.text.is_good.Goals as goal

pub returns : goal.returns
returns c = good_as _ _ c.is_some_and.ensures
