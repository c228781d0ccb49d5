-- `coordinate::difference::restored` meets its contract: by whether the number is even. Assumes nothing.
use Rattle.coordinate.proofs.Laws.Difference.{restored_even, restored_odd}
use Rattle.coordinate.proofs.difference.restored.Goals as goal
use Rattle.coordinate.proofs.difference.restored.Goals.{then-number-eq0, else-number-eq0}

pub returns : goal.returns
returns c =
    elim c.if-number-eq0.branch [
      | then-number-eq0 w ↦ rw w.d-is (restored_even _ _ w.if-number-eq0.true)
      | else-number-eq0 w ↦ rw w.d-is (restored_odd _ _ w.if-number-eq0.false)
    ]
