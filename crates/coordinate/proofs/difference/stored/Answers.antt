-- `coordinate::difference::stored` meets its contract: by the half that the wrapped difference lies in. Assumes nothing.
use Rattle.std.proofs.Common.{arith}
use Rattle.coordinate.specs.Difference.{difference}
use Rattle.coordinate.proofs.Laws.Difference.{stored_up, stored_down}
use Rattle.coordinate.proofs.difference.stored.Goals as goal

pub returns-then-d-lt-SIGN : goal.returns-then-d-lt-SIGN
returns-then-d-lt-SIGN c =
    stored_up _ _ (difference c.args.pattern c.args.before) (omega arith) (omega arith) (omega arith) (omega arith) c.if-d-lt-SIGN.true

pub returns-else-d-lt-SIGN : goal.returns-else-d-lt-SIGN
returns-else-d-lt-SIGN c =
    stored_down _ _ (difference c.args.pattern c.args.before) (omega arith) (omega arith) (omega arith) (omega arith) c.if-d-lt-SIGN.false
