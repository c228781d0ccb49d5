-- `double::from_pattern` meets its contract: 0 / 0 is the NaN, and any other pattern is not one. Assumes nothing.
use lib.Ieee.{div, of_bits}
use Rattle.double.proofs.Laws.Pattern.{nan_pattern, number_pattern}
use Rattle.double.proofs.pattern.from_pattern.Goals as goal

pub returns-then-bits-gt-INFINITY : goal.returns-then-bits-gt-INFINITY
unfolding div of_bits
returns-then-bits-gt-INFINITY c =
    nan_pattern _ c.if-bits-gt-INFINITY.true

pub float_from_bits-result : goal.float_from_bits-result
float_from_bits-result c =
    number_pattern _ c.if-bits-gt-INFINITY.false
