-- `double::to_pattern` meets its contract: every NaN has the one pattern. Assumes nothing.
use mathlib.Core.Path.{sym, ◌∙◌}
use Rattle.double.proofs.Laws.Pattern.{nan_bits_lem}
use Rattle.double.proofs.pattern.to_pattern.Goals as goal

pub returns-then-is_nan : goal.returns-then-is_nan
returns-then-is_nan c =
    nan_bits_lem _ (sym c.is_nan.ensures.value ∙ c.if-is_nan.true)
