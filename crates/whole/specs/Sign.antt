-- The sign of a whole number.
use Rattle.std.specs.Prelude.{zero, suc, ℤ, pos, negsuc}

-- -1 below 0, 0 at 0, +1 above it; `negsuc 0` is -1
unfoldable pub sgn : ℤ → ℤ
sgn (pos zero) = pos 0
sgn (pos (suc n)) = pos 1
sgn (negsuc n) = negsuc 0
