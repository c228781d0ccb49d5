-- The exact total of a list in units of 2^-1074, and the numbers of a sign: Numbers 2 and Sum 18 of docs/RULES.md.
use Rattle.std.specs.Prelude.{List, [], ◌∷◌, ℤ, pos, negsuc, ◌+ℤ◌, Float}
use Rattle.double.specs.Worth.{worth}
use Rattle.sum.specs.declared.answer.Sign.{Sign}
use Rattle.sum.specs.declared.answer.Sign.TheVariants.{Minus, Zero, Plus}

-- Sum 18: the exact total. That a sign which is answered is its sign, and that no step changes it, are laws (Laws.Calls, Laws.Total)
unfoldable pub total_of : List Float → ℤ
total_of [] = pos 0
total_of (x ∷ xs) = worth x +ℤ total_of xs

-- Sum 18: -1, 0, +1
abbrev pub sign_number : Sign → ℤ
sign_number Minus = negsuc 0
sign_number Zero = pos 0
sign_number Plus = pos 1
