-- One double more in a total: Plain 1 of docs/RULES.md. A total is held in units of 2^-1074.
use Rattle.std.specs.Prelude.{◌≡◌, ℕ, suc, ◌+◌, ◌-◌, Bool, cond, ◌&&◌, List, length, ℤ, pos, negsuc, ◌==◌, Float}
use Rattle.std.specs.Float.Ieee.Scale.{finite}
use Rattle.double.specs.Worth.{worth}
use Rattle.total.specs.Words.{base, count, modulus, value_of, words_of}

-- Plain 1: two's complement: a number below 0 stands as what it lacks of the modulus
abbrev pub complement : ℤ → ℕ
complement (pos n) = n
complement (negsuc n) = modulus - suc n

-- Plain 1: there are 33 words, and the double is finite
abbrev pub addable : List ℕ → Float → Bool
addable ws x = length ws == count && finite x

-- Plain 1: the words of what the total held and the double's worth; where it can not be added, the words as they were
unfoldable pub added_of : List ℕ → Float → List ℕ
unfolding value_of words_of worth
added_of ws x = cond (addable ws x) (words_of count (value_of base ws + complement (worth x))) ws

-- the promise of `add`: whether the double was added, and every word
pub record AddSays (ws : List ℕ) (x : Float) (r : Bool) (after : List ℕ) : Type 0 where
  pub answer : r ≡ addable ws x
  pub words : after ≡ added_of ws x
