-- Words of 64 bits, the lowest first, and the number that they hold: Plain 1 of docs/RULES.md.
use Rattle.std.specs.Prelude.{ℕ, zero, suc, ◌+◌, ◌*◌, ◌/◌, ◌%◌, ◌^◌, List, [], ◌∷◌}

-- Plain 1: a word has 64 bits, and is below this
abbrev pub base : ℕ
base = 2 ^ 64

-- Plain 1: how many words there are
abbrev pub count : ℕ
count = 33

-- where they wrap. Shut, since no proof computes with its 636 digits
unfoldable pub modulus : ℕ
modulus = base ^ count

-- what words are worth, by the base B
unfoldable pub value_of : ℕ → List ℕ → ℕ
value_of B [] = 0
value_of B (w ∷ ws) = w + B * value_of B ws

-- the n lowest words of a number
unfoldable pub words_of : ℕ → ℕ → List ℕ
words_of zero v = []
words_of (suc n) v = v % base ∷ words_of n (v / base)
