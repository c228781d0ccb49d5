-- What inner functions promise of words that change, and of a double taken apart: believed by no reader.
use Rattle.std.specs.Prelude.{◌≡◌, ℕ, ◌+◌, ◌*◌, ◌^◌, ◌<◌, ◌≤◌, Bool, cond, List, length}
use Rattle.std.specs.Int.{from_bool}
use Rattle.double.specs.declared.answer.Parts.{Parts}
use Rattle.total.specs.Words.{value_of}

-- words before and after `adds` is added and `takes` taken away: up to a multiple of the power of B that follows the words
pub record Changed (B : ℕ) (before after : List ℕ) (adds takes : ℕ) : Type 0 where
  pub over : ℕ
  pub under : ℕ
  pub value_is : value_of B after + takes + B ^ length before * over ≡ value_of B before + adds + B ^ length before * under

-- ---- one word

-- what one unit adds, and what it takes away: the one or the other, by whether it is taken away
abbrev pub one_adds : Bool → ℕ
one_adds takes = cond takes 0 1

abbrev pub one_takes : Bool → ℕ
one_takes takes = cond takes 1 0

-- a word before and after n is added or taken away: up to what goes over to the next word
abbrev pub Stored : ℕ → Bool → ℕ → ℕ → Bool → ℕ → Type 0
Stored B takes before n over after =
    after + one_takes takes * n + B * (one_adds takes * from_bool over) ≡ before + one_adds takes * n + B * (one_takes takes * from_bool over)

-- ---- a double taken apart, s * 2 ^ e units

abbrev pub InRange : ℕ → ℕ → Type 0
InRange s e = (s < 2 ^ 53) × (e ≤ 2045)

abbrev pub units_of : Parts → ℕ
units_of p = p.significand * 2 ^ p.exponent

-- what it adds, and what it takes away
abbrev pub adds_of : Parts → ℕ
adds_of p = cond p.negative 0 (units_of p)

abbrev pub takes_of : Parts → ℕ
takes_of p = cond p.negative (units_of p) 0
