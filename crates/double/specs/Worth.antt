-- What a double is worth: docs/RULES.md, section Numbers. A double is a `Float` of `lib.Ieee` that fits `binary64` (Numbers 1): `fin s m e`
-- is finite, m * 2 ^ e, negative where s is true; `inf s` is infinite; `nan` is not a number. Some definitions take the format, as laws do.
use Rattle.std.specs.Prelude.{ℕ, suc, ◌*◌, ◌/◌, ◌^◌, Bool, false, true, cond, List, T, ℤ, pos, negsuc, neg_ℤ, get_or, Float}
use Rattle.std.specs.Float.{nan, inf, fin, Format, binary64}
use Rattle.std.specs.Float.Ieee.{low, round, fits, of_bits}
use Rattle.std.specs.Float.Ieee.Positive.{num, den}

-- Numbers 5: the sign bit: set for the negative; a zero has either. (A NaN's is not kept.)
abbrev pub sign_bit : Float → Bool
sign_bit nan = false
sign_bit (inf s) = s
sign_bit (fin s m e) = s

-- Numbers 2: the whole number of units that a magnitude num / den is. In binary64 `low` is 1074.
abbrev pub mag : Format → Float → ℕ
mag f x = num x * 2 ^ low f / den x

-- the same number as a difference `plus` - `minus` of which one is 0
abbrev pub plus : Format → Float → ℕ
plus f x = cond (sign_bit x) 0 (mag f x)

abbrev pub minus : Format → Float → ℕ
minus f x = cond (sign_bit x) (mag f x) 0

-- Numbers 2 and 3: what a double is worth in units; a zero of either sign is worth 0
unfoldable pub worth : Float → ℤ
worth x = cond (sign_bit x) (neg_ℤ (pos (mag binary64 x))) (pos (mag binary64 x))

-- n units, rounded to the format, with a sign
unfoldable pub of_units : Format → Bool → ℕ → Float
of_units f s n = round f s n (2 ^ low f)

-- +0
abbrev pub plus0 : Float
plus0 = of_bits binary64 0

-- what owning a list of doubles tells: the format holds every entry (a not-a-number is one too)
abbrev pub AllDoubles : List Float → Type 0
AllDoubles xs = (i : ℕ) → T (fits binary64 (get_or xs i nan))

-- the double of a given worth, +0 for 0; where no double has it, the nearest
unfoldable pub double_of : ℤ → Float
unfolding of_units
double_of (pos n) = of_units binary64 false n
double_of (negsuc n) = of_units binary64 true (suc n)
