-- What some lines ask, computed. In order: lines that are copied; the first word; a count; doubles; counts and doubles; a file.
-- Assumes nothing.
use mathlib.Core.Path.{◌≡◌, refl}
use mathlib.Core.List.{List, [], ◌∷◌}
use Prim.Native.Nat.{ℕ}
use Prim.Native.Char.{code}
use Prim.Native.String.{String, [] as []ˢ, ◌∷◌ as ◌∷ˢ◌}
use Rattle.line.specs.Numeral.{digit_of, onward, pattern_of, count_of}
use Rattle.line.specs.Word.{word_of}
use Rattle.line.specs.Line.{Meaning, copied, unclear, of_doubles, of_file, first_of, later_of, doubles_of, numbers_of, bytes_of}
use Rattle.line.specs.Line.{name_of, meaning_of}
use Rattle.line.specs.declared.answer.Word.TheVariants.{Apart, Run, Plain, Side, Plane, Meet, Why, Plan}

abbrev codes : String → List ℕ
codes []ˢ = []
codes (c ∷ˢ s) = code c ∷ codes s

abbrev asks : String → Meaning → Type 0
asks line m = meaning_of (codes line) ≡ m

copied_lines : asks "" copied × asks "#" copied × asks "#x y" copied
unfolding meaning_of first_of later_of name_of word_of doubles_of
copied_lines = (refl, refl, refl)

words : asks "apart" (of_doubles Apart 0 []) × asks "apart " unclear × asks " apart" unclear × asks "apar" unclear
    × asks "apartapart" unclear × asks "plain" (of_doubles Plain 0 []) × asks "plane" (of_doubles Plane 0 [])
    × asks "meet" (of_doubles Meet 0 [])
unfolding meaning_of first_of later_of name_of word_of doubles_of pattern_of onward digit_of
words = (refl, refl, refl, refl, refl, refl, refl, refl)

counts : asks "run 0" (of_doubles Run 0 []) × asks "run" unclear × asks "run 01" unclear
    × asks "run 4294967295" (of_doubles Run 0xFFFF_FFFF []) × asks "run 4294967296" unclear × asks "run -1" unclear
    × asks "why 64" (of_doubles Why 64 []) × asks "why" unclear
unfolding meaning_of first_of later_of name_of word_of doubles_of count_of onward digit_of
counts = (refl, refl, refl, refl, refl, refl, refl, refl)

doubles : asks "side 3ff0000000000000 7FF0000000000000" (of_doubles Side 0 (0x3ff0_0000_0000_0000 ∷ 0x7ff0_0000_0000_0000 ∷ []))
    × asks "side 3ff000000000000" unclear × asks "side 03ff0000000000000" unclear × asks "side 3ff0000000000000  3ff0000000000000" unclear
unfolding meaning_of first_of later_of name_of word_of doubles_of pattern_of onward digit_of
doubles = (refl, refl, refl, refl)

plans : asks "plan 0" (of_doubles Plan 0 []) × asks "plan 2 3 4" (of_doubles Plan 2 (3 ∷ 4 ∷ []))
    × asks "plan 1 3 3ff0000000000000" (of_doubles Plan 1 (3 ∷ 0x3ff0_0000_0000_0000 ∷ [])) × asks "plan" unclear × asks "plan 01" unclear
    × asks "plan 2 3" unclear × asks "plan 1 03" unclear × asks "plan 1 4294967296" unclear × asks "plan 4294967295 1" unclear
unfolding meaning_of first_of later_of name_of word_of numbers_of doubles_of pattern_of count_of onward digit_of
plans = (refl, refl, refl, refl, refl, refl, refl, refl, refl)

files : asks "read 5" (of_file 5 []) × asks "read 5 " unclear × asks "read 5 00fF" (of_file 5 (0 ∷ 255 ∷ [])) × asks "read 5 00f" unclear
    × asks "read 5 00 ff" unclear × asks "read 5 0g" unclear
unfolding meaning_of first_of later_of name_of word_of doubles_of count_of onward digit_of bytes_of
files = (refl, refl, refl, refl, refl, refl)
