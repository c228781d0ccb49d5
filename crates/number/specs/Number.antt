-- Numbers of a track file: Track 1 and 2 of docs/RULES.md: how one is written, and what any bytes hold as one (Order 9).
use Rattle.std.specs.Prelude.{ℕ, zero, suc, ◌+◌, ◌-◌, ◌*◌, ◌/◌, ◌%◌, ◌<◌, ◌≡◌, Bool, true, false, cond, ◌&&◌, eqb, ltb}
use Rattle.std.specs.Prelude.{List, [], ◌∷◌, length, drop, get_or, Result}
use Rattle.refusal.specs.declared.Refusal.{Refusal}
use Rattle.refusal.specs.Outcome.{Outcome, answers, refuses, ends_early, not_shortest, outcome}
use Rattle.number.specs.declared.answer.Number.{Number}

-- Track 1 and 2: the bytes of v: seven binary digits to each, the lowest first, the top bit set in all but the last, and no more of them
-- than v needs; at most `more` and one
unfoldable pub groups_of : ℕ → ℕ → List ℕ
groups_of zero v = v ∷ []
groups_of (suc more) v = cond (ltb v 128) (v ∷ []) ((v % 128 + 128) ∷ groups_of more (v / 128))

-- Track 1: below 2^64: nine groups of seven digits, and the one digit that is left
abbrev pub full : ℕ
full = 9

unfoldable pub written_of : ℕ → List ℕ
written_of v = groups_of full v

-- a file is a list of bytes
abbrev pub Bytes : List ℕ → Type 0
Bytes file = (i : ℕ) → get_or file i 0 < 256

-- Order 9: what bytes begin with: a number and how many bytes it has; one that the file's end cuts off; or none, since its form is not the
-- shortest or it is not below 2^64
pub data Begins : Type 0 where
  number : ℕ → ℕ → Begins
  early : Begins
  faulty : Begins

-- a group of seven bits, and above it the groups that follow
unfoldable pub above : ℕ → Begins → Begins
above group (number v n) = number (group + 128 * v) (n + 1)
above group early = early
above group faulty = faulty

-- Order 9: by the first byte, with `more` full groups to go before the last digit, and whether a byte of the number stands before: a byte
-- below 128 is its last, and 0 only if it is the first too; a tenth byte other than 1 is faulty, with or without its top bit
unfoldable pub begins_with : ℕ → Bool → List ℕ → Begins
begins_with more later [] = early
begins_with zero later (b ∷ bs) = cond (eqb b 1) (number 1 1) faulty
begins_with (suc more) later (b ∷ bs) =
    cond (ltb b 128)
    (cond (later && eqb b 0) faulty (number b 1))
    (above (b - 128) (begins_with more true bs))

-- a number that begins at an offset, with the offset after it; Refusals 6 or 7 at that offset
unfoldable pub placed : ℕ → Begins → Outcome Number
placed start (number v n) = answers (record { value = v; next = start + n })
placed start early = refuses ends_early start
placed start faulty = refuses not_shortest start

unfoldable pub number_of : List ℕ → ℕ → Outcome Number
unfolding placed begins_with
number_of bytes start = placed start (begins_with full false (drop start bytes))

-- Answer 4: the rules' values, or number and place, for each case of the code's answer
abbrev pub heard : Result Number Refusal → Outcome Number
heard r = outcome (λ n. n) r

-- Order 9, the promise: the number at an offset, or the refusal
abbrev pub NumberSays : List ℕ → ℕ → Result Number Refusal → Type 0
NumberSays bytes start r = heard r ≡ number_of bytes start

-- Track 2, the promise: as many bytes as the shortest form has
abbrev pub LengthSays : ℕ → ℕ → Type 0
LengthSays value r = r ≡ length (written_of value)
