-- How a public call answers: with its values, or with a refusal's number and place (docs/RULES.md, sections Refusals and Order).
-- Said once for the whole project.
use Rattle.std.specs.Prelude.{ℕ, ◌≡◌, Result, Ok, Err}
use Rattle.refusal.specs.declared.Kind.{Kind}
use Rattle.refusal.specs.declared.Kind.TheVariants.{TooMany, NotFinite, NotAccepted, TooFewCorners, OddLength, EndsEarly, NotShortest, BytesAfter, NoRoom}
use Rattle.refusal.specs.declared.Refusal.{Refusal}

-- Order 1: the values of an answer, or a refusal's number and place
pub data Outcome (A : Type 0) : Type 0 where
  answers : A → Outcome A
  refuses : ℕ → ℕ → Outcome A

-- ---- the table's numbers

-- Refusals 1: a sum's list over 1,024, a zone over 64 corners, a plan over 16 zones, a track over 512 points
abbrev pub too_many : ℕ
too_many = 1

-- Refusals 2: an infinity or a not-a-number, in a sum's list or to be taken apart
abbrev pub not_finite : ℕ
not_finite = 2

-- Refusals 3: a coordinate that is not accepted
abbrev pub not_accepted : ℕ
not_accepted = 3

-- Refusals 4: a zone of fewer than 3 corners
abbrev pub too_few_corners : ℕ
too_few_corners = 4

-- Refusals 5: a list of corners or points of odd length; corners' bytes of the viewer that are no multiple of 16; a plan's list that is not as long as
-- counted
abbrev pub odd_length : ℕ
odd_length = 5

-- Refusals 6: a file that ends before a number or inside one
abbrev pub ends_early : ℕ
ends_early = 6

-- Refusals 7: a number that is not in shortest form, or not below 2^64
abbrev pub not_shortest : ℕ
not_shortest = 7

-- Refusals 8: bytes behind the last number
abbrev pub bytes_after : ℕ
bytes_after = 8

-- Refusals 9: lent space that is too short
abbrev pub no_room : ℕ
no_room = 9

-- ---- what the code answers, in the table's numbers

-- Refusals: the number of each kind
abbrev pub kind_number : Kind → ℕ
kind_number TooMany = too_many
kind_number NotFinite = not_finite
kind_number NotAccepted = not_accepted
kind_number TooFewCorners = too_few_corners
kind_number OddLength = odd_length
kind_number EndsEarly = ends_early
kind_number NotShortest = not_shortest
kind_number BytesAfter = bytes_after
kind_number NoRoom = no_room

-- the promise of a kind's `number`
abbrev pub NumberSays : Kind → ℕ → Type 0
NumberSays k r = r ≡ kind_number k

-- the promise of `refused`: this kind and this place
abbrev pub RefusedSays : {A : Type 0} → Kind → ℕ → Result A Refusal → Type 0
RefusedSays kind place r = r ≡ Err (record { kind = kind; place = place })

-- Answer 4: the rules' values, or number and place, for what the code answers; `value` gives the rules' value for the code's
abbrev pub outcome : {A B : Type 0} → (A → B) → Result A Refusal → Outcome B
outcome value (Ok a) = answers (value a)
outcome value (Err r) = refuses (kind_number r.kind) r.place

-- ---- what a promise commits to

-- Answer 1 and 2: a promise leaves nothing open: no two results satisfy it
abbrev pub Fixes : {R : Type 0} → (R → Type 0) → Type 0
Fixes {R} promise = (a b : R) → promise a → promise b → a ≡ b
