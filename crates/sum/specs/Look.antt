-- The look at a list, and what it decides: Sum 2 to 8 of docs/RULES.md. One definition serves both signs: the side s is false for positive
-- entries and true for negative ones, as a sign bit is.
use Rattle.std.specs.Prelude.{ℕ, suc, ◌+◌, Bool, true, false, cond, ◌&&◌, List, [], ◌∷◌, eqb, pos, Float, None, Option, Some}
use Rattle.std.specs.Float.{binary64}
use Rattle.std.specs.Float.Ieee.{lt, le, neg, mul, of_int}
use Rattle.double.specs.Worth.{plus0}
use Rattle.sum.specs.declared.answer.Sign.TheVariants.{Minus, Zero, Plus}
use Rattle.sum.specs.declared.look.Look.{Look}
use Rattle.sum.specs.declared.look.Look.TheVariants.{Neither, Positive, Negative, Both}
use Rattle.sum.specs.declared.answer.Sign.{Sign}

-- Sum 2: x is positive, or negative; a zero is neither
abbrev pub on_side : Bool → Float → Bool
on_side false x = lt plus0 x
on_side true x = lt x plus0

-- x is no less far from 0 on the side than y is
abbrev pub as_far : Bool → Float → Float → Bool
as_far false x y = le y x
as_far true x y = le x y

-- ---- the extremes

-- Sum 5: m and n: how many entries are positive, and how many negative
unfoldable pub count_of : Bool → List Float → ℕ
count_of s [] = 0
count_of s (x ∷ xs) = cond (on_side s x) 1 0 + count_of s xs

-- Sum 5: the greatest positive entry, or the most negative one: x, if it is on the side and none behind it is farther. +0 where none is.
unfoldable pub extreme_of : Bool → List Float → Float
extreme_of s [] = plus0
extreme_of s (x ∷ xs) = cond (on_side s x && as_far s x (extreme_of s xs)) x (extreme_of s xs)

-- Sum 8: its index, of equal entries the lowest; the list's length where there is none
unfoldable pub index_of : Bool → List Float → ℕ
unfolding extreme_of
index_of s [] = 0
index_of s (x ∷ xs) = cond (on_side s x && as_far s x (extreme_of s xs)) 0 (suc (index_of s xs))

-- Sum 3: neither; only positive entries, and the greatest; only negative ones, and the most negative; or both extremes
abbrev pub look_by : ℕ → ℕ → Float → Float → Look
look_by m n a b = cond (eqb m 0) (cond (eqb n 0) Neither (Negative b)) (cond (eqb n 0) (Positive a) (Both a b))

unfoldable pub look_of : List Float → Look
unfolding count_of extreme_of
look_of xs = look_by (count_of false xs) (count_of true xs) (extreme_of false xs) (extreme_of true xs)

-- ---- the decision

-- Sum 6: k times x, rounded once; it can become infinite, and decides nothing then
abbrev pub times : ℕ → Float → Float
times k x = mul binary64 (of_int binary64 (pos k)) x

-- Sum 7: +1 if a is greater than the rounded n times b, -1 if b is greater than the rounded m times a, otherwise undecided
abbrev pub compared : ℕ → ℕ → Float → Float → Option Sign
compared m n a b = cond (lt (times n b) a) (Some Plus) (cond (lt (times m a) b) (Some Minus) None)

-- Sum 4: 0 where there is neither, +1 for only positive entries, -1 for only negative ones; otherwise by the two extremes
unfoldable pub verdict_by : ℕ → ℕ → Look → Option Sign
verdict_by m n Neither = Some Zero
verdict_by m n (Positive a) = Some Plus
verdict_by m n (Negative b) = Some Minus
verdict_by m n (Both a b) = compared m n a (neg b)

unfoldable pub verdict_of : List Float → Option Sign
unfolding count_of look_of verdict_by
verdict_of xs = verdict_by (count_of false xs) (count_of true xs) (look_of xs)
