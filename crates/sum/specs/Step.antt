-- One step of an undecided list: Sum 8 to 12 of docs/RULES.md.
use Rattle.std.specs.Prelude.{true, false, cond, List, ◌+ℤ◌, ◌-ℤ◌, set, Float}
use Rattle.std.specs.Float.{binary64}
use Rattle.std.specs.Float.Ieee.{lt, neg, add}
use Rattle.double.specs.Worth.{worth, plus0, double_of}
use Rattle.sum.specs.Look.{extreme_of, index_of}

-- Sum 9: x: the sum of the two entries, rounded once
abbrev pub rounded : Float → Float → Float
rounded p q = add binary64 p q

-- Sum 9 and 11: y: the double of what x lacks of p and q; +0 where that is nothing
abbrev pub roundoff : Float → Float → Float
roundoff p q = double_of (worth p +ℤ worth q -ℤ worth (rounded p q))

-- Sum 12: the slots of the two extremes get u and v, and all others keep what they hold
abbrev pub put : List Float → Float → Float → List Float
put xs u v = set (set xs (index_of false xs) u) (index_of true xs) v

-- Sum 10 and 11: x goes to the slot of the larger magnitude, y to the other; both slots get +0 where the magnitudes are equal
abbrev pub step_by : List Float → Float → Float → List Float
step_by xs p q =
    cond (lt (neg q) p) (put xs (rounded p q) (roundoff p q))
    (cond (lt p (neg q)) (put xs (roundoff p q) (rounded p q))
    (put xs plus0 plus0))

-- Sum 8: the two entries are the greatest positive one and the most negative one
unfoldable pub step_of : List Float → List Float
unfolding extreme_of index_of double_of worth
step_of xs = step_by xs (extreme_of false xs) (extreme_of true xs)
