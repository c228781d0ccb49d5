-- The words at work on small numbers: checked examples, cited by no law. In order: a place half-way; the four words, each from the law that it holds
-- where it is found; pieces of equal ends.
-- Assumes nothing.
use mathlib.Core.Path.{refl}
use lib.IntN.{ℤ, pos, negsuc}
use Rattle.ground.specs.Compare.{at_most, below, equal}
use Rattle.ground.specs.Edge.{Edge, edge}
use Rattle.pieces.specs.Place.{Fraction, Place, Same}
use Rattle.pieces.specs.Meeting.{LiesOn, apart, touching, crossing, overlapping, Holds}
use Rattle.pieces.specs.Parts.{lesser, greater, decided}
use Rattle.pieces.proofs.Laws.Decided.{decided_iff}

abbrev piece : ℤ → ℤ → ℤ → ℤ → Edge
piece a b c d = edge (record { x = a; y = b }) (record { x = c; y = d })

-- ---- (1/2, 3/2) lies half-way from (0, 1) to (1, 2), and 2/4 is 1/2
abbrev half : Fraction
half = record { top = pos 1; bottom = pos 2; positive = record { lt = tt } }

abbrev middle : Place
middle = record { x = half; y = record { top = pos 3; bottom = pos 2; positive = record { lt = tt } } }

half_way : LiesOn (piece (pos 0) (pos 1) (pos 1) (pos 2)) middle
half_way = record { t = half; least = record { le = tt }; most = record { le = tt }; x = refl; y = refl }

written_twice : Same middle (record { x = record { top = pos 2; bottom = pos 4; positive = record { lt = tt } }; y = middle.y })
written_twice = record { x = refl; y = refl }

-- ---- the four words
abbrev level : Edge
level = piece (pos 0) (pos 0) (pos 4) (pos 0)

abbrev slope : Edge
slope = piece (pos 0) (pos 0) (pos 9) (pos 9)

a_cross : Holds crossing (piece (pos 0) (pos 0) (pos 2) (pos 3)) (piece (pos 0) (pos 3) (pos 2) (pos 0))
unfolding decided lesser greater at_most below equal
a_cross = (decided_iff _ _ crossing).0 refl

a_tee : Holds touching level (piece (pos 2) (pos 0) (pos 2) (pos 5))
unfolding decided lesser greater at_most below equal
a_tee = (decided_iff _ _ touching).0 refl

ends_touch : Holds touching level (piece (pos 4) (pos 0) (pos 6) (negsuc 2))
unfolding decided lesser greater at_most below equal
ends_touch = (decided_iff _ _ touching).0 refl

-- in each other's box and on one side
beside : Holds apart slope (piece (pos 5) (pos 4) (pos 9) (pos 2))
unfolding decided lesser greater at_most below equal
beside = (decided_iff _ _ apart).0 refl

-- on one line: apart, one end in common, more in common, one inside the other, equal, equal and turned round
line_apart : Holds apart level (piece (pos 5) (pos 0) (pos 7) (pos 0))
unfolding decided lesser greater at_most below equal
line_apart = (decided_iff _ _ apart).0 refl

line_touching : Holds touching level (piece (pos 4) (pos 0) (pos 7) (pos 0))
unfolding decided lesser greater at_most below equal
line_touching = (decided_iff _ _ touching).0 refl

line_overlapping : Holds overlapping level (piece (pos 3) (pos 0) (pos 7) (pos 0))
unfolding decided lesser greater at_most below equal
line_overlapping = (decided_iff _ _ overlapping).0 refl

line_inside : Holds overlapping slope (piece (pos 5) (pos 5) (pos 3) (pos 3))
unfolding decided lesser greater at_most below equal
line_inside = (decided_iff _ _ overlapping).0 refl

line_equal : Holds overlapping slope slope
unfolding decided lesser greater at_most below equal
line_equal = (decided_iff _ _ overlapping).0 refl

line_turned : Holds overlapping slope (piece (pos 9) (pos 9) (pos 0) (pos 0))
unfolding decided lesser greater at_most below equal
line_turned = (decided_iff _ _ overlapping).0 refl

-- ---- pieces of equal ends
abbrev dot : ℤ → ℤ → Edge
dot x y = piece x y x y

dot_on : Holds touching (dot (pos 1) (pos 1)) slope
unfolding decided lesser greater at_most below equal
dot_on = (decided_iff _ _ touching).0 refl

dot_at_end : Holds touching slope (dot (pos 9) (pos 9))
unfolding decided lesser greater at_most below equal
dot_at_end = (decided_iff _ _ touching).0 refl

dot_off : Holds apart slope (dot (pos 1) (pos 2))
unfolding decided lesser greater at_most below equal
dot_off = (decided_iff _ _ apart).0 refl

dots_equal : Holds touching (dot (pos 1) (negsuc 1)) (dot (pos 1) (negsuc 1))
unfolding decided lesser greater at_most below equal
dots_equal = (decided_iff _ _ touching).0 refl

dots_apart : Holds apart (dot (pos 1) (pos 1)) (dot (pos 1) (pos 2))
unfolding decided lesser greater at_most below equal
dots_apart = (decided_iff _ _ apart).0 refl
