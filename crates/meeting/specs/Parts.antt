-- What inner functions find: believed by no reader, since laws say that a meeting is what its rules say. In order: accepted pieces; ranges of
-- doubles; words by comparisons alone; signs of sides.
use Rattle.std.specs.Prelude.{◌≡◌, Bool, cond, ◌&&◌, ◌||◌, Option, None, Some, Float}
use Rattle.std.specs.Float.Ieee.{lt, le, eq}
use Rattle.whole.specs.Sign.{sgn}
use Rattle.ground.specs.Edge.{side_of_edge}
use Rattle.double.specs.Worth.{worth}
use Rattle.point.specs.declared.Point.{Point}
use Rattle.point.specs.Accepted.{Accepted, OfDoubles}
use Rattle.point.specs.Spot.{spot_of}
use Rattle.sum.specs.Total.{sign_number}
use Rattle.sum.specs.declared.answer.Sign.{Sign}
use Rattle.sum.specs.declared.answer.Sign.TheVariants.{Minus, Zero, Plus}
use Rattle.pieces.specs.Parts as found
use Rattle.meeting.specs.Meet.{edge_of}
use Rattle.meeting.specs.declared.answer.Piece.{Piece}
use Rattle.meeting.specs.declared.answer.Meeting.{Meeting}
use Rattle.meeting.specs.declared.answer.Meeting.TheVariants.{Apart, Touching, Overlapping}
use Rattle.meeting.specs.declared.ranges.Range.{Range}
use Rattle.meeting.specs.declared.ranges.Shared.{Shared}
use Rattle.meeting.specs.declared.sided.Sides.{Sides}
use Rattle.meeting.specs.declared.sided.Sides.TheVariants.{OneSide, Opposite, FirstOn, SecondOn, BothOn}

-- both ends of a piece are accepted, and made of doubles
pub record AcceptedPiece (a : Piece) : Type 0 where
  pub from : Accepted a.from
  pub to : Accepted a.to
  pub from_held : OfDoubles a.from
  pub to_held : OfDoubles a.to

-- ---- ranges of doubles

abbrev pub lesser_of : Float → Float → Float
lesser_of a b = cond (lt b a) b a

abbrev pub greater_of : Float → Float → Float
greater_of a b = cond (lt a b) b a

abbrev pub common_of : Float → Float → Float → Float → Range
common_of a b c d = record { least = greater_of (lesser_of a b) (lesser_of c d); most = lesser_of (greater_of a b) (greater_of c d) }

-- nothing where it is empty: the most is less
abbrev pub unless_empty : Range → Option Range
unless_empty r = cond (lt r.most r.least) None (Some r)

-- what the boxes of two pieces have in common, with the ranges that may be empty; nothing where one is
abbrev pub ranges_of : Piece → Piece → Shared
ranges_of a b = record {
  x = common_of a.from.x a.to.x b.from.x b.to.x;
  y = common_of a.from.y a.to.y b.from.y b.to.y;
}

abbrev pub unless_one_empty : Shared → Option Shared
unless_one_empty s = cond (lt s.x.most s.x.least) None (cond (lt s.y.most s.y.least) None (Some s))

abbrev pub shared_of : Piece → Piece → Option Shared
shared_of a b = unless_one_empty (ranges_of a b)

abbrev pub InCommon : Piece → Piece → Shared → Type 0
InCommon a b s = s ≡ ranges_of a b

-- by what they are worth
abbrev pub range_of : Range → found.Range
range_of r = found.range (worth r.least) (worth r.most)

-- ---- words by comparisons alone

-- more than one number
abbrev pub is_long_by : Range → Bool
is_long_by r = lt r.least r.most

abbrev pub on_line_by : Shared → Meeting
on_line_by s = cond (is_long_by s.x || is_long_by s.y) Overlapping Touching

abbrev pub is_in_by : Range → Float → Bool
is_in_by r v = le r.least v && le v r.most

abbrev pub by_end_by : Shared → Point → Meeting
by_end_by s p = cond (is_in_by s.x p.x && is_in_by s.y p.y) Touching Apart

abbrev pub is_dot_by : Piece → Bool
is_dot_by a = eq a.from.x a.to.x && eq a.from.y a.to.y

-- ---- signs of sides

-- the sign of the point's side against the piece
abbrev pub SideIs : Piece → Point → Sign → Type 0
SideIs a p s = sign_number s ≡ sgn (side_of_edge (edge_of a) (spot_of p))

-- the ends of b are on opposite sides of a
abbrev pub Opposed : Piece → Piece → Type 0
Opposed a b = found.sides_of (side_of_edge (edge_of a) (spot_of b.from)) (side_of_edge (edge_of a) (spot_of b.to)) ≡ found.opposite

abbrev pub sides_by : Sign → Sign → Sides
sides_by Zero Zero = BothOn
sides_by Zero Plus = FirstOn
sides_by Zero Minus = FirstOn
sides_by Plus Zero = SecondOn
sides_by Plus Plus = OneSide
sides_by Plus Minus = Opposite
sides_by Minus Zero = SecondOn
sides_by Minus Plus = Opposite
sides_by Minus Minus = OneSide

abbrev pub sides_said : Sides → found.Sides
sides_said OneSide = found.one_side
sides_said Opposite = found.opposite
sides_said FirstOn = found.first_on
sides_said SecondOn = found.second_on
sides_said BothOn = found.both_on
