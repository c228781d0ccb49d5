-- What the inner functions find is what `pieces` has over whole numbers. In order: accepted pieces, and what their boxes have in common; two signs; a
-- point; the sides of two ends; all pieces, by the tests. Assumes nothing.
use mathlib.Core.Path.{◌≡◌, refl, sym, ap, ap₂, ◌∙◌}
use mathlib.Core.Bool.{Bool, true, false, cond}
use Prim.Native.Nat.{zero, suc}
use Rattle.std.specs.Prelude.{Option, None, Some}
use lib.IntN.{ℤ, pos, negsuc}
use lib.Ieee.{lt}
use Rattle.whole.specs.Sign.{sgn}
use Rattle.ground.specs.Compare.{is_zero}
use Rattle.ground.specs.Edge.{side_of_edge}
use Rattle.ground.proofs.Laws.Compare.{sgn_is_zero}
use Rattle.point.specs.declared.Point.{Point}
use Rattle.point.specs.Spot.{spot_of}
use Rattle.point.proofs.Laws.Worths.{RealPoint, accepted_point, lt_worth}
use Rattle.sum.specs.Total.{sign_number}
use Rattle.sum.specs.declared.answer.Sign.{Sign}
use Rattle.sum.specs.declared.answer.Sign.TheVariants.{Minus, Zero, Plus}
use Rattle.pieces.specs.Meeting as words
use Rattle.pieces.specs.Parts as found
use Rattle.pieces.proofs.Laws.Through.{near_is}
use Rattle.meeting.specs.Meet.{edge_of, meeting_said}
use Rattle.meeting.specs.Parts.{AcceptedPiece, ranges_of, shared_of, InCommon, range_of, on_line_by, by_end_by, is_dot_by, SideIs, Opposed, sides_by, sides_said}
use Rattle.meeting.specs.declared.answer.Piece.{Piece}
use Rattle.meeting.specs.declared.ranges.Shared.{Shared}
use Rattle.meeting.specs.declared.sided.Sides.{Sides}
use Rattle.meeting.proofs.Laws.Worths.{RealRange, chosen, common_real, common_worth, on_line_worth, by_end_worth, dot_worth}

-- ---- accepted pieces
pub from_real : (a : Piece) → AcceptedPiece a → RealPoint a.from
from_real a A = accepted_point a.from A.from_held A.from

pub to_real : (a : Piece) → AcceptedPiece a → RealPoint a.to
to_real a A = accepted_point a.to A.to_held A.to

dot_found : (a : Piece) → AcceptedPiece a → is_dot_by a ≡ found.is_dot (edge_of a)
dot_found a A = dot_worth a (from_real a A) (to_real a A)

module _ (a b : Piece) (A : AcceptedPiece a) (B : AcceptedPiece b) where
  -- the ranges along both axes, which may be empty
  abbrev ranges : Shared
  ranges = ranges_of a b

  x_real : RealRange ranges.x
  x_real =
      common_real a.from.x a.to.x b.from.x b.to.x (from_real a A).x (to_real a A).x (from_real b B).x (to_real b B).x

  y_real : RealRange ranges.y
  y_real =
      common_real a.from.y a.to.y b.from.y b.to.y (from_real a A).y (to_real a A).y (from_real b B).y (to_real b B).y

  x_worth : range_of ranges.x ≡ found.common_x (edge_of a) (edge_of b)
  x_worth =
      common_worth a.from.x a.to.x b.from.x b.to.x (from_real a A).x (to_real a A).x (from_real b B).x (to_real b B).x

  y_worth : range_of ranges.y ≡ found.common_y (edge_of a) (edge_of b)
  y_worth =
      common_worth a.from.y a.to.y b.from.y b.to.y (from_real a A).y (to_real a A).y (from_real b B).y (to_real b B).y

  -- nothing in common along an axis
  x_empty : lt ranges.x.most ranges.x.least ≡ found.is_empty (found.common_x (edge_of a) (edge_of b))
  x_empty = lt_worth ranges.x.most ranges.x.least x_real.most x_real.least ∙ ap found.is_empty x_worth

  y_empty : lt ranges.y.most ranges.y.least ≡ found.is_empty (found.common_y (edge_of a) (edge_of b))
  y_empty = lt_worth ranges.y.most ranges.y.least y_real.most y_real.least ∙ ap found.is_empty y_worth

  module _ {s : Shared} (i : InCommon a b s) where
    pub on_line_found : meeting_said (on_line_by s) ≡ found.on_line (found.common_x (edge_of a) (edge_of b)) (found.common_y (edge_of a) (edge_of b))
    on_line_found =
        ap (λ (r : Shared). meeting_said (on_line_by r)) i
        ∙ on_line_worth ranges x_real y_real ∙ ap₂ found.on_line x_worth y_worth

    pub by_end_found : (p : Point) → RealPoint p
        → meeting_said (by_end_by s p) ≡ found.by_end (found.common_x (edge_of a) (edge_of b)) (found.common_y (edge_of a) (edge_of b)) (spot_of p)
    by_end_found p P =
        ap (λ (r : Shared). meeting_said (by_end_by r p)) i
        ∙ by_end_worth ranges x_real y_real p P
        ∙ ap₂ (λ (r s : found.Range). found.by_end r s (spot_of p)) x_worth y_worth

-- ---- two signs
signs_said : (u v : Sign) → sides_said (sides_by u v) ≡ found.sides_of (sign_number u) (sign_number v)
signs_said Zero Zero = refl
signs_said Zero Plus = refl
signs_said Zero Minus = refl
signs_said Plus Zero = refl
signs_said Plus Plus = refl
signs_said Plus Minus = refl
signs_said Minus Zero = refl
signs_said Minus Plus = refl
signs_said Minus Minus = refl

sides_of_signs : (u v : ℤ) → found.sides_of (sgn u) (sgn v) ≡ found.sides_of u v
unfolding sgn
sides_of_signs (pos zero) (pos zero) = refl
sides_of_signs (pos zero) (pos (suc n)) = refl
sides_of_signs (pos zero) (negsuc n) = refl
sides_of_signs (pos (suc m)) (pos zero) = refl
sides_of_signs (pos (suc m)) (pos (suc n)) = refl
sides_of_signs (pos (suc m)) (negsuc n) = refl
sides_of_signs (negsuc m) (pos zero) = refl
sides_of_signs (negsuc m) (pos (suc n)) = refl
sides_of_signs (negsuc m) (negsuc n) = refl

sides_found : (t : Sides) (u v : Sign) (y z : ℤ) → t ≡ sides_by u v → sign_number u ≡ sgn y → sign_number v ≡ sgn z
    → sides_said t ≡ found.sides_of y z
sides_found t u v y z e f g = ap sides_said e ∙ signs_said u v ∙ ap₂ found.sides_of f g ∙ sides_of_signs y z

-- ---- a point, by its sign
pub of_dot_found : (a : Piece) (p : Point) (s : Sign) → sign_number s ≡ sgn (side_of_edge (edge_of a) (spot_of p))
    → cond (is_zero (sign_number s)) words.touching words.apart ≡ found.of_dot (edge_of a) (spot_of p)
of_dot_found a p s e =
    ap (λ (t : Bool). cond t words.touching words.apart) (ap is_zero e ∙ sgn_is_zero (side_of_edge (edge_of a) (spot_of p)))

-- ---- by the sides of two ends
module _ (a b : Piece) (t : Sides) (u v : Sign) (e : t ≡ sides_by u v) where
  -- by both ends of a against b
  pub far_found : SideIs b a.from u → SideIs b a.to v → found.by_far (sides_said t) ≡ found.through (edge_of a) (edge_of b)
  far_found f g = ap found.by_far (sides_found t u v _ _ e f g)

  -- by where b begins and where a does
  pub near_found : SideIs a b.from u → SideIs b a.from v → Opposed a b
      → found.by_near (sides_said t) (found.through (edge_of a) (edge_of b)) ≡ found.through (edge_of a) (edge_of b)
  near_found f g o =
      ap (λ (s : found.Sides). found.by_near s (found.through (edge_of a) (edge_of b))) (sides_found t u v _ _ e f g) ∙ near_is (edge_of a) (edge_of b) o

  -- by both ends of b against a
  pub long_found : SideIs a b.from u → SideIs a b.to v
      → found.by_sides (sides_said t) (edge_of a) (edge_of b) ≡ found.of_long (edge_of a) (edge_of b)
  long_found f g = ap (λ (s : found.Sides). found.by_sides s (edge_of a) (edge_of b)) (sides_found t u v _ _ e f g)

  pub opposed_found : SideIs a b.from u → SideIs a b.to v → sides_said t ≡ found.opposite → Opposed a b
  opposed_found f g o = sym (sides_found t u v _ _ e f g) ∙ o

-- ---- all pieces, by the tests
module _ (a b : Piece) (A : AcceptedPiece a) (B : AcceptedPiece b) where
  abbrev boxed : words.Meeting
  boxed = found.in_boxes (edge_of a) (edge_of b)

  abbrev long : words.Meeting
  long = found.of_long (edge_of a) (edge_of b)

  module _ {s t : Bool} (e : s ≡ is_dot_by a) (f : t ≡ is_dot_by b) where
    pub dots_found : cond s (cond t words.touching (found.of_dot (edge_of b) (spot_of a.from))) (cond t (found.of_dot (edge_of a) (spot_of b.from)) long)
        ≡ boxed
    dots_found =
        ap₂ (λ (i j : Bool).
        cond i (cond j words.touching (found.of_dot (edge_of b) (spot_of a.from))) (cond j (found.of_dot (edge_of a) (spot_of b.from)) long))
        (e ∙ dot_found a A) (f ∙ dot_found b B)

  -- the word, by what the boxes have in common
  abbrev worded : Option Shared → words.Meeting
  worded None = words.apart
  worded (Some s) = boxed

  pub shared_found : (r : Option Shared) → r ≡ shared_of a b → worded r ≡ found.decided (edge_of a) (edge_of b)
  unfolding found.decided
  shared_found r e = ap worded e ∙ chosen worded (x_empty a b A B) refl (chosen worded (y_empty a b A B) refl refl)

-- what is in common is so along both axes
pub found_shared : (a b : Piece) (s : Shared) → Some s ≡ shared_of a b → InCommon a b s
found_shared a b s e = go (lt (ranges_of a b).x.most (ranges_of a b).x.least) (lt (ranges_of a b).y.most (ranges_of a b).y.least) e
  where
    go : (t u : Bool) → Some s ≡ cond t None (cond u None (Some (ranges_of a b))) → s ≡ ranges_of a b
    go true u f = cc
    go false true f = cc
    go false false f = cc
