-- Ranges of finite doubles, by what they are worth. In order: the lesser and the greater of two; what two ranges have in common; the words and the test
-- that go by comparisons alone. Assumes nothing.
use mathlib.Core.Path.{◌≡◌, refl, ap, ap₂, ◌∙◌}
use mathlib.Core.Bool.{Bool, true, false, cond, ◌&&◌, ◌||◌}
use lib.IntN.{ℤ}
use lib.Ieee.{Float, binary64, lt}
use Rattle.double.specs.Worth.{worth}
use Rattle.double.proofs.Laws.Units.{Real}
use Rattle.point.specs.declared.Point.{Point}
use Rattle.point.specs.Spot.{spot_of}
use Rattle.point.proofs.Laws.Worths.{RealPoint, le_worth, lt_worth, eq_worth}
use Rattle.pieces.specs.Meeting.{touching, overlapping}
use Rattle.pieces.specs.Parts.{lesser, greater, common, range, is_in, on_line, by_end, is_dot}
use Rattle.meeting.specs.Meet.{edge_of, meeting_said}
use Rattle.meeting.specs.Parts.{lesser_of, greater_of, common_of, range_of, on_line_by, is_in_by, by_end_by, is_dot_by}
use Rattle.meeting.specs.declared.answer.Piece.{Piece}
use Rattle.meeting.specs.declared.ranges.Range.{Range}
use Rattle.meeting.specs.declared.ranges.Shared.{Shared}

-- ---- a choice, and what is made of it
cond_holds : {A : Type 0} (P : A → Type 0) (t : Bool) (x y : A) → P x → P y → P (cond t x y)
cond_holds P true x y h k = h
cond_holds P false x y h k = k

cond_map : {A B : Type 0} (f : A → B) (t : Bool) (x y : A) → f (cond t x y) ≡ cond t (f x) (f y)
cond_map f true x y = refl
cond_map f false x y = refl

-- by a test with the same outcome, of words that say the same
pub chosen : {A B : Type 0} (f : A → B) {s t : Bool} {x y : A} {v w : B} → s ≡ t → f x ≡ v → f y ≡ w → f (cond s x y) ≡ cond t v w
chosen f {s} {t} {x} {y} {v} {w} e g h =
    cond_map f s x y ∙ ap (λ (b : Bool). cond b (f x) (f y)) e ∙ ap₂ (λ (i j : _). cond t i j) g h

-- ---- the lesser and the greater of two
module _ (a b : Float) (A : Real binary64 a) (B : Real binary64 b) where
  lesser_real : Real binary64 (lesser_of a b)
  lesser_real = cond_holds (Real binary64) (lt b a) b a B A

  greater_real : Real binary64 (greater_of a b)
  greater_real = cond_holds (Real binary64) (lt a b) b a B A

  lesser_worth : worth (lesser_of a b) ≡ lesser (worth a) (worth b)
  unfolding lesser
  lesser_worth = chosen worth (lt_worth b a B A) refl refl

  greater_worth : worth (greater_of a b) ≡ greater (worth a) (worth b)
  unfolding greater
  greater_worth = chosen worth (lt_worth a b A B) refl refl

-- ---- what two ranges have in common
pub record RealRange (r : Range) : Type 0 where
  pub least : Real binary64 r.least
  pub most : Real binary64 r.most

module _ (a b c d : Float) (A : Real binary64 a) (B : Real binary64 b) (C : Real binary64 c) (D : Real binary64 d) where
  pub common_real : RealRange (common_of a b c d)
  common_real = record {
    least = greater_real (lesser_of a b) (lesser_of c d) (lesser_real a b A B) (lesser_real c d C D);
    most = lesser_real (greater_of a b) (greater_of c d) (greater_real a b A B) (greater_real c d C D);
  }

  pub common_worth : range_of (common_of a b c d) ≡ common (worth a) (worth b) (worth c) (worth d)
  common_worth =
      ap₂ (λ (l m : ℤ). range l m)
      (greater_worth (lesser_of a b) (lesser_of c d) (lesser_real a b A B) (lesser_real c d C D)
      ∙ ap₂ greater (lesser_worth a b A B) (lesser_worth c d C D))
      (lesser_worth (greater_of a b) (greater_of c d) (greater_real a b A B) (greater_real c d C D)
      ∙ ap₂ lesser (greater_worth a b A B) (greater_worth c d C D))

-- ---- words and tests by comparisons alone
in_worth : (r : Range) (v : Float) → RealRange r → Real binary64 v → is_in_by r v ≡ is_in (range_of r) (worth v)
in_worth r v R real = ap₂ (λ (s t : Bool). s && t) (le_worth r.least v R.least real) (le_worth v r.most real R.most)

-- one of two tests, by one after the other
either : {A : Type 0} (s t : Bool) (x y : A) → cond (s || t) x y ≡ cond s x (cond t x y)
either true t x y = refl
either false t x y = refl

module _ (s : Shared) (X : RealRange s.x) (Y : RealRange s.y) where
  pub on_line_worth : meeting_said (on_line_by s) ≡ on_line (range_of s.x) (range_of s.y)
  on_line_worth =
      chosen meeting_said
      (ap₂ (λ (t u : Bool). t || u) (lt_worth s.x.least s.x.most X.least X.most) (lt_worth s.y.least s.y.most Y.least Y.most)) refl refl
      ∙ either _ _ overlapping touching

  pub by_end_worth : (p : Point) → RealPoint p → meeting_said (by_end_by s p) ≡ by_end (range_of s.x) (range_of s.y) (spot_of p)
  by_end_worth p P =
      chosen meeting_said (ap₂ (λ (t u : Bool). t && u) (in_worth s.x p.x X P.x) (in_worth s.y p.y Y P.y)) refl refl

pub dot_worth : (a : Piece) → RealPoint a.from → RealPoint a.to → is_dot_by a ≡ is_dot (edge_of a)
dot_worth a P Q =
    ap₂ (λ (s t : Bool). s && t) (eq_worth a.from.x a.to.x P.x Q.x) (eq_worth a.from.y a.to.y P.y Q.y)
