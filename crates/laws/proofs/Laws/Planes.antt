-- What `plane` answers, for the cutting desk: laws of whatever keeps its promise. p, q, r are the points of the stump plane and s is the
-- ball; the points that are handed in are made of doubles (`HighOfDoubles`) and count by what they are worth, so that -0 is +0. In order: a
-- sign by its number; points of the same worth; two points exchanged; two equal; all four of one height; a ball and a plane of one height.
-- Not here: which points are refused, and the steps (geometry's `PlaneCalls`). Assumes nothing.
use mathlib.Core.Path.{◌≡◌, refl, sym, ap, ap₂, ◌∙◌, subst}
use mathlib.Core.Logic.Iff
use mathlib.Core.Logic.{◌↔◌}
use lib.IntN.{ℤ, pos, neg_ℤ, ◌-ℤ◌}
use Rattle.whole.specs.Order.{◌<ᶻ◌}
use Rattle.whole.specs.Sign.{sgn}
use Rattle.whole.proofs.Laws.Ring.{opp, solve}
use Rattle.whole.proofs.Laws.Sign.{sgn_zero, sgn_neg, sgn_sub_positive, sgn_sub_zero, sgn_sub_negative}
use Rattle.ground.specs.Plane as plane
use Rattle.ground.specs.Space.{HighSpot, shadow, determinant, Exchanged, TwoEqual}
use Rattle.ground.proofs.Laws.Space.{exchanged_all, exchanged_map, exchanged_turns, two_equal_flat, one_height_sign, level_flat}
use Rattle.point.specs.declared.HighPoint.{HighPoint}
use Rattle.point.specs.High.{HighAccepted, HighOfDoubles, high_spot_of, high_determinant}
use Rattle.sum.specs.Total.{sign_number}
use Rattle.sum.specs.declared.answer.Sign.{Sign}
use Rattle.sum.specs.declared.answer.Sign.TheVariants.{Minus, Zero, Plus}
use Rattle.sum.proofs.Laws.Look.{sign_once}
use Rattle.geometry.specs.Plane.{PlaneSays}
use Rattle.geometry.specs.declared.answer.Signed.{Signed}
use Rattle.geometry.proofs.Laws.PlaneCalls.{plane_sign, plane_accepted, plane_answers}
use Rattle.refusal.specs.declared.Refusal.{Refusal}
use Rattle.std.specs.Prelude.{Ok, Result}

-- ---- a sign by its number
twice_turned : (z : ℤ) → neg_ℤ (neg_ℤ z) ≡ z
twice_turned = solve 1 (λ z. (opp (opp z), z)) refl

-- by a number that is turned
sign_turned : (a b : Sign) (z : ℤ) → sign_number a ≡ neg_ℤ z → (a ≡ b) ↔ (z ≡ neg_ℤ (sign_number b))
sign_turned a b z h = (
  λ e. sym (twice_turned z) ∙ ap neg_ℤ (sym h) ∙ ap (λ (c : Sign). neg_ℤ (sign_number c)) e,
  λ e. sign_once a b (h ∙ ap neg_ℤ e ∙ twice_turned (sign_number b)),
)

-- ---- points of the same worth: the same sign, so that a -0 for a +0 changes none
pub plane_by_value : (p q r s a b c d : HighPoint) (t u : Signed)
    → HighOfDoubles p → HighOfDoubles q → HighOfDoubles r → HighOfDoubles s
    → HighOfDoubles a → HighOfDoubles b → HighOfDoubles c → HighOfDoubles d
    → high_spot_of p ≡ high_spot_of a → high_spot_of q ≡ high_spot_of b → high_spot_of r ≡ high_spot_of c → high_spot_of s ≡ high_spot_of d
    → PlaneSays p q r s (Ok t) → PlaneSays a b c d (Ok u) → t.sign ≡ u.sign
plane_by_value p q r s a b c d t u P Q R S A B C D e f g i h k =
    sign_once t.sign u.sign
    (plane_sign p q r s t P Q R S h
    ∙ ap sgn (ap₂ (λ (x y : HighSpot). determinant x y (high_spot_of r) (high_spot_of s)) e f)
    ∙ ap sgn (ap₂ (λ (x y : HighSpot). determinant (high_spot_of a) (high_spot_of b) x y) g i)
    ∙ sym (plane_sign a b c d u A B C D k))

module _ (p q r s : HighPoint) (t : Signed) (P : HighOfDoubles p) (Q : HighOfDoubles q) (R : HighOfDoubles r) (S : HighOfDoubles s)
    (h : PlaneSays p q r s (Ok t)) where
  -- ---- two of the four points exchanged, the ball with a point of the plane too: these are answered as well, and the sign turns
  pub plane_exchanged : (a b c d : HighPoint) (z : Result Signed Refusal) → Exchanged p q r s a b c d → PlaneSays a b c d z
      → (u : Signed) × (z ≡ Ok u) × (sign_number u.sign ≡ neg_ℤ (sign_number t.sign))
  plane_exchanged a b c d z e k =
      let (in_a, in_b, in_c, in_d) = exchanged_all HighAccepted e (plane_accepted p q r s t h) in
      let (A, B, C, D) = exchanged_all HighOfDoubles e (P, Q, R, S) in
      let (u, f) = plane_answers a b c d z in_a in_b in_c in_d k in (
        u,
        f,
        plane_sign a b c d u A B C D (subst (PlaneSays a b c d) f k)
            ∙ ap sgn (exchanged_turns (exchanged_map high_spot_of e)) ∙ sgn_neg (high_determinant p q r s)
            ∙ ap neg_ℤ (sym (plane_sign p q r s t P Q R S h)),
      )

  -- sign 0 where the determinant is
  flat_zero : high_determinant p q r s ≡ pos 0 → t.sign ≡ Zero
  flat_zero e = sign_once t.sign Zero (plane_sign p q r s t P Q R S h ∙ (sgn_zero (high_determinant p q r s)).1 e)

  -- ---- two of the four points of the same worth: sign 0
  pub plane_two_equal : TwoEqual (high_spot_of p) (high_spot_of q) (high_spot_of r) (high_spot_of s) → t.sign ≡ Zero
  plane_two_equal e = flat_zero (two_equal_flat (high_spot_of p) (high_spot_of q) (high_spot_of r) (high_spot_of s) e)

  -- ---- a plane of one height
  module _ (i : (high_spot_of q).height ≡ (high_spot_of p).height) (j : (high_spot_of r).height ≡ (high_spot_of p).height) where
    -- the ball at that height too, wherever the four stand: sign 0
    pub plane_level : (high_spot_of s).height ≡ (high_spot_of p).height → t.sign ≡ Zero
    plane_level k = flat_zero (level_flat (high_spot_of p) (high_spot_of q) (high_spot_of r) (high_spot_of s) i j k)

    -- p, q, r counter-clockwise on the ground plan: -1 exactly where the ball is above them, +1 where it is below, 0 at their height
    module _ (left : pos 0 <ᶻ plane.determinant (shadow (high_spot_of p)) (shadow (high_spot_of q)) (shadow (high_spot_of r))) where
      turned : (a : Sign) → (t.sign ≡ a) ↔ (sgn ((high_spot_of s).height -ℤ (high_spot_of p).height) ≡ neg_ℤ (sign_number a))
      turned a =
          sign_turned t.sign a (sgn ((high_spot_of s).height -ℤ (high_spot_of p).height))
          (plane_sign p q r s t P Q R S h ∙ one_height_sign (high_spot_of p) (high_spot_of q) (high_spot_of r) (high_spot_of s) i j left)

      pub plane_above : (t.sign ≡ Minus) ↔ ((high_spot_of p).height <ᶻ (high_spot_of s).height)
      plane_above = Iff.trans (turned Minus) (sgn_sub_positive (high_spot_of s).height (high_spot_of p).height)

      pub plane_below : (t.sign ≡ Plus) ↔ ((high_spot_of s).height <ᶻ (high_spot_of p).height)
      plane_below = Iff.trans (turned Plus) (sgn_sub_negative (high_spot_of s).height (high_spot_of p).height)

      pub plane_within : (t.sign ≡ Zero) ↔ ((high_spot_of s).height ≡ (high_spot_of p).height)
      plane_within = Iff.trans (turned Zero) (sgn_sub_zero (high_spot_of s).height (high_spot_of p).height)
