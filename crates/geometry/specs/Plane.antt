-- On which side of a plane a ball is: p, q, r are the plane's points and s is the ball, each with a height (docs/RULES.md, section Plane).
-- In order: the 24 products of three coordinates; the four summands of each; the run; the answer, and the refusals of `plane`.
use Rattle.std.specs.Prelude.{ℕ, ◌≡◌, List, [], ◌∷◌, ◌++◌, ℤ, pos, Float, Result}
use Rattle.std.specs.Float.{binary64}
use Rattle.std.specs.Float.Ieee.{mul, neg}
use Rattle.refusal.specs.Outcome.{Outcome, answers, refuses, outcome}
use Rattle.refusal.specs.Search.{passing_from}
use Rattle.point.specs.declared.HighPoint.{HighPoint}
use Rattle.point.specs.Accepted.{accepted_within}
use Rattle.point.specs.High.{high_accepting}
use Rattle.sum.specs.Total.{sign_number}
use Rattle.sum.specs.Run.{Told, run_of, most_budget}
use Rattle.geometry.specs.Product.{roundoff_of, pair_of}
use Rattle.geometry.specs.Side.{sign_decided}
use Rattle.geometry.specs.declared.answer.Signed.{Signed}
use Rattle.refusal.specs.declared.Refusal.{Refusal}

-- Plane 3: a product of three coordinates
pub record Three : Type 0 where
  pub x : Float
  pub y : Float
  pub height : Float

abbrev pub three : Float → Float → Float → Three
three x y height = record { x = x; y = y; height = height }

-- Plane 3: x of the first point, y of the second and height of the third, with the sign of the points' order: a minus goes to x
abbrev pub plus : HighPoint → HighPoint → HighPoint → Three
plus a b c = three a.x b.y c.height

abbrev pub minus : HighPoint → HighPoint → HighPoint → Three
minus a b c = three (neg a.x) b.y c.height

-- Plane 4: all 24, in the order of the points that give x, then y, then height
abbrev pub products_of : HighPoint → HighPoint → HighPoint → HighPoint → List Three
products_of p q r s =
    plus p q r ∷ minus p q s ∷ minus p r q ∷ plus p r s ∷ plus p s q ∷ minus p s r
    ∷ minus q p r ∷ plus q p s ∷ plus q r p ∷ minus q r s ∷ minus q s p ∷ plus q s r
    ∷ plus r p q ∷ minus r p s ∷ minus r q p ∷ plus r q s ∷ plus r s p ∷ minus r s q
    ∷ minus s p q ∷ plus s p r ∷ plus s q p ∷ minus s q r ∷ minus s r p ∷ plus s r q
    ∷ []

-- Plane 5: x meets y first: their rounded product meets the height, and then their roundoff does
abbrev pub opened_of : Three → List Float
opened_of t = pair_of (mul binary64 t.x t.y) t.height ++ pair_of (roundoff_of t.x t.y) t.height

-- Plane 6: the summands of all products, in their order
unfoldable pub opened : List Three → List Float
opened [] = []
opened (t ∷ ts) = opened_of t ++ opened ts

-- Plane 6: the sign, and the steps that it took
pub record Counted : Type 0 where
  pub sign : ℤ
  pub steps : ℕ

abbrev pub counted : ℤ → ℕ → Counted
counted z k = record { sign = z; steps = k }

-- by what a run answers; that it never refuses and always decides is a law (Laws.ToTheEnd)
abbrev pub counted_by : Outcome Told → Counted
counted_by (answers t) = counted (sign_decided t.decided) t.steps
counted_by (refuses number place) = counted (pos 0) 0

-- Plane 6: the sum rule on the 96 summands, by a run that goes to its end: it has the greatest budget
unfoldable pub summed_of : HighPoint → HighPoint → HighPoint → HighPoint → Counted
unfolding opened run_of
summed_of p q r s = counted_by (run_of (opened (products_of p q r s)) most_budget)

-- ---- the answer

-- Answer 4: the rules' values, or number and place, for each case of the code's answer
abbrev pub signed_said : Signed → Counted
signed_said t = counted (sign_number t.sign) t.steps

unfoldable pub plane_said : Result Signed Refusal → Outcome Counted
plane_said r = outcome signed_said r

-- the twelve coordinates in the order of their places
abbrev pub three_of : HighPoint → List Float → List Float
three_of p rest = p.x ∷ p.y ∷ p.height ∷ rest

abbrev pub twelve_of : HighPoint → HighPoint → HighPoint → HighPoint → List Float
twelve_of p q r s = three_of p (three_of q (three_of r (three_of s [])))

-- Order 12: 3 only, at the place of the first coordinate that is not accepted
unfoldable pub plane_of : HighPoint → HighPoint → HighPoint → HighPoint → Outcome Counted
unfolding passing_from accepted_within summed_of
plane_of p q r s = high_accepting (twelve_of p q r s) (summed_of p q r s)

-- the promise of `plane`
abbrev pub PlaneSays : HighPoint → HighPoint → HighPoint → HighPoint → Result Signed Refusal → Type 0
PlaneSays p q r s a = plane_said a ≡ plane_of p q r s

-- Plane 7: what the ceiling of the 96 summands is never above: a law (Laws.PlaneCalls)
abbrev pub most_ceiling : ℕ
most_ceiling = 4416
