-- Accepted coordinates, and points of them: Numbers 6 of docs/RULES.md.
use Rattle.std.specs.Prelude.{ℕ, ◌+◌, ◌-◌, ◌^◌, ◌≡◌, Bool, true, false, ◌&&◌, ◌||◌, cond, List, T, leb, eqb, Float, Result}
use Rattle.std.specs.Float.{nan, inf, fin, binary64}
use Rattle.std.specs.Float.Ieee.{lt, neg, of_bits, fits}
use Rattle.double.specs.Worth.{mag}
use Rattle.refusal.specs.declared.Refusal.{Refusal}
use Rattle.refusal.specs.Outcome.{Outcome, not_accepted, outcome}
use Rattle.refusal.specs.Search.{passing_from}
use Rattle.point.specs.declared.Point.{Point}

-- Numbers 6: a zero, or at least 2^-400 and at most 2^400 in magnitude: of n units of 2^-1074, with k for the 400
abbrev pub in_range : ℕ → ℕ → Bool
in_range k n = eqb n 0 || (leb (2 ^ (1074 - k)) n && leb n (2 ^ (1074 + k)))

unfoldable pub accepted_within : ℕ → Float → Bool
accepted_within k nan = false
accepted_within k (inf s) = false
accepted_within k (fin s m e) = in_range k (mag binary64 (fin s m e))

-- the 400 of points of the ground plan
abbrev pub reach : ℕ
reach = 400

abbrev pub accepted_of : Float → Bool
accepted_of x = accepted_within reach x

-- the promise: whether it is accepted
abbrev pub AcceptedSays : Float → Bool → Type 0
AcceptedSays x r = r ≡ accepted_of x

-- Refusals 3: at the first coordinate that is not accepted, of a list whose places begin at i; otherwise the answer
abbrev pub accepting_from : {A : Type 0} → ℕ → List Float → A → Outcome A
accepting_from i xs answer = passing_from accepted_of not_accepted i xs answer

-- the promise: that refusal, or nothing
abbrev pub AllAcceptedSays : List Float → Result Unit Refusal → Type 0
AllAcceptedSays xs r = outcome (λ u. u) r ≡ accepting_from 0 xs tt

-- x without its sign; a -0 stays as it is
unfoldable pub magnitude_of : Float → Float
magnitude_of x = cond (lt x (of_bits binary64 0)) (neg x) x

-- the promise: of every double, infinities and not-a-number included
abbrev pub MagnitudeSays : Float → Float → Type 0
MagnitudeSays x r = r ≡ magnitude_of x

-- ---- points

-- both coordinates of a point are accepted
pub record Accepted (p : Point) : Type 0 where
  pub x : accepted_of p.x ≡ true
  pub y : accepted_of p.y ≡ true

-- what a point that is handed in is made of: the format holds both coordinates
pub record OfDoubles (p : Point) : Type 0 where
  pub x : T (fits binary64 p.x)
  pub y : T (fits binary64 p.y)
