-- The side of a point. In order: the sign is the determinant's, whatever stage tells it; the stage and the steps; which coordinate is
-- refused, and that otherwise the turn is answered; no two results satisfy the promise of `side`.
-- Not here: why stages 1 and 2 are right (`Filter` of crate side_filter), and stage 3 (`Exact`). Assumes nothing.
use mathlib.Core.Path.{◌≡◌, refl, sym, ap, ap₂, ◌∙◌, subst}
use Prim.Native.Nat.{ℕ, ◌≤◌, ◌<◌, zero-le}
use native.Mathlib.Nat.{lt_irrefl}
use native.Mathlib.Omega.{arith}
use lib.Ieee.{nan}
use Rattle.whole.specs.Sign.{sgn}
use Rattle.whole.proofs.Laws.Sign.{sgn_positive, sgn_zero, sgn_negative}
use Rattle.refusal.specs.Outcome.{answers, refuses, not_accepted, Fixes}
use Rattle.refusal.specs.Search.{passing_from}
use Rattle.refusal.proofs.Laws.Search.{passing_answered, failing_other}
use Rattle.refusal.proofs.Laws.Outcome.{outcome_once}
use Rattle.point.specs.declared.Point.{Point}
use Rattle.point.specs.Accepted.{reach, accepted_of, accepting_from, Accepted}
use Rattle.point.specs.Spot.{determinant}
use Rattle.point.proofs.Laws.Within.{Within}
use Rattle.sum.specs.Total.{sign_number}
use Rattle.sum.specs.declared.answer.Sign.{Sign}
use Rattle.sum.proofs.Laws.Look.{sign_once}
use Rattle.side_filter.specs.declared.answer.Early.{Early}
use Rattle.side_filter.specs.declared.answer.Early.TheVariants.{Level, Plus, Minus, Open}
use Rattle.side_filter.specs.Filter.{filter_of, Sure}
use Rattle.side_filter.proofs.Laws.Filter.{filter_sure}
use Rattle.geometry.specs.Side.{Turned, most_steps, exact_of, by_stage, turn_of, turn_said, said, six_of, side_of, SideSays}
use Rattle.geometry.specs.declared.answer.Turn.{Turn}
use Rattle.geometry.proofs.Laws.Exact.{exact_sign, exact_steps, exact_stage}
use Rattle.refusal.specs.declared.Refusal.{Refusal}
use Rattle.std.specs.Prelude.{Result}

-- ---- the sign
module _ (p q r : Point) (P : Within reach p) (Q : Within reach q) (R : Within reach r) where
  -- the sign is that of the exact determinant, whatever stage answers
  pub turn_sign : (turn_of p q r).sign ≡ sgn (determinant p q r)
  unfolding turn_of
  turn_sign = go (filter_of p q r) (filter_sure p q r P Q R refl)
    where
      go : (f : Early) → Sure p q r f → (by_stage f (exact_of p q r)).sign ≡ sgn (determinant p q r)
      go Level F = sym ((sgn_zero (determinant p q r)).1 (F.level refl))
      go Plus F = sym ((sgn_positive (determinant p q r)).1 (F.plus refl))
      go Minus F = sym ((sgn_negative (determinant p q r)).1 (F.minus refl))
      go Open F = exact_sign p q r P Q R

  -- so is the sign that is answered
  pub turn_said_sign : (t : Turn) → turn_said t ≡ turn_of p q r → sign_number t.sign ≡ sgn (determinant p q r)
  turn_said_sign t e = ap (λ (t : Turned). t.sign) e ∙ turn_sign

  -- no side takes more than 480 steps
  pub turn_steps : (turn_of p q r).steps ≤ most_steps
  unfolding turn_of
  turn_steps = go (filter_of p q r)
    where
      go : (f : Early) → (by_stage f (exact_of p q r)).steps ≤ most_steps
      go Level = zero-le
      go Plus = zero-le
      go Minus = zero-le
      go Open = exact_steps p q r P Q R

-- ---- the stage and the steps
module _ (p q r : Point) where
  -- the first stage that tells it
  pub turn_by : {f : Early} → f ≡ filter_of p q r → by_stage f (exact_of p q r) ≡ turn_of p q r
  unfolding turn_of
  turn_by e = ap (λ (f : Early). by_stage f (exact_of p q r)) e

  -- stages 1 and 2 take none
  pub turn_steps_early : (turn_of p q r).stage < 3 → (turn_of p q r).steps ≡ 0
  unfolding turn_of
  turn_steps_early = go (filter_of p q r)
    where
      go : (f : Early) → (by_stage f (exact_of p q r)).stage < 3 → (by_stage f (exact_of p q r)).steps ≡ 0
      go Level h = refl
      go Plus h = refl
      go Minus h = refl
      go Open h = absurd (lt_irrefl 3 (subst (λ (n : ℕ). n < 3) (exact_stage p q r) h))

-- ---- a side is refused 3 only, at 0 to 5 for px, py, qx, qy, rx, ry
module _ (p q r : Point) where
  pub six_accepted : {a : Unit {0}} → accepting_from 0 (six_of p q r) (tt {0}) ≡ answers a → Accepted p × Accepted q × Accepted r
  six_accepted e =
      let all = (passing_answered accepted_of not_accepted nan tt 0 (six_of p q r) _ e).0 in (
        record { x = all 0 (omega arith); y = all 1 (omega arith) },
        record { x = all 2 (omega arith); y = all 3 (omega arith) },
        record { x = all 4 (omega arith); y = all 5 (omega arith) },
      )

  pub six_refused : {number place : ℕ} → accepting_from 0 (six_of p q r) (tt {0}) ≡ refuses number place → refuses number place ≡ side_of p q r
  unfolding side_of
  six_refused e = sym (failing_other accepted_of not_accepted 0 nan (six_of p q r) tt (turn_of p q r) e)

  pub side_turn : Accepted p → Accepted q → Accepted r → answers (turn_of p q r) ≡ side_of p q r
  unfolding side_of passing_from
  side_turn P Q R = rw (P.x, P.y, Q.x, Q.y, R.x, R.y)

-- ---- no two results satisfy the promise
turn_once : (a b : Turn) → turn_said a ≡ turn_said b → a ≡ b
turn_once a b e =
    let s : a.sign ≡ b.sign = sign_once a.sign b.sign (ap (λ (t : Turned). t.sign) e) in
    let n : a.stage ≡ b.stage = ap (λ (t : Turned). t.stage) e in
    let k : a.steps ≡ b.steps = ap (λ (t : Turned). t.steps) e in
    ap₂ (λ (s : Sign) (n : ℕ). let t : Turn = record { sign = s; stage = n; steps = a.steps } in t) s n
    ∙ ap (λ (k : ℕ). let t : Turn = record { sign = b.sign; stage = b.stage; steps = k } in t) k

pub side_fixed : (p q r : Point) → Fixes (λ (s : Result Turn Refusal). SideSays p q r s)
unfolding said
side_fixed p q r a b e f = outcome_once turn_said turn_once a b (e ∙ sym f)
