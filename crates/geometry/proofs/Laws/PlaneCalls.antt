-- The demands, of whatever keeps the promise of `plane`: nothing here speaks of how it works. In order: which calls are refused, with what
-- place; accepted points are answered; an answered call: its sign and its steps; no two results
-- satisfy the promise. A point that is handed in is made of doubles (`HighOfDoubles`). Assumes nothing.
use mathlib.Core.Path.{◌≡◌, refl, sym, ap, ap₂, ◌∙◌, subst}
use mathlib.Core.Logic.{◌↔◌}
use Prim.Native.Nat.{ℕ, ◌≤◌}
use native.Mathlib.Omega.{arith}
use lib.Ieee.{nan}
use Rattle.whole.specs.Sign.{sgn}
use Rattle.refusal.specs.Outcome.{answers, refuses, not_accepted, Fixes, kind_number}
use Rattle.refusal.specs.Search.{passing_from, AllPass}
use Rattle.refusal.specs.declared.Refusal.{Refusal}
use Rattle.refusal.proofs.Laws.Outcome.{no_refusal, outcome_once, outcome_refused}
use Rattle.refusal.proofs.Laws.Search.{passing_answered, failing_other, passing_iff}
use Rattle.point.specs.declared.HighPoint.{HighPoint}
use Rattle.point.specs.High.{high_reach, high_accepted, high_accepting, HighAccepted, HighOfDoubles, high_determinant}
use Rattle.point.proofs.Laws.Within.{HighWithin, high_accepted_within}
use Rattle.sum.specs.Total.{sign_number}
use Rattle.sum.specs.Ceiling.{ceiling_of}
use Rattle.sum.specs.Run.{Settles}
use Rattle.sum.specs.declared.answer.Sign.{Sign}
use Rattle.sum.proofs.Laws.Look.{sign_once}
use Rattle.geometry.specs.Plane.{products_of, opened, Counted, summed_of, signed_said, plane_said, twelve_of, plane_of, PlaneSays, most_ceiling}
use Rattle.geometry.specs.Reasons.{PlaneRefusedAs}
use Rattle.geometry.specs.declared.answer.Signed.{Signed}
use Rattle.geometry.proofs.Laws.Space.{opened_ceiling, summed_sign, summed_steps, summed_settles}
use Rattle.std.specs.Prelude.{Err, Ok, Result}

-- ---- a call is refused 3 only, at 0 to 11
module _ (p q r s : HighPoint) where
  pub twelve_accepted : {a : Unit {0}} → high_accepting (twelve_of p q r s) (tt {0}) ≡ answers a
      → HighAccepted p × HighAccepted q × HighAccepted r × HighAccepted s
  twelve_accepted e =
      let all = (passing_answered high_accepted not_accepted nan tt 0 (twelve_of p q r s) _ e).0 in (
        record { x = all 0 (omega arith); y = all 1 (omega arith); height = all 2 (omega arith) },
        record { x = all 3 (omega arith); y = all 4 (omega arith); height = all 5 (omega arith) },
        record { x = all 6 (omega arith); y = all 7 (omega arith); height = all 8 (omega arith) },
        record { x = all 9 (omega arith); y = all 10 (omega arith); height = all 11 (omega arith) },
      )

  pub twelve_refused : {number place : ℕ} → high_accepting (twelve_of p q r s) (tt {0}) ≡ refuses number place
      → refuses number place ≡ plane_of p q r s
  unfolding plane_of
  twelve_refused e = sym (failing_other high_accepted not_accepted 0 nan (twelve_of p q r s) tt (summed_of p q r s) e)

  pub plane_passed : HighAccepted p → HighAccepted q → HighAccepted r → HighAccepted s → answers (summed_of p q r s) ≡ plane_of p q r s
  unfolding plane_of passing_from
  plane_passed P Q R S = rw (P.x, P.y, P.height, Q.x, Q.y, Q.height, R.x, R.y, R.height, S.x, S.y, S.height)

-- ---- which calls are refused: 3, at the first of the twelve coordinates that is not accepted
pub plane_refused : (p q r s : HighPoint) (a : Result Signed Refusal) → PlaneSays p q r s a
    → (f : Refusal) → (a ≡ Err f) ↔ PlaneRefusedAs p q r s (kind_number f.kind) f.place
unfolding plane_said plane_of
plane_refused p q r s a h f =
    let at = passing_iff high_accepted not_accepted nan (twelve_of p q r s) (summed_of p q r s) (kind_number f.kind) f.place in
    (λ e. at.0 (sym h ∙ ap plane_said e), λ w. outcome_refused signed_said a f (h ∙ at.1 w))

-- accepted points are answered
pub plane_answers : (p q r s : HighPoint) (a : Result Signed Refusal) → HighAccepted p → HighAccepted q → HighAccepted r → HighAccepted s
    → PlaneSays p q r s a → (t : Signed) × (a ≡ Ok t)
unfolding plane_said
plane_answers p q r s (Ok t) P Q R S h = (t, refl)
plane_answers p q r s (Err f) P Q R S h = no_refusal (h ∙ sym (plane_passed p q r s P Q R S))

-- ---- an answered call
module _ (p q r s : HighPoint) (t : Signed) (h : PlaneSays p q r s (Ok t)) where
  answered : AllPass high_accepted nan (twelve_of p q r s) × (summed_of p q r s ≡ signed_said t)
  unfolding plane_said plane_of
  answered = passing_answered high_accepted not_accepted nan (summed_of p q r s) 0 (twelve_of p q r s) (signed_said t) (sym h)

  pub plane_accepted : HighAccepted p × HighAccepted q × HighAccepted r × HighAccepted s
  plane_accepted =
      let all = answered.0 in (
        record { x = all 0 (omega arith); y = all 1 (omega arith); height = all 2 (omega arith) },
        record { x = all 3 (omega arith); y = all 4 (omega arith); height = all 5 (omega arith) },
        record { x = all 6 (omega arith); y = all 7 (omega arith); height = all 8 (omega arith) },
        record { x = all 9 (omega arith); y = all 10 (omega arith); height = all 11 (omega arith) },
      )

module _ (p q r s : HighPoint) (t : Signed) (P : HighOfDoubles p) (Q : HighOfDoubles q) (R : HighOfDoubles r) (S : HighOfDoubles s)
    (h : PlaneSays p q r s (Ok t)) where
  within : HighWithin high_reach p × HighWithin high_reach q × HighWithin high_reach r × HighWithin high_reach s
  within =
      let (p_in, q_in, r_in, s_in) = plane_accepted p q r s t h in (
        high_accepted_within p P p_in,
        high_accepted_within q Q q_in,
        high_accepted_within r R r_in,
        high_accepted_within s S s_in,
      )

  -- the sign is that of the exact determinant
  pub plane_sign : sign_number t.sign ≡ sgn (high_determinant p q r s)
  plane_sign =
      let (wp, wq, wr, ws) = within in
      sym (ap (λ (c : Counted). c.sign) (answered p q r s t h).1) ∙ summed_sign p q r s wp wq wr ws

  -- the steps are just those that settle the 96 summands
  pub plane_settles : Settles (opened (products_of p q r s)) t.steps
  plane_settles =
      let (wp, wq, wr, ws) = within in
      subst (λ (c : Counted). Settles (opened (products_of p q r s)) c.steps) (answered p q r s t h).1 (summed_settles p q r s wp wq wr ws)

  -- and never more than their ceiling
  pub plane_steps : t.steps ≤ ceiling_of (opened (products_of p q r s))
  plane_steps =
      let (wp, wq, wr, ws) = within in
      subst (λ (c : Counted). c.steps ≤ ceiling_of (opened (products_of p q r s))) (answered p q r s t h).1 (summed_steps p q r s wp wq wr ws)

  -- which is at most 4,416
  pub plane_ceiling : ceiling_of (opened (products_of p q r s)) ≤ most_ceiling
  plane_ceiling = let (wp, wq, wr, ws) = within in opened_ceiling p q r s wp wq wr ws

-- ---- no two results satisfy the promise
signed_once : (a b : Signed) → signed_said a ≡ signed_said b → a ≡ b
signed_once a b e =
    let s : a.sign ≡ b.sign = sign_once a.sign b.sign (ap (λ (c : Counted). c.sign) e) in
    let k : a.steps ≡ b.steps = ap (λ (c : Counted). c.steps) e in
    ap₂ (λ (s : Sign) (k : ℕ). let t : Signed = record { sign = s; steps = k } in t) s k

pub plane_fixed : (p q r s : HighPoint) → Fixes (λ (a : Result Signed Refusal). PlaneSays p q r s a)
unfolding plane_said
plane_fixed p q r s a b e f = outcome_once signed_said signed_once a b (e ∙ sym f)
