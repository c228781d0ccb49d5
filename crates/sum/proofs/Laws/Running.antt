-- The loop of a run: from every list on the way the rest of the budget leads where the whole leads from the start (`Going`). In order: its
-- start, what a step is handed, the three ways a turn ends; a refused run; no two results satisfy the promise. Assumes nothing.
use mathlib.Core.Path.{◌≡◌, refl, sym, ap, ap₂, ◌∙◌}
use mathlib.Core.List.{List, [], ◌∷◌}
use Prim.Native.Nat.{ℕ, zero, suc, ◌+◌, ◌-◌, ◌≤◌, ◌<◌, zero-le}
use native.Mathlib.Nat.{sub-zero, le_trans, le_of_eq}
use native.Mathlib.Omega.{arith}
use lib.Dec.{T}
use lib.ListN.{length}
use lib.Ieee.{Float, nan, binary64, fits}
use lib.Ieee.Fits.{nan-fits}
use Rattle.refusal.specs.Outcome.{Outcome, answers, Fixes}
use Rattle.refusal.specs.declared.Refusal.{Refusal}
use Rattle.refusal.specs.Judged.{leaves}
use Rattle.refusal.proofs.Laws.Outcome.{outcome_once}
use Rattle.sum.specs.Limit.{limit}
use Rattle.double.specs.Worth.{AllDoubles}
use Rattle.sum.specs.Refused.{Accepted}
use Rattle.sum.specs.Parts.{found, fault_of}
use Rattle.sum.specs.Look.{verdict_of, verdict_by, look_of}
use Rattle.sum.specs.Step.{step_of}
use Rattle.sum.specs.Run.{RunSays, Reached, reached, ran_from, run_of, left_of, said, Told, told, decision}
use Rattle.sum.specs.Parts.{RanSays}
use Rattle.sum.specs.Tally.{tally_of, look_at, Stepping}
use Rattle.sum.specs.declared.answer.Sign.{Sign}
use Rattle.sum.specs.declared.answer.Ran.{Ran}
use Rattle.sum.specs.declared.look.Tally.{Tally}
use Rattle.sum.specs.declared.look.Look.{Look}
use Rattle.sum.proofs.Laws.Refused.{checked_none, checked_at}
use Rattle.sum.proofs.Laws.Entries.{AllReal, all_of, real_of, real_finite}
use Rattle.sum.proofs.Laws.Step.{step_length, step_real}
use Rattle.sum.proofs.Laws.Look.{sign_once}
use Rattle.sum.proofs.Laws.Runs.{ran_decided, ran_out, ran_step}
use Rattle.std.specs.Prelude.{Err, None, Ok, Option, Result, Some}

-- ---- the loop's invariant
pub record Going (budget : ℕ) (start : List Float) (steps : ℕ) (xs : List Float) : Type 0 where
  pub same : length xs ≡ length start
  pub short : length xs ≤ limit
  pub real : AllReal xs
  pub within : steps ≤ budget
  pub rest : ran_from (budget - steps) steps xs ≡ ran_from budget 0 start

pub going_start : (budget : ℕ) (xs : List Float) → Accepted xs → AllDoubles xs → Going budget xs 0 xs
going_start budget xs a d = record {
  same = refl;
  short = a.short;
  real = real_of xs a.finite (all_of (λ x. T (fits binary64 x)) xs nan (λ i h. d i));
  within = zero-le;
  rest = ap (λ (n : ℕ). ran_from n 0 xs) (sub-zero budget);
}

real_doubles : (xs : List Float) → AllReal xs → AllDoubles xs
real_doubles [] r i = nan-fits binary64
real_doubles (x ∷ xs) r zero = r.0.fit
real_doubles (x ∷ xs) r (suc i) = real_doubles xs r.1 i

-- the verdict that the code finds is the rule's
pub verdict_is : (xs : List Float) {t : Tally} {l : Look} {v : (Option Sign)} → t ≡ tally_of 0 xs → l ≡ look_at t → v ≡ verdict_by t.m t.n l → v ≡ verdict_of xs
unfolding verdict_of look_of
verdict_is xs {t} e f g = g ∙ ap (verdict_by t.m t.n) f ∙ ap (λ (t : Tally). verdict_by t.m t.n (look_at t)) e

-- where a run ends is what the inner run promises
ran_says : {xs left : List Float} {budget steps : ℕ} {v : (Option Sign)} → ran_from budget 0 xs ≡ reached v steps left
    → RanSays xs budget (record { verdict = v; steps = steps }) left
ran_says e = record {
  verdict = sym (ap (λ (r : Reached). r.verdict) e);
  steps = sym (ap (λ (r : Reached). r.steps) e);
  left = sym (ap (λ (r : Reached). r.left) e);
}

module _ {budget : ℕ} {start : List Float} {steps : ℕ} {xs : List Float} (go : Going budget start steps xs) where
  pub going_stepping : {t : Tally} → t ≡ tally_of 0 xs → verdict_of xs ≡ None → Stepping xs t
  going_stepping e u = record { tally = e; doubles = real_doubles xs go.real; finite = real_finite xs go.real; undecided = u }

  -- decided: the list stays
  pub going_decided : {v : (Option Sign)} {s : Sign} → v ≡ verdict_of xs → v ≡ Some s → RanSays start budget (record { verdict = v; steps = steps }) xs
  going_decided {v} {s} e f =
      ran_says (sym go.rest ∙ ran_decided (budget - steps) steps xs s (sym e ∙ f) ∙ ap (λ (w : Option Sign). reached w steps xs) (sym f))

  -- the budget is spent
  pub going_out : {v : (Option Sign)} → v ≡ verdict_of xs → budget ≤ steps → RanSays start budget (record { verdict = v; steps = steps }) xs
  going_out e h =
      ran_says (sym go.rest ∙ ran_out (budget - steps) steps xs (omega arith) ∙ ap (λ (w : Option Sign). reached w steps xs) (sym e))

  -- one step more
  pub going_step : verdict_of xs ≡ None → steps < budget → Going budget start (steps + 1) (step_of xs)
  going_step u h = record {
    same = step_length xs ∙ go.same;
    short = le_trans (le_of_eq (step_length xs)) go.short;
    real = step_real xs u go.real;
    within = omega arith;
    rest = sym (ran_step (budget - steps) (budget - (steps + 1)) steps xs u (omega arith)) ∙ go.rest;
  }

-- ---- the public promise
module _ (xs : List Float) (budget : ℕ) where
  pub run_says_refused : (r : Refusal) → found (Err r) ≡ fault_of xs → RunSays xs budget (Err r) xs
  unfolding said run_of left_of
  run_says_refused r h =
      let e = checked_at (told (ran_from budget 0 xs).verdict (ran_from budget 0 xs).steps) xs r h in
      record { answer = sym e; left = sym (ap (λ (o : Outcome _). leaves o (λ _. (ran_from budget 0 xs).left) xs) e) }

  pub run_says_done : (r : Ran) (left : List Float) → found (Ok tt) ≡ fault_of xs → RanSays xs budget r left → RunSays xs budget (Ok r) left
  unfolding said run_of left_of
  run_says_done r left h s =
      let e = checked_none (told (ran_from budget 0 xs).verdict (ran_from budget 0 xs).steps) xs h in
      record {
        answer = ap₂ (λ (v : Option Sign) (k : ℕ). answers (told v k)) s.verdict s.steps ∙ sym e;
        left = s.left ∙ sym (ap (λ (o : Outcome _). leaves o (λ _. (ran_from budget 0 xs).left) xs) e);
      }

-- ---- no two results satisfy it
verdict_once : (v w : Option Sign) → decision v ≡ decision w → v ≡ w
verdict_once (Some a) (Some b) e = ap Some (sign_once a b (cc))
verdict_once (Some a) None e = cc
verdict_once None (Some b) e = cc
verdict_once None None e = refl

ran_once : (a b : Ran) → told a.verdict a.steps ≡ told b.verdict b.steps → a ≡ b
ran_once a b t =
    ap₂ (λ (v : Option Sign) (k : ℕ). let r : Ran = record { verdict = v; steps = k } in r)
    (verdict_once a.verdict b.verdict (ap (λ (t : Told). t.decided) t)) (ap (λ (t : Told). t.steps) t)

-- a result of a call: what it returned, and the list that it left
pub record Returned : Type 0 where
  pub answer : Result Ran Refusal
  pub left : List Float

pub run_fixed : (xs : List Float) (budget : ℕ) → Fixes (λ (o : Returned). RunSays xs budget o.answer o.left)
unfolding said
run_fixed xs budget a b p q =
    let e : a.answer ≡ b.answer = outcome_once (λ r. told r.verdict r.steps) ran_once a.answer b.answer (p.answer ∙ sym q.answer) in
    let f : a.left ≡ b.left = p.left ∙ sym q.left in
    ap₂ (λ (r : Result Ran Refusal) (l : List Float). let o : Returned = record { answer = r; left = l } in o) e f
