-- The demands, of whatever keeps the promises of `run`, `ceiling` and `plain`: nothing here speaks of how they work. In order: which lists
-- are refused, with what number and place, and that a refused list stays; what is told of an answered run, its total and its sign; the
-- ceiling, and how many steps are taken; the plain sum; what a caller with a list of its own needs;
-- a run to the end. A list that is lent holds doubles (`AllDoubles`).
-- Assumes nothing.
use mathlib.Core.Path.{◌≡◌, refl, sym, ap, ap₂, ◌∙◌, subst}
use mathlib.Core.List.{List, [], ◌∷◌}
use mathlib.Core.Logic.{◌↔◌, ◌⊎◌, inl, inr}
use Prim.Native.Nat.{ℕ, ◌≤◌, ◌<◌, min}
use native.Mathlib.Nat.{le_trans}
use lib.Dec.{T, lit≤}
use lib.IntN.{pos, ◌+ℤ◌}
use lib.ListN.{length}
use lib.Ieee.{Float, nan, binary64, fits}
use Rattle.whole.specs.Sign.{sgn}
use Rattle.whole.proofs.Laws.Order.{lt_or_le}
use Rattle.refusal.specs.Outcome.{Outcome, answers, refuses, kind_number}
use Rattle.double.specs.Worth.{worth, AllDoubles}
use Rattle.refusal.specs.declared.Refusal.{Refusal}
use Rattle.refusal.specs.Judged.{leaves}
use Rattle.refusal.proofs.Laws.Outcome.{never, no_refusal, outcome_refused}
use Rattle.sum.specs.Limit.{limit}
use Rattle.sum.specs.Refused.{checked, RefusedAs, Accepted}
use Rattle.sum.specs.Total.{total_of, sign_number}
use Rattle.sum.specs.Ceiling.{ceiling_of, ceiling_said, ceiling_answer, CeilingSays}
use Rattle.sum.specs.Plain.{plain_said, plain_of, PlainSays}
use Rattle.sum.specs.Run.{ran_from, after, Settles, most_budget, Decision, sign, undecided, decision, Told, told, said, run_of, left_of, RunSays}
use Rattle.sum.specs.declared.answer.Sign.{Sign}
use Rattle.sum.specs.declared.answer.Ran.{Ran}
use Rattle.sum.proofs.Laws.Entries.{AllReal, all_of, real_of, real_finite}
use Rattle.sum.proofs.Laws.Refused.{checked_accepted, checked_answered, checked_refused, refused_checked}
use Rattle.sum.proofs.Laws.Look.{sign_once}
use Rattle.sum.proofs.Laws.Sign.{ran_total, ran_sign}
use Rattle.sum.proofs.Laws.Ceiling.{ceiling_most}
use Rattle.sum.proofs.Laws.Descent.{ceiling_steps, ceiling_sign}
use Rattle.sum.proofs.Laws.Settled.{settles, settled_enough, settled_short, settled_steps, settled_left}
use Rattle.std.specs.Prelude.{Err, None, Ok, Option, Result, Some}

-- ---- which lists are refused
-- an answer that is refused where the list is, by its number and place
refused_as : {A R : Type 0} (tells : R → Outcome A) (refusal : Refusal → R) (xs : List Float) (a : A)
    → ((q : Refusal) → tells (refusal q) ≡ refuses (kind_number q.kind) q.place)
    → ((r : R) (q : Refusal) → tells r ≡ refuses (kind_number q.kind) q.place → r ≡ refusal q)
    → (r : R) → tells r ≡ checked xs a → (q : Refusal) → (r ≡ refusal q) ↔ RefusedAs xs (kind_number q.kind) q.place
refused_as tells refusal xs a told only r e q = (
  λ h. refused_checked xs a (kind_number q.kind) q.place (sym e ∙ ap tells h ∙ told q),
  λ h. only r q (e ∙ checked_refused xs a (kind_number q.kind) q.place h),
)

pub run_refused : (xs ys : List Float) (b : ℕ) (r : Result Ran Refusal) → RunSays xs b r ys
    → (q : Refusal) → (r ≡ Err q) ↔ RefusedAs xs (kind_number q.kind) q.place
unfolding run_of said
run_refused xs ys b r p =
    refused_as said Err xs (told (ran_from b 0 xs).verdict (ran_from b 0 xs).steps) (λ q. refl) (outcome_refused (λ r. told r.verdict r.steps)) r p.answer

pub ceiling_refused : (xs : List Float) (r : Result ℕ Refusal) → CeilingSays xs r
    → (q : Refusal) → (r ≡ Err q) ↔ RefusedAs xs (kind_number q.kind) q.place
unfolding ceiling_answer ceiling_said
ceiling_refused xs r p = refused_as ceiling_said Err xs (ceiling_of xs) (λ q. refl) (outcome_refused (λ n. n)) r p

pub plain_refused : (xs : List Float) (r : Result Sign Refusal) → PlainSays xs r
    → (q : Refusal) → (r ≡ Err q) ↔ RefusedAs xs (kind_number q.kind) q.place
unfolding plain_of plain_said
plain_refused xs r p = refused_as plain_said Err xs (sgn (total_of xs)) (λ q. refl) (outcome_refused sign_number) r p

-- a refused call leaves the list as it was
pub run_refused_leaves : (xs ys : List Float) (b : ℕ) (q : Refusal) → RunSays xs b (Err q) ys → ys ≡ xs
unfolding said left_of
run_refused_leaves xs ys b q p = p.left ∙ sym (ap (λ (o : Outcome Told). leaves o (λ _. (ran_from b 0 xs).left) xs) p.answer)

-- every other list is answered
module _ (xs : List Float) (a : Accepted xs) where
  pub run_answers : (ys : List Float) (b : ℕ) (r : Result Ran Refusal) → RunSays xs b r ys → (ran : Ran) × (r ≡ Ok ran)
  unfolding run_of said
  run_answers ys b (Ok ran) p = (ran, refl)
  run_answers ys b (Err q) p = no_refusal (p.answer ∙ checked_accepted xs _ a)

  pub ceiling_answers : (r : Result ℕ Refusal) → CeilingSays xs r → r ≡ Ok (ceiling_of xs)
  unfolding ceiling_answer ceiling_said
  ceiling_answers (Ok c) p = let e : answers c ≡ answers (ceiling_of xs) = p ∙ checked_accepted xs _ a in ap Ok cc
  ceiling_answers (Err q) p = no_refusal (p ∙ checked_accepted xs _ a)

  pub plain_answers : (r : Result Sign Refusal) → PlainSays xs r → (s : Sign) × (r ≡ Ok s)
  unfolding plain_of plain_said
  plain_answers (Ok s) p = (s, refl)
  plain_answers (Err q) p = no_refusal (p ∙ checked_accepted xs _ a)

-- ---- finite entries of a list of doubles
accepted_real : (xs : List Float) → AllDoubles xs → Accepted xs → AllReal xs
accepted_real xs d a = real_of xs a.finite (all_of (λ x. T (fits binary64 x)) xs nan (λ i h. d i))

pub plain_sign : (xs : List Float) (s : Sign) → PlainSays xs (Ok s) → sign_number s ≡ sgn (total_of xs)
unfolding plain_of plain_said
plain_sign xs s p = sym (checked_answered xs (sgn (total_of xs)) (sym p)).1

-- ---- an answered run
module _ (xs ys : List Float) (b : ℕ) (r : Ran) (d : AllDoubles xs) (p : RunSays xs b (Ok r) ys) where
  answered : Accepted xs × (told (ran_from b 0 xs).verdict (ran_from b 0 xs).steps ≡ told r.verdict r.steps)
  unfolding run_of said
  answered = checked_answered xs (told (ran_from b 0 xs).verdict (ran_from b 0 xs).steps) (sym p.answer)

  pub run_accepted : Accepted xs
  run_accepted = answered.0

  real : AllReal xs
  real = accepted_real xs d run_accepted

  -- what is told, and the list that is left
  verdict_is : decision r.verdict ≡ decision (ran_from b 0 xs).verdict
  verdict_is = sym (ap (λ (t : Told). t.decided) answered.1)

  steps_are : r.steps ≡ (ran_from b 0 xs).steps
  steps_are = sym (ap (λ (t : Told). t.steps) answered.1)

  left_is : ys ≡ (ran_from b 0 xs).left
  unfolding left_of said
  left_is = p.left ∙ sym (ap (λ (o : Outcome Told). leaves o (λ _. (ran_from b 0 xs).left) xs) p.answer)

  -- the exact total stays
  pub run_total : total_of ys ≡ total_of xs
  run_total = ap total_of left_is ∙ ran_total b xs real

  -- a sign is that of the exact sum
  pub run_sign : (s : Sign) → r.verdict ≡ Some s → sign_number s ≡ sgn (total_of xs)
  run_sign s e = go (ran_from b 0 xs).verdict refl (sym (ap decision e) ∙ verdict_is)
    where
      go : (v : Option Sign) → (ran_from b 0 xs).verdict ≡ v → sign (sign_number s) ≡ decision v → sign_number s ≡ sgn (total_of xs)
      go (Some t) v q = let same : sign_number s ≡ sign_number t = cc in same ∙ ran_sign b xs real t (le_trans run_accepted.short (lit≤ tt)) v
      go None v q = never (cc)

  -- ---- the ceiling
  module _ (c : ℕ) (q : CeilingSays xs (Ok c)) where
    ceiling_is : c ≡ ceiling_of xs
    ceiling_is = let e : Ok c ≡ Ok (ceiling_of xs) = ceiling_answers xs run_accepted (Ok c) q in cc

    -- no run takes more steps than the ceiling
    pub run_steps : r.steps ≤ c
    run_steps =
        subst (λ (n : ℕ). n ≤ c) (sym steps_are)
        (subst (λ (n : ℕ). (ran_from b 0 xs).steps ≤ n) (sym ceiling_is) (ceiling_steps b xs real run_accepted.short))

    -- with a budget of the ceiling or more a run decides
    pub run_decides : c ≤ b → decision r.verdict ≡ sign (sgn (total_of xs))
    run_decides h = verdict_is ∙ ceiling_sign b xs real run_accepted.short (subst (λ (n : ℕ). n ≤ b) ceiling_is h)

  -- ---- the count: n steps settle the list
  module _ (n : ℕ) (z : Settles xs n) where
    pub run_takes : r.steps ≡ min b n
    run_takes = steps_are ∙ settled_steps xs n z b

    -- the list is left as it stands after so many steps
    pub run_leaves : ys ≡ after (min b n) xs
    run_leaves = left_is ∙ settled_left xs n z b

    -- a run is undecided where, and only where, the rule is after budget steps
    pub run_undecided : (r.verdict ≡ None) ↔ (b < n)
    run_undecided = (λ u. short u (lt_or_le b n), λ h. only r.verdict (verdict_is ∙ ap decision (settled_short xs n z b h).1))
      where
        short : r.verdict ≡ None → (b < n) ⊎ (n ≤ b) → b < n
        short u (inl h) = h
        short u (inr h) =
            let (s, e) = (settled_enough xs n z b h).1 in
            let f : undecided ≡ sign (sign_number s) = sym (ap decision u) ∙ verdict_is ∙ ap decision e in
            never (cc)

        only : (v : Option Sign) → decision v ≡ undecided → v ≡ None
        only (Some s) e = never (cc)
        only None e = refl

  -- ---- the plain sum's sign is the same
  pub run_plain : (s t : Sign) → r.verdict ≡ Some s → PlainSays xs (Ok t) → s ≡ t
  run_plain s t e q = sign_once s t (run_sign s e ∙ sym (plain_sign xs t q))

-- ---- every list that is answered has a number of steps that settles it, at most the ceiling
pub settles_within : (xs : List Float) (c : ℕ) → AllDoubles xs → CeilingSays xs (Ok c) → (n : ℕ) × Settles xs n × (n ≤ c)
unfolding ceiling_answer ceiling_said
settles_within xs c d q =
    let (a, same) = checked_answered xs (ceiling_of xs) (sym q) in
    let (n, z, most) = settles xs (accepted_real xs d a) a.short in
    (n, z, subst (λ (k : ℕ). n ≤ k) same most)

-- ---- for callers that hand in a list of their own
pub real_accepted : (xs : List Float) → AllReal xs → length xs ≤ limit → Accepted xs
real_accepted xs a short = record { short = short; finite = real_finite xs a }

pub total_none : total_of [] ≡ pos 0
unfolding total_of
total_none = refl

pub total_more : (x : Float) (xs : List Float) → total_of (x ∷ xs) ≡ worth x +ℤ total_of xs
unfolding total_of
total_more x xs = refl

-- ---- a run to the end: the greatest budget always decides, after just the steps that settle the list
pub settled_told : (xs : List Float) → AllReal xs → length xs ≤ limit
    → (k : ℕ) × (run_of xs most_budget ≡ answers (record { decided = sign (sgn (total_of xs)); steps = k })) × (k ≤ ceiling_of xs) × Settles xs k
unfolding run_of
settled_told xs a short =
    let (k, settled, most) = settles xs a short in
    let enough : ceiling_of xs ≤ most_budget = le_trans (ceiling_most xs a short) (lit≤ tt) in (
      k,
      checked_accepted xs _ (real_accepted xs a short)
          ∙ ap₂ (λ (t : Decision) (n : ℕ). answers (record { decided = t; steps = n })) (ceiling_sign most_budget xs a short enough)
          (settled_enough xs k settled most_budget (le_trans most enough)).0,
      most,
      settled,
    )

-- what an answered run tells, for callers that go by the answer
pub run_told : (xs ys : List Float) (b : ℕ) (r : Ran) → RunSays xs b (Ok r) ys → run_of xs b ≡ answers (told r.verdict r.steps)
unfolding said
run_told xs ys b r p = sym p.answer
