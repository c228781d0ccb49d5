-- A run by its turns, and by the list after n steps. In order: a turn that decides, one that the budget stops, one that steps; where a run
-- of budget b ends: after n steps, n at most b, with every list before undecided; the same read off the run's own count; what every
-- step keeps. Not here: which sign is answered (`Sign`), how many steps are enough (`Descent`). Assumes nothing.
use mathlib.Core.Path.{◌≡◌, refl, sym, ap, ◌∙◌, subst}
use mathlib.Core.List.{List}
use Prim.Native.Nat.{ℕ, zero, suc, ◌+◌, ◌≤◌, ◌<◌, zero-le}
use native.Mathlib.Nat.{le_refl, zero-add, zero-lt-suc}
use native.Mathlib.Numerals.{add-one}
use native.Mathlib.Omega.{arith}
use lib.Ieee.{Float}
use Rattle.sum.specs.Look.{verdict_of}
use Rattle.sum.specs.Step.{step_of}
use Rattle.sum.specs.Run.{Reached, reached, ran_from, after}
use Rattle.sum.specs.declared.answer.Sign.{Sign}
use Rattle.std.specs.Prelude.{None, Option, Some}

-- ---- the turns

-- a turn where the look says v
abbrev turn : Option Sign → ℕ → ℕ → List Float → Reached
turn v more k xs = elim v [ Some s ↦ reached (Some s) k xs | None ↦ ran_from more (k + 1) (step_of xs) ]

-- decided: the list stays, whatever is left of the budget
pub ran_decided : (more k : ℕ) (xs : List Float) (s : Sign) → verdict_of xs ≡ Some s → ran_from more k xs ≡ reached (Some s) k xs
unfolding ran_from
ran_decided zero k xs s e = ap (λ (v : Option Sign). reached v k xs) e
ran_decided (suc more) k xs s e = ap (λ (v : Option Sign). turn v more k xs) e

-- the budget is spent: the look's verdict, and the list stays
pub ran_out : (more k : ℕ) (xs : List Float) → more ≡ 0 → ran_from more k xs ≡ reached (verdict_of xs) k xs
unfolding ran_from
ran_out more k xs e = ap (λ (n : ℕ). ran_from n k xs) e

-- a step
pub ran_step : (more rest k : ℕ) (xs : List Float) → verdict_of xs ≡ None → more ≡ rest + 1
    → ran_from more k xs ≡ ran_from rest (k + 1) (step_of xs)
unfolding ran_from
ran_step more rest k xs e h = ap (λ (n : ℕ). ran_from n k xs) (h ∙ add-one rest) ∙ ap (λ (v : Option Sign). turn v rest k xs) e

-- ---- where a run ends

-- r, reached from xs with k steps taken and b left: n steps on
record Ends (b k : ℕ) (xs : List Float) (r : Reached) (n : ℕ) : Type 0 where
  most : n ≤ b
  count : r.steps ≡ k + n
  list : r.left ≡ after n xs
  look : r.verdict ≡ verdict_of (after n xs)
  before : (i : ℕ) → i < n → verdict_of (after i xs) ≡ None
  spent : r.verdict ≡ None → n ≡ b

ends : (b k : ℕ) (xs : List Float) → (n : ℕ) × Ends b k xs (ran_from b k xs) n
unfolding ran_from after
ends zero k xs = (
  0,
  record {
    most = le_refl 0;
    count = omega arith;
    list = refl;
    look = refl;
    before = λ i h. absurd (omega arith);
    spent = λ e. refl;
  },
)
ends (suc b) k xs = go (verdict_of xs) refl (ends b (k + 1) (step_of xs))
  where
    first : (n : ℕ) → verdict_of xs ≡ None → ((i : ℕ) → i < n → verdict_of (after i (step_of xs)) ≡ None)
        → (i : ℕ) → i < suc n → verdict_of (after i xs) ≡ None
    first n e f zero h = e
    first n e f (suc i) h = f i (omega arith)

    go : (v : Option Sign) → verdict_of xs ≡ v → ((n : ℕ) × Ends b (k + 1) (step_of xs) (ran_from b (k + 1) (step_of xs)) n)
        → (n : ℕ) × Ends (suc b) k xs (turn v b k xs) n
    go (Some s) e r = (
      0,
      record {
        most = zero-le;
        count = omega arith;
        list = refl;
        look = sym e;
        before = λ i h. absurd (omega arith);
        spent = λ u. cc;
      },
    )
    go None e (n, r) = (
      suc n,
      record {
        most = omega (arith, r.most);
        count = omega (arith, r.count);
        list = r.list;
        look = r.look;
        before = first n e r.before;
        spent = λ u. ap suc (r.spent u);
      },
    )

-- ---- the same by the run's own count

module _ (b : ℕ) (xs : List Float) where
  abbrev run : Reached
  run = ran_from b 0 xs

  own : Ends b 0 xs run run.steps
  own = let (n, r) = ends b 0 xs in subst (λ (i : ℕ). Ends b 0 xs run i) (sym (r.count ∙ zero-add n)) r

  pub ran_steps_most : run.steps ≤ b
  ran_steps_most = own.most

  -- the list is left as it stands after so many steps
  pub ran_left : run.left ≡ after run.steps xs
  ran_left = own.list

  -- the verdict is that of the list which is left
  pub ran_verdict : run.verdict ≡ verdict_of run.left
  ran_verdict = own.look ∙ ap verdict_of (sym own.list)

  -- a step is taken only while nothing is decided
  pub ran_before : (i : ℕ) → i < run.steps → verdict_of (after i xs) ≡ None
  ran_before = own.before

  -- and stops undecided only where the budget is spent
  pub ran_spent : run.verdict ≡ None → run.steps ≡ b
  ran_spent = own.spent

-- ---- what every step keeps, a run keeps; P may count the steps
after_keeps : (P : ℕ → List Float → Type 0)
    → ((i : ℕ) (xs : List Float) → verdict_of xs ≡ None → P i xs → P (suc i) (step_of xs))
    → (n : ℕ) (xs : List Float) → ((i : ℕ) → i < n → verdict_of (after i xs) ≡ None) → P 0 xs → P n (after n xs)
unfolding after
after_keeps P f zero xs u h = h
after_keeps P f (suc n) xs u h =
    after_keeps (λ i. P (suc i)) (λ i. f (suc i)) n (step_of xs) (λ i l. u (suc i) (omega arith)) (f 0 xs (u 0 (zero-lt-suc n)) h)

pub ran_keeps : (P : ℕ → List Float → Type 0)
    → ((i : ℕ) (xs : List Float) → verdict_of xs ≡ None → P i xs → P (suc i) (step_of xs))
    → (b : ℕ) (xs : List Float) → P 0 xs → P (ran_from b 0 xs).steps (ran_from b 0 xs).left
ran_keeps P f b xs h =
    let n = (ran_from b 0 xs).steps in
    subst (λ (ys : List Float). P n ys) (sym (ran_left b xs)) (after_keeps P f n xs (ran_before b xs) h)
