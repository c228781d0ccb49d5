-- How many steps the rule takes to settle a list's sign, and what a budget makes of them. In order: there is one such number; every list of
-- finite doubles within the limit has one, at most its ceiling; a run with a budget b takes the lesser of b and that number, leaves the list
-- after so many steps, and decides exactly if b is no less. Assumes nothing.
use mathlib.Core.Path.{◌≡◌, sym, ap, ◌∙◌, subst}
use mathlib.Core.List.{List}
use mathlib.Core.Logic.{inl, inr}
use Prim.Native.Nat.{ℕ, ◌≤◌, ◌<◌, min}
use native.Mathlib.Nat.{le_refl, le_antisymm}
use native.Mathlib.Omega.{arith}
use lib.ListN.{length}
use lib.Ieee.{Float}
use Rattle.whole.proofs.Laws.Order.{lt_or_le}
use Rattle.sum.specs.Limit.{limit}
use Rattle.sum.specs.Look.{verdict_of}
use Rattle.sum.specs.Ceiling.{ceiling_of}
use Rattle.sum.specs.Run.{ran_from, after, Settles}
use Rattle.sum.specs.declared.answer.Sign.{Sign}
use Rattle.sum.proofs.Laws.Entries.{AllReal}
use Rattle.sum.proofs.Laws.Runs.{ran_left, ran_verdict, ran_before, ran_steps_most, ran_spent}
use Rattle.sum.proofs.Laws.Descent.{ceiling_steps, ceiling_enough}
use Rattle.std.specs.Prelude.{None, Option, Some}

-- a list is decided or not
not_both : {A : Type 0} {v : (Option Sign)} {s : Sign} → v ≡ Some s → v ≡ None → A
not_both e f = let z : ◌≡◌ {A = ℕ} 0 1 = cc in let w : ⊥ = omega arith in absurd w

module _ (xs : List Float) where
  -- no list before the one that settles it is decided
  settles_least : (n k : ℕ) → Settles xs n → (s : Sign) → verdict_of (after k xs) ≡ Some s → n ≤ k
  settles_least n k z s e = elim (lt_or_le k n) [ inl h ↦ not_both e (z.before k h) | inr h ↦ h ]

  pub settles_once : (m n : ℕ) → Settles xs m → Settles xs n → m ≡ n
  settles_once m n y z =
      let (s, e) = y.decides in
      let (t, f) = z.decides in
      le_antisymm (settles_least m n y t f) (settles_least n m z s e)

  pub settles : AllReal xs → length xs ≤ limit → (n : ℕ) × Settles xs n × (n ≤ ceiling_of xs)
  settles a l =
      let c = ceiling_of xs in
      let (s, e) = ceiling_enough c xs a l (le_refl c) in (
        (ran_from c 0 xs).steps,
        record { decides = (s, ap verdict_of (sym (ran_left c xs)) ∙ sym (ran_verdict c xs) ∙ e); before = ran_before c xs },
        ceiling_steps c xs a l,
      )

  -- ---- a run with the budget b
  module _ (n : ℕ) (z : Settles xs n) (b : ℕ) where
    abbrev verdict : Option Sign
    verdict = (ran_from b 0 xs).verdict

    abbrev steps : ℕ
    steps = (ran_from b 0 xs).steps

    look : verdict ≡ verdict_of (after steps xs)
    look = ran_verdict b xs ∙ ap verdict_of (ran_left b xs)

    -- it takes no more steps than settle the list
    steps_most : steps ≤ n
    steps_most = let (s, e) = z.decides in elim (lt_or_le n steps) [ inl h ↦ not_both e (ran_before b xs n h) | inr h ↦ h ]

    pub settled_enough : n ≤ b → (steps ≡ n) × ((s : Sign) × (verdict ≡ Some s))
    settled_enough h = go verdict (sym look) (ran_spent b xs)
      where
        go : (v : Option Sign) → verdict_of (after steps xs) ≡ v → (v ≡ None → steps ≡ b) → (steps ≡ n) × ((s : Sign) × (v ≡ Some s))
        go (Some s) e spent = (le_antisymm steps_most (settles_least n steps z s e), (s, refl_of s))
          where
            refl_of : (s : Sign) → Some s ≡ Some s
            refl_of s = cc
        go None e spent =
            let (s, d) = z.decides in
            let same : steps ≡ n = le_antisymm steps_most (subst (λ (k : ℕ). n ≤ k) (sym (spent cc)) h) in
            not_both d (ap (λ (k : ℕ). verdict_of (after k xs)) (sym same) ∙ e)

    pub settled_short : b < n → (steps ≡ b) × (verdict ≡ None)
    settled_short h = go verdict look (ran_spent b xs)
      where
        go : (v : Option Sign) → v ≡ verdict_of (after steps xs) → (v ≡ None → steps ≡ b) → (steps ≡ b) × (v ≡ None)
        go (Some s) e spent = not_both (sym e) (z.before steps (below (ran_steps_most b xs)))
          where
            below : steps ≤ b → steps < n
            below l = omega arith
        go None e spent = (spent cc, cc)

    pub settled_steps : steps ≡ min b n
    settled_steps = elim (lt_or_le b n) [
      | inl h ↦ omega (arith, (settled_short h).0)
      | inr h ↦ omega (arith, (settled_enough h).0)
    ]

    pub settled_left : (ran_from b 0 xs).left ≡ after (min b n) xs
    settled_left = ran_left b xs ∙ ap (λ (k : ℕ). after k xs) settled_steps
