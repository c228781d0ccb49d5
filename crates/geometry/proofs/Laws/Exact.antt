-- Stage 3 of a side: the sum rule on the twelve summands, by what `sum` promises of a run. In order: the stage; the answer's sign is the
-- determinant's, and its steps are at most 480; what the code makes of the run's answer.
-- Not here: the total and the ceiling of the summands (`Summands`); that a run to the end decides (`ToTheEnd`). Assumes nothing.
use mathlib.Core.Path.{◌≡◌, refl, sym, ap, ◌∙◌, subst}
use mathlib.Core.List.{List}
use Prim.Native.Nat.{ℕ, ◌≤◌}
use native.Mathlib.Nat.{le_trans, le_of_eq}
use lib.Dec.{lit≤}
use lib.IntN.{ℤ}
use lib.ListN.{length}
use lib.Ieee.{Float}
use Rattle.whole.specs.Sign.{sgn}
use Rattle.refusal.specs.Outcome.{Outcome, answers, refuses}
use Rattle.point.specs.declared.Point.{Point}
use Rattle.point.specs.Accepted.{reach}
use Rattle.point.specs.Spot.{determinant}
use Rattle.point.proofs.Laws.Within.{Within}
use Rattle.sum.specs.Limit.{limit}
use Rattle.sum.specs.Run.{most_budget, Told, run_of}
use Rattle.sum.proofs.Laws.Calls.{settled_told}
use Rattle.sum.proofs.Laws.Entries.{AllReal}
use Rattle.geometry.specs.Plane.{Counted, counted_by}
use Rattle.geometry.specs.Product.{summands_of}
use Rattle.geometry.specs.Side.{Turned, turned, most_steps, by_run, exact_of}
use Rattle.geometry.proofs.Laws.Summands.{summands_length, summands_real, summands_ceiling, summands_sign}

-- stage 3
pub exact_stage : (p q r : Point) → (exact_of p q r).stage ≡ 3
unfolding exact_of
exact_stage p q r = go (run_of (summands_of p q r) most_budget)
  where
    go : (o : Outcome Told) → (by_run o).stage ≡ 3
    go (answers t) = refl
    go (refuses n place) = refl

summands_short : (p q r : Point) → length (summands_of p q r) ≤ limit
summands_short p q r = le_trans (le_of_eq (summands_length p q r)) (lit≤ tt)

module _ (p q r : Point) (P : Within reach p) (Q : Within reach q) (R : Within reach r) where
  abbrev steps : ℕ
  steps = (settled_told (summands_of p q r) (summands_real p q r P Q R) (summands_short p q r)).0

  -- the run decides, with the sign of the summands' total and no more steps than their ceiling
  exact_is : exact_of p q r ≡ turned (sgn (determinant p q r)) 3 steps
  unfolding exact_of
  exact_is =
      ap by_run (settled_told (summands_of p q r) (summands_real p q r P Q R) (summands_short p q r)).1
      ∙ ap (λ (z : ℤ). turned z 3 steps) (summands_sign p q r P Q R)

  pub exact_sign : (exact_of p q r).sign ≡ sgn (determinant p q r)
  exact_sign = ap (λ (t : Turned). t.sign) exact_is

  pub exact_steps : (exact_of p q r).steps ≤ most_steps
  exact_steps =
      subst (λ (n : ℕ). n ≤ most_steps) (sym (ap (λ (t : Turned). t.steps) exact_is))
      (le_trans (settled_told (summands_of p q r) (summands_real p q r P Q R) (summands_short p q r)).2 (summands_ceiling p q r P Q R))

-- ---- what the code makes of a run to the end, on these summands
by_run_counted : (o : Outcome Told) → turned (counted_by o).sign 3 (counted_by o).steps ≡ by_run o
by_run_counted (answers t) = refl
by_run_counted (refuses n place) = refl

module _ (p q r : Point) {xs : List Float} (e : xs ≡ summands_of p q r) where
  pub exact_real : Within reach p → Within reach q → Within reach r → AllReal xs × (length xs ≤ limit)
  exact_real P Q R = rw e (summands_real p q r P Q R, summands_short p q r)

  pub exact_counted : {t : Counted} → t ≡ counted_by (run_of xs most_budget) → turned t.sign 3 t.steps ≡ exact_of p q r
  unfolding exact_of
  exact_counted {t} d =
      ap (λ (t : Counted). turned t.sign 3 t.steps) d ∙ by_run_counted (run_of xs most_budget)
      ∙ ap (λ (ys : List Float). by_run (run_of ys most_budget)) e
