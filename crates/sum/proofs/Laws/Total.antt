-- The exact total of a list, and numbers of its entries added, under a step. In order: the total after a `set`; the two slots of a step;
-- what the slots' new entries do to a sum and to the total; a step keeps the total. Not here: what the entries become (`Step`); the
-- total's sign (`Sign`). Assumes nothing.
use mathlib.Core.Path.{◌≡◌, sym, ap, ◌∙◌}
use mathlib.Core.Bool.{true, false}
use mathlib.Core.List.{List, [], ◌∷◌}
use Prim.Native.Nat.{ℕ, zero, suc, ◌+◌, ◌<◌}
use native.Mathlib.Omega.{arith}
use lib.IntN.{ℤ, ◌+ℤ◌, +ℤ_assoc}
use lib.ListN.{length, get_or, set}
use lib.Seq.{lt-length-set, get_or-set_other}
use lib.Ieee.{Float}
use Rattle.whole.proofs.Laws.Linear.{ints, int_rules}
use Rattle.double.specs.Worth.{worth, plus0}
use Rattle.sum.specs.Total.{total_of}
use Rattle.sum.specs.Look.{extreme_of, index_of, verdict_of}
use Rattle.sum.specs.Step.{put, step_of}
use Rattle.sum.proofs.Laws.Entries.{AllReal, sum_of, sum_set}
use Rattle.sum.proofs.Laws.Extremes.{extreme, extreme_apart}
use Rattle.sum.proofs.Laws.Verdict.{Open, undecided_open}
use Rattle.sum.proofs.Laws.Step.{step_cases}
use Rattle.std.specs.Prelude.{None}

pub total_set : (xs : List Float) (i : ℕ) (u d : Float) → i < length xs
    → total_of (set xs i u) +ℤ worth (get_or xs i d) ≡ total_of xs +ℤ worth u
unfolding total_of
total_set [] i u d h = absurd (omega arith)
total_set (x ∷ xs) zero u d h = swap (worth u) (total_of xs) (worth x)
  where
    swap : (a b c : ℤ) → (a +ℤ b) +ℤ c ≡ (c +ℤ b) +ℤ a
    swap a b c = ints (a ∷ b ∷ c ∷ []) (λ ρ v n m. simp (int_rules, v 0, v 1, v 2) (omega arith))
total_set (x ∷ xs) (suc i) u d h =
    +ℤ_assoc (worth x) (total_of (set xs i u)) (worth (get_or xs i d)) ∙ ap (λ (z : ℤ). worth x +ℤ z) (total_set xs i u d (omega arith))
    ∙ sym (+ℤ_assoc (worth x) (total_of xs) (worth u))

-- ---- the two slots of a step: u goes where the greatest positive entry is, v where the most negative one is

module _ (xs : List Float) (a : AllReal xs) (o : Open xs) (u v : Float) where
  abbrev i : ℕ
  i = index_of false xs

  abbrev j : ℕ
  j = index_of true xs

  abbrev ys : List Float
  ys = set xs i u

  i_in : i < length xs
  i_in = (extreme false xs a).inside o.positives

  j_in : j < length ys
  j_in = lt-length-set xs i u ((extreme true xs a).inside o.negatives)

  i_is : get_or xs i plus0 ≡ extreme_of false xs
  i_is = (extreme false xs a).entry plus0 o.positives

  j_is : get_or ys j plus0 ≡ extreme_of true xs
  j_is =
      get_or-set_other xs i j u plus0 (λ e. extreme_apart xs a o.positives o.negatives (sym e))
      ∙ (extreme true xs a).entry plus0 o.negatives

  pub put_sum : (g : Float → ℕ) → sum_of g (put xs u v) + (g (extreme_of false xs) + g (extreme_of true xs)) ≡ sum_of g xs + (g u + g v)
  put_sum g =
      join (sum_of g xs) (sum_of g ys) (sum_of g (put xs u v)) (g (extreme_of false xs)) (g (extreme_of true xs)) (g u) (g v)
      (rw i_is at (sum_set g xs i u plus0 i_in)) (rw j_is at (sum_set g ys j v plus0 j_in))
    where
      join : (s t r p q u v : ℕ) → t + p ≡ s + u → r + q ≡ t + v → r + (p + q) ≡ s + (u + v)
      join s t r p q u v e f = omega arith

  pub put_total : total_of (put xs u v) +ℤ (worth (extreme_of false xs) +ℤ worth (extreme_of true xs)) ≡ total_of xs +ℤ (worth u +ℤ worth v)
  put_total =
      join (total_of xs) (total_of ys) (total_of (put xs u v)) (worth (extreme_of false xs)) (worth (extreme_of true xs)) (worth u) (worth v)
      (rw i_is at (total_set xs i u plus0 i_in)) (rw j_is at (total_set ys j v plus0 j_in))
    where
      join : (s t r p q u v : ℤ) → t +ℤ p ≡ s +ℤ u → r +ℤ q ≡ t +ℤ v → r +ℤ (p +ℤ q) ≡ s +ℤ (u +ℤ v)
      join s t r p q u v =
          ints (s ∷ t ∷ r ∷ p ∷ q ∷ u ∷ v ∷ [])
          (λ ρ v n m. simp (int_rules, v 0, v 1, v 2, v 3, v 4, v 5, v 6) (omega arith))

-- ---- a step leaves the exact total as it is
pub step_total : (xs : List Float) → verdict_of xs ≡ None → AllReal xs → total_of (step_of xs) ≡ total_of xs
step_total xs e a =
    let (u, v, w) = step_cases xs e a in
    ap total_of w.list
    ∙ cancel (total_of xs) (total_of (put xs u v)) (worth (extreme_of false xs) +ℤ worth (extreme_of true xs)) (worth u +ℤ worth v)
    (put_total xs a (undecided_open xs e) u v) w.becomes.exact
  where
    cancel : (s r p u : ℤ) → r +ℤ p ≡ s +ℤ u → u ≡ p → r ≡ s
    cancel s r p u = ints (s ∷ r ∷ p ∷ u ∷ []) (λ ρ v n m. simp (int_rules, v 0, v 1, v 2, v 3) (omega arith))
