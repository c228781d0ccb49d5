-- Every step of an undecided list lowers its weight, so the weight bounds the steps. In order: a number of d digits
-- fewer; what one entry weighs
-- (`share`), and how much less an entry d digits smaller weighs; a step keeps the grain and lowers the weight by one at least; a run takes
-- no more steps than the weight, and decides where the budget is no less; the same for the ceiling. The list is no longer than 2 ^ k, and
-- the divisor 53 - k. Not here: the grain of a list (`Grain`), what the ceiling is at most (`Ceiling`). Assumes nothing.
use mathlib.Core.Path.{◌≡◌, refl, sym, ap, ◌∙◌, subst}
use mathlib.Core.Bool.{Bool, true, false}
use mathlib.Core.List.{List, [], ◌∷◌}
use mathlib.Core.Logic.{inl, inr}
use Prim.Native.Nat.{ℕ, zero, suc, ◌+◌, ◌-◌, ◌*◌, ◌/◌, ◌^◌, ◌≤◌, ◌<◌, ◌∣◌, zero-le}
use native.Mathlib.Nat.{le_trans, le_antisymm, le_of_eq, le_of_lt, lt_of_le_of_lt, zero-lt-suc, add-zero, mul_right_comm, mul-le-mul_right}
use native.Mathlib.Nat.{lt_of_mul-lt-mul_right, div-mul-le_self, div-mul_cancel}
use native.Mathlib.Omega.{arith}
use lib.Dec.{lit<, lit≤}
use lib.ListN.{length, set}
use lib.Pow.{shr_mono}
use lib.Ieee.{Float, binary64, prec, size}
use lib.Ieee.Digits.{size-le}
use Rattle.whole.specs.Sign.{sgn}
use Rattle.double.specs.Worth.{mag, plus0}
use Rattle.double.proofs.Laws.Digits.{size_mono, size_gt, size_scale}
use Rattle.sum.specs.Limit.{limit, power}
use Rattle.sum.specs.Look.{count_of, extreme_of, index_of, verdict_of}
use Rattle.sum.specs.Step.{put, step_of}
use Rattle.sum.specs.Total.{total_of}
use Rattle.sum.specs.Run.{ran_from, decision, sign}
use Rattle.sum.specs.Ceiling.{grain_of, round_up, weight_of, ceiling_of}
use Rattle.sum.specs.declared.answer.Sign.{Sign}
use Rattle.sum.proofs.Laws.Entries.{All, AllReal, all_at, all_set, sum_of}
use Rattle.sum.proofs.Laws.Extremes.{extreme}
use Rattle.sum.proofs.Laws.Verdict.{undecided_open}
use Rattle.sum.proofs.Laws.Step.{step_cases, step_real, step_length}
use Rattle.sum.proofs.Laws.Total.{put_sum}
use Rattle.sum.proofs.Laws.Runs.{ran_verdict, ran_spent, ran_keeps}
use Rattle.sum.proofs.Laws.Sign.{ran_sign}
use Rattle.sum.proofs.Laws.Grain.{grain_divides}
use Rattle.sum.proofs.Laws.RoundUp.{round_mono, round_drops, round_zero, round_some}
use Rattle.std.specs.Prelude.{None, Option, Some}

-- ---- digits
size_zero : size 0 ≡ 0
size_zero = le_antisymm (size-le 0 0 (lit< tt)) zero-le

module _ (d : ℕ) (D : 0 < d) where
  -- y is smaller than b by d digits, b a multiple of 2 ^ j
  quotient_drops : (j y b : ℕ) → y * 2 ^ d < b → 2 ^ j ∣ b → y / 2 ^ j * 2 ^ d < b / 2 ^ j
  quotient_drops j y b h g =
      lt_of_mul-lt-mul_right (2 ^ j)
      (lt_of_le_of_lt
      (le_trans (le_of_eq (mul_right_comm (y / 2 ^ j) (2 ^ d) (2 ^ j))) (mul-le-mul_right (2 ^ d) (div-mul-le_self y (2 ^ j))))
      (subst (λ (z : ℕ). y * 2 ^ d < z) (sym (div-mul_cancel (2 ^ j) g)) h))

  -- so it has d digits fewer, or none
  length_drops : (y b : ℕ) → y * 2 ^ d < b → round_up d (size y) + 1 ≤ round_up d (size b)
  length_drops zero b h =
      le_trans (le_of_eq (ap (λ (z : ℕ). round_up d z + 1) size_zero ∙ ap (λ (z : ℕ). z + 1) (round_zero d D)))
      (round_some d D (size_gt b 0 (lt_of_le_of_lt zero-le h)))
  length_drops (suc y) b h =
      round_drops d D (size (suc y)) (size b) (le_trans (le_of_eq (sym (size_scale (suc y) d (zero-lt-suc y)))) (size_mono (le_of_lt h)))

-- ---- what an entry weighs

share : ℕ → ℕ → Float → ℕ
share d j x = round_up d (size (mag binary64 x / 2 ^ j))

weight_is : (d j : ℕ) (xs : List Float) → weight_of d j xs ≡ sum_of (share d j) xs
unfolding weight_of sum_of share
weight_is d j [] = refl
weight_is d j (x ∷ xs) = ap (λ (n : ℕ). round_up d (size (mag binary64 x / 2 ^ j)) + n) (weight_is d j xs)

module _ (d j : ℕ) (D : 0 < d) where
  -- no more than what is no smaller
  share_mono : (x y : Float) → mag binary64 x ≤ mag binary64 y → share d j x ≤ share d j y
  unfolding share
  share_mono x y h = round_mono d D (size_mono (shr_mono j h))

  -- less than what is larger by d digits
  share_drops : (y b : Float) → mag binary64 y * 2 ^ d < mag binary64 b → 2 ^ j ∣ mag binary64 b → share d j y + 1 ≤ share d j b
  unfolding share
  share_drops y b h g =
      length_drops d D (mag binary64 y / 2 ^ j) (mag binary64 b / 2 ^ j) (quotient_drops d D j (mag binary64 y) (mag binary64 b) h g)

-- ---- a step

-- 2 ^ j units divide every entry
abbrev pub Grained : ℕ → List Float → Type 0
Grained j xs = All (λ x. 2 ^ j ∣ mag binary64 x) xs

module _ (j : ℕ) (xs : List Float) (a : AllReal xs) (g : Grained j xs) where
  -- an extreme is an entry
  extreme_grained : (s : Bool) → 0 < count_of s xs → 2 ^ j ∣ mag binary64 (extreme_of s xs)
  extreme_grained s h =
      let r = extreme s xs a in
      subst (λ (x : Float). 2 ^ j ∣ mag binary64 x) (r.entry plus0 h)
      (all_at (λ x. 2 ^ j ∣ mag binary64 x) xs (index_of s xs) plus0 g (r.inside h))

  pub step_grained : verdict_of xs ≡ None → Grained j (step_of xs)
  step_grained e =
      let o = undecided_open xs e in
      let (u, v, w) = step_cases xs e a in
      let (du, dv) = w.becomes.grain j (extreme_grained false o.positives) (extreme_grained true o.negatives) in
      let P : Float → Type 0 = λ x. 2 ^ j ∣ mag binary64 x in
      subst (All P) (sym w.list)
      (all_set P (set xs (index_of false xs) u) (index_of true xs) v (all_set P xs (index_of false xs) u g du) dv)

  -- a list of at most 2 ^ k entries weighs less after a step
  pub step_weight : (k : ℕ) → k < prec binary64 → length xs ≤ 2 ^ k → verdict_of xs ≡ None
      → weight_of (prec binary64 - k) j (step_of xs) + 1 ≤ weight_of (prec binary64 - k) j xs
  step_weight k K l e =
      let d = prec binary64 - k in
      let o = undecided_open xs e in
      let (u, v, w) = step_cases xs e a in
      let p = extreme_of false xs in
      let q = extreme_of true xs in
      let D : 0 < d = part_pos k (prec binary64) K in
      let few : (s : Bool) → count_of s xs ≤ 2 ^ k = λ s. le_trans (extreme s xs a).count l in
      let h = w.becomes.shrinks d k (part_is k (prec binary64) K) (few false) (few true) in
      let sums = put_sum xs a o u v (share d j) in
      subst (λ (n : ℕ). n + 1 ≤ weight_of d j xs) (sym (ap (weight_of d j) w.list ∙ weight_is d j (put xs u v)))
      (subst (λ (n : ℕ). sum_of (share d j) (put xs u v) + 1 ≤ n) (sym (weight_is d j xs))
      (elim h [
        | inl c ↦
            fewer (sum_of (share d j) (put xs u v)) (sum_of (share d j) xs) (share d j p) (share d j q) (share d j u) (share d j v) sums
            (share_mono d j D u p c.0) (share_drops d j D v q c.1 (extreme_grained true o.negatives))
        | inr c ↦
            less (sum_of (share d j) (put xs u v)) (sum_of (share d j) xs) (share d j p) (share d j q) (share d j u) (share d j v) sums
            (share_drops d j D u p c.0 (extreme_grained false o.positives)) (share_mono d j D v q c.1)
      ]))
    where
      part_pos : (k p : ℕ) → k < p → 0 < p - k
      part_pos k p h = omega arith

      part_is : (k p : ℕ) → k < p → p ≡ p - k + k
      part_is k p h = omega arith

      fewer : (s t p q u v : ℕ) → s + (p + q) ≡ t + (u + v) → u ≤ p → v + 1 ≤ q → s + 1 ≤ t
      fewer s t p q u v e f g = omega arith

      less : (s t p q u v : ℕ) → s + (p + q) ≡ t + (u + v) → u + 1 ≤ p → v ≤ q → s + 1 ≤ t
      less s t p q u v e f g = omega arith

-- ---- a run

module _ (k j : ℕ) (K : k < prec binary64) where
  -- ys is reached from xs by i steps
  record Falls (xs : List Float) (i : ℕ) (ys : List Float) : Type 0 where
    real : AllReal ys
    short : length ys ≤ 2 ^ k
    grained : Grained j ys
    weight : weight_of (prec binary64 - k) j ys + i ≤ weight_of (prec binary64 - k) j xs

  -- what any budget leaves
  falls : (b : ℕ) (xs : List Float) → AllReal xs → length xs ≤ 2 ^ k → Grained j xs
      → Falls xs (ran_from b 0 xs).steps (ran_from b 0 xs).left
  falls b xs a l g =
      ran_keeps (Falls xs)
      (λ i ys e r. record {
        real = step_real ys e r.real;
        short = le_trans (le_of_eq (step_length ys)) r.short;
        grained = step_grained j ys r.real r.grained e;
        weight = next (W (step_of ys)) (W ys) (W xs) i (step_weight j ys r.real r.grained k K r.short e) r.weight;
      })
      b xs (record { real = a; short = l; grained = g; weight = le_of_eq (add-zero (W xs)) })
    where
      W : List Float → ℕ
      W ys = weight_of (prec binary64 - k) j ys

      next : (s t w i : ℕ) → s + 1 ≤ t → t + i ≤ w → s + suc i ≤ w
      next s t w i h g = omega arith

  module _ (b : ℕ) (xs : List Float) (a : AllReal xs) (l : length xs ≤ 2 ^ k) (g : Grained j xs) where
    pub ran_steps : (ran_from b 0 xs).steps ≤ weight_of (prec binary64 - k) j xs
    ran_steps =
        least (weight_of (prec binary64 - k) j (ran_from b 0 xs).left) (ran_from b 0 xs).steps (weight_of (prec binary64 - k) j xs)
        (falls b xs a l g).weight
      where
        least : (s i w : ℕ) → s + i ≤ w → i ≤ w
        least s i w h = omega arith

    -- with a budget of the ceiling or more a run decides
    pub ran_decides : weight_of (prec binary64 - k) j xs ≤ b → (s : Sign) × ((ran_from b 0 xs).verdict ≡ Some s)
    ran_decides h = go (ran_from b 0 xs).verdict refl
      where
        ys : List Float
        ys = (ran_from b 0 xs).left

        spent : (s t i w : ℕ) → s + 1 ≤ t → t + i ≤ w → i ≡ b → w ≤ b → ⊥
        spent s t i w f g e h = omega arith

        -- undecided, the whole budget is spent, and nothing is left for a further step to take away
        never : (ran_from b 0 xs).verdict ≡ None → ⊥
        never e =
            let r = falls b xs a l g in
            spent (weight_of (prec binary64 - k) j (step_of ys)) (weight_of (prec binary64 - k) j ys) (ran_from b 0 xs).steps
            (weight_of (prec binary64 - k) j xs)
            (step_weight j ys r.real r.grained k K r.short (sym (ran_verdict b xs) ∙ e)) r.weight (ran_spent b xs e) h

        go : (v : Option Sign) → (ran_from b 0 xs).verdict ≡ v → (s : Sign) × ((ran_from b 0 xs).verdict ≡ Some s)
        go (Some s) e = (s, e)
        go None e = absurd (never e)

-- ---- the ceiling

module _ (budget : ℕ) (xs : List Float) (a : AllReal xs) (short : length xs ≤ limit) where
  -- no run takes more steps than the ceiling
  pub ceiling_steps : (ran_from budget 0 xs).steps ≤ ceiling_of xs
  unfolding ceiling_of
  ceiling_steps = ran_steps power (grain_of xs) (lit< tt) budget xs a short (grain_divides xs)

  -- a budget that is no less is enough
  pub ceiling_enough : ceiling_of xs ≤ budget → (s : Sign) × ((ran_from budget 0 xs).verdict ≡ Some s)
  unfolding ceiling_of
  ceiling_enough = ran_decides power (grain_of xs) (lit< tt) budget xs a short (grain_divides xs)

  -- and the answer is the exact total's sign
  pub ceiling_sign : ceiling_of xs ≤ budget → decision (ran_from budget 0 xs).verdict ≡ sign (sgn (total_of xs))
  ceiling_sign h =
      let (s, e) = ceiling_enough h in
      ap decision e ∙ ap sign (ran_sign budget xs a s (le_trans short (lit≤ tt)) e)
