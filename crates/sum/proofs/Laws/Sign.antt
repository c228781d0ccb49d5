-- The sign that a list's look decides is that of the exact total. In order: the total as a difference of what lies on each side; how much
-- that is, at least the extreme and at most the count times the extreme; the verdict (`verdict_sign`); the run, whose steps keep the total
-- (`ran_total`, `ran_sign`). Not here: that a run decides (`Descent`). Assumes nothing.
use mathlib.Core.Path.{◌≡◌, refl, sym, ap, ◌∙◌, subst}
use mathlib.Core.Bool.{Bool, true, false, not, cond}
use mathlib.Core.List.{List, [], ◌∷◌}
use Prim.Native.Nat.{ℕ, ◌+◌, ◌*◌, ◌^◌, ◌≤◌, ◌<◌, zero-le}
use native.Mathlib.Nat.{le_trans, le_of_eq, lt_of_le_of_lt, lt_of_lt_of_le, zero-mul}
use native.Mathlib.Omega.{arith}
use lib.Dec.{T, ltb, nltb→le}
use lib.IntN.{ℤ, pos, neg_ℤ, ◌-ℤ◌}
use lib.ListN.{length}
use lib.Ieee.{Float, binary64, prec, neg}
use Rattle.whole.specs.Sign.{sgn}
use Rattle.whole.proofs.Laws.Parts.{up, dn, add_parts, up_neg, dn_neg, ≡_parts}
use Rattle.whole.proofs.Laws.Sign.{sgn_nat_positive, sgn_nat_zero, sgn_nat_negative}
use Rattle.double.specs.Worth.{worth, plus0}
use Rattle.double.proofs.Laws.Worth.{worth_up, worth_dn}
use Rattle.double.proofs.Laws.Signed.{Split, neg_split}
use Rattle.double.proofs.Laws.Decision.{decision_greater}
use Rattle.sum.specs.Total.{total_of, sign_number}
use Rattle.sum.specs.Look.{on_side, count_of, extreme_of, index_of, verdict_of}
use Rattle.sum.specs.Run.{ran_from}
use Rattle.sum.specs.declared.answer.Sign.{Sign}
use Rattle.sum.specs.declared.answer.Sign.TheVariants.{Minus, Zero, Plus}
use Rattle.sum.proofs.Laws.Entries.{All, AllReal, all_of, sum_of, sum_at}
use Rattle.sum.proofs.Laws.Extremes.{far, side_is, extreme}
use Rattle.sum.proofs.Laws.Runs.{ran_verdict, ran_keeps}
use Rattle.sum.proofs.Laws.Step.{step_real, step_length}
use Rattle.sum.proofs.Laws.Total.{step_total}
use Rattle.sum.proofs.Laws.Verdict.{Found, neither, positive, negative, greater, less, close, verdict_found}
use Rattle.std.specs.Prelude.{None, Option, Some}

-- ---- the total by what lies on each side

far_up : (x : Float) → up (worth x) ≡ far false x
unfolding far
far_up x = worth_up x

far_dn : (x : Float) → dn (worth x) ≡ far true x
unfolding far
far_dn x = worth_dn x

total_parts : (xs : List Float) → up (total_of xs) + sum_of (far true) xs ≡ dn (total_of xs) + sum_of (far false) xs
unfolding total_of sum_of
total_parts [] = unfold up dn in refl
total_parts (x ∷ xs) = omega (arith, total_parts xs, add_parts (worth x) (total_of xs), far_up x, far_dn x)

difference : (z : ℤ) (P M : ℕ) → up z + M ≡ dn z + P → z ≡ pos P -ℤ pos M
unfolding up dn
difference z P M e = (≡_parts z (pos P -ℤ pos M)).1 (omega (arith, add_parts (pos P) (neg_ℤ (pos M)), up_neg (pos M), dn_neg (pos M)))

pub total_sides : (xs : List Float) → total_of xs ≡ pos (sum_of (far false) xs) -ℤ pos (sum_of (far true) xs)
total_sides xs = difference (total_of xs) (sum_of (far false) xs) (sum_of (far true) xs) (total_parts xs)

-- ---- how much lies on a side

module _ (s : Bool) where
  -- no entry is above c
  sum_under : (c : ℕ) (xs : List Float) → AllReal xs → All (λ x. far s x ≤ c) xs → sum_of (far s) xs ≤ count_of s xs * c
  unfolding sum_of count_of
  sum_under c [] a h = zero-le
  sum_under c (x ∷ xs) a h = go (on_side s x) (side_is s x a.0) (sum_under c xs a.1 h.1)
    where
      go : (b : Bool) → b ≡ ltb 0 (far s x) → sum_of (far s) xs ≤ count_of s xs * c
          → far s x + sum_of (far s) xs ≤ (cond b 1 0 + count_of s xs) * c
      go true e r = let l : far s x ≤ c = h.0 in omega arith
      go false e r =
          let l : far s x ≤ 0 = nltb→le 0 (far s x) (subst (λ (z : Bool). T (not z)) e tt) in
          omega arith

  -- at most the count times the extreme
  side_most : (xs : List Float) → AllReal xs → sum_of (far s) xs ≤ count_of s xs * far s (extreme_of s xs)
  side_most xs a =
      sum_under (far s (extreme_of s xs)) xs a
      (all_of (λ x. far s x ≤ far s (extreme_of s xs)) xs plus0 (λ i h. (extreme s xs a).most plus0 i h))

  -- at least the extreme
  side_least : (xs : List Float) → AllReal xs → 0 < count_of s xs → far s (extreme_of s xs) ≤ sum_of (far s) xs
  side_least xs a h =
      let r = extreme s xs a in
      subst (λ (x : Float). far s x ≤ sum_of (far s) xs) (r.entry plus0 h) (sum_at (far s) xs (index_of s xs) plus0 (r.inside h))

  side_some : (xs : List Float) → AllReal xs → 0 < count_of s xs → 0 < sum_of (far s) xs
  side_some xs a h = lt_of_lt_of_le ((extreme s xs a).found h) (side_least xs a h)

  side_none : (xs : List Float) → AllReal xs → count_of s xs ≡ 0 → sum_of (far s) xs ≡ 0
  side_none xs a e =
      none (sum_of (far s) xs) (le_trans (side_most xs a) (le_of_eq (ap (λ (m : ℕ). m * far s (extreme_of s xs)) e ∙ zero-mul _)))
    where
      none : (n : ℕ) → n ≤ 0 → n ≡ 0
      none n h = omega arith

-- ---- the verdict

-- what a verdict says of the total's sign
abbrev Says : Option Sign → ℤ → Type 0
Says (Some s) z = sign_number s ≡ sgn z
Says None z = Unit

module _ (xs : List Float) (a : AllReal xs) (short : length xs ≤ 2 ^ prec binary64) where
  abbrev P : ℕ
  P = sum_of (far false) xs

  abbrev M : ℕ
  M = sum_of (far true) xs

  -- by what lies on each side
  by_sides_lem : (v : Option Sign) → Says v (pos P -ℤ pos M) → Says v (total_of xs)
  by_sides_lem v h = subst (Says v) (sym (total_sides xs)) h

  p_split : Split false binary64 (extreme_of false xs) (far false (extreme_of false xs)) 0
  unfolding far
  p_split = let r = extreme false xs a in record { real = r.real; same = refl; other = r.only }

  q_split : Split false binary64 (neg (extreme_of true xs)) (far true (extreme_of true xs)) 0
  unfolding far
  q_split =
      let r = extreme true xs a in
      let s = neg_split false binary64 (extreme_of true xs) r.real in
      record { real = s.real; same = s.same; other = s.other ∙ r.only }

  counted : (s : Bool) → count_of s xs ≤ 2 ^ prec binary64
  counted s = le_trans (extreme s xs a).count short

  -- the smaller side is at most its count times its extreme, and the other at least its extreme
  outweighs : (s t : Bool) → 0 < count_of t xs → count_of s xs * far s (extreme_of s xs) < far t (extreme_of t xs)
      → sum_of (far s) xs < sum_of (far t) xs
  outweighs s t n h = lt_of_le_of_lt (side_most s xs a) (lt_of_lt_of_le h (side_least t xs a n))

  says : {v : (Option Sign)} → Found (count_of false xs) (count_of true xs) (extreme_of false xs) (neg (extreme_of true xs)) v → Says v (total_of xs)
  says (neither m n) = by_sides_lem (Some Zero) (sym ((sgn_nat_zero P M).1 (side_none false xs a m ∙ sym (side_none true xs a n))))
  says (positive m n) =
      by_sides_lem (Some Plus)
      (sym ((sgn_nat_positive P M).1 (subst (λ (k : ℕ). k < P) (sym (side_none true xs a n)) (side_some false xs a m))))
  says (negative m n) =
      by_sides_lem (Some Minus)
      (sym ((sgn_nat_negative P M).1 (subst (λ (k : ℕ). k < M) (sym (side_none false xs a m)) (side_some true xs a n))))
  says (greater m n t) =
      by_sides_lem (Some Plus) (sym ((sgn_nat_positive P M).1 (outweighs true false m
      (decision_greater binary64 (extreme_of false xs) (neg (extreme_of true xs)) (count_of true xs) (far false (extreme_of false xs))
      (far true (extreme_of true xs)) p_split q_split (counted true) t))))
  says (less m n t) =
      by_sides_lem (Some Minus) (sym ((sgn_nat_negative P M).1 (outweighs false true n
      (decision_greater binary64 (neg (extreme_of true xs)) (extreme_of false xs) (count_of false xs) (far true (extreme_of true xs))
      (far false (extreme_of false xs)) q_split p_split (counted false) t))))
  says (close m n t u) = tt

  -- a sign is that of the exact sum, whatever decides it
  pub verdict_sign : (s : Sign) → verdict_of xs ≡ Some s → sign_number s ≡ sgn (total_of xs)
  verdict_sign s e = subst (λ (v : Option Sign). Says v (total_of xs)) e (says (verdict_found xs))

-- ---- the run

-- ys is a list of doubles, as long as xs and with its total
record Kept (xs ys : List Float) : Type 0 where
  real : AllReal ys
  long : length ys ≡ length xs
  total : total_of ys ≡ total_of xs

module _ (budget : ℕ) (xs : List Float) (a : AllReal xs) where
  kept : Kept xs (ran_from budget 0 xs).left
  kept =
      ran_keeps (λ i ys. Kept xs ys)
      (λ i ys e k. record {
        real = step_real ys e k.real;
        long = step_length ys ∙ k.long;
        total = step_total ys e k.real ∙ k.total;
      })
      budget xs (record { real = a; long = refl; total = refl })

  -- the list that any budget leaves has the same exact total
  pub ran_total : total_of (ran_from budget 0 xs).left ≡ total_of xs
  ran_total = kept.total

  pub ran_sign : (s : Sign) → length xs ≤ 2 ^ prec binary64 → (ran_from budget 0 xs).verdict ≡ Some s → sign_number s ≡ sgn (total_of xs)
  ran_sign s h e =
      let ys = (ran_from budget 0 xs).left in
      verdict_sign ys kept.real (subst (λ (n : ℕ). n ≤ 2 ^ prec binary64) (sym kept.long) h) s (sym (ran_verdict budget xs) ∙ e)
      ∙ ap sgn kept.total
