-- The 96 summands of four points with heights. In order: how many; over the reach k of the coordinates, that each product is one of such
-- coordinates, and from it that the summands are doubles, that their total is the determinant, and their ceiling; the same for accepted points,
-- and the sign; the sum rule on them. Not here: one product (`Opened`); the determinant by its rows (ground's `Space`). Assumes nothing.
use mathlib.Core.Path.{◌≡◌, refl, sym, ap, ap₂, ◌∙◌, subst}
use mathlib.Core.List.{List, [], ◌++◌}
use Prim.Native.Nat.{ℕ, ◌+◌, ◌-◌, ◌*◌, ◌^◌, ◌≤◌}
use native.Mathlib.Nat.{le_trans, le_of_eq}
use native.Mathlib.Omega.{arith}
use lib.Dec.{lit≤}
use lib.IntN.{ℤ, ◌*ℤ◌, *ℤ_comm}
use lib.ListN.{length}
use lib.Pow.{pow_pos}
use lib.Ieee.{Float, neg}
use Rattle.whole.specs.Sign.{sgn}
use Rattle.whole.proofs.Laws.Parts.{pos-<}
use Rattle.whole.proofs.Laws.Sign.{sgn_scale}
use Rattle.ground.proofs.Laws.Space.{products}
use Rattle.double.proofs.Laws.Sized.{Reach}
use Rattle.double.proofs.Laws.Negated.{sized_neg, worth_neg}
use Rattle.point.specs.declared.HighPoint.{HighPoint}
use Rattle.point.specs.Spot.{unit}
use Rattle.point.specs.High.{high_reach, high_spot_of, high_determinant}
use Rattle.point.proofs.Laws.Within.{HighWithin}
use Rattle.sum.specs.Limit.{limit, divisor}
use Rattle.sum.specs.Total.{total_of}
use Rattle.sum.specs.Ceiling.{round_up, ceiling_of}
use Rattle.sum.specs.Run.{Settles}
use Rattle.sum.proofs.Laws.Entries.{AllReal, all_map}
use Rattle.sum.proofs.Laws.Ceiling.{ceiling_sized}
use Rattle.sum.proofs.Laws.Calls.{settled_told}
use Rattle.geometry.specs.Plane.{Three, products_of, opened, Counted, counted, counted_by, summed_of, most_ceiling}
use Rattle.geometry.specs.Parts.{summands, six_from}
use Rattle.geometry.proofs.Laws.Opened.{AllReached, open_grain, open_most, opened_sized, opened_sum}

pub opened_length : (p q r s : HighPoint) → length (opened (products_of p q r s)) ≡ summands
unfolding opened
opened_length p q r s = refl

-- ---- over the reach k
module _ (k : ℕ) (room : k ≤ 306) (p q r s : HighPoint) (P : HighWithin k p) (Q : HighWithin k q) (R : HighWithin k r) (S : HighWithin k s) where
  from : (ts : List Three) {x turned : Float} {a b c : HighPoint} → Reach k x → Reach k turned → HighWithin k a → HighWithin k b
      → HighWithin k c → AllReached k ts → AllReached k (six_from x turned a b c ++ ts)
  from ts X T A B C rest = (
    record { x = X; y = A.y; height = B.height },
    (
      record { x = T; y = A.y; height = C.height },
      (
        record { x = T; y = B.y; height = A.height },
        (
          record { x = X; y = B.y; height = C.height },
          (
            record { x = X; y = C.y; height = A.height },
            (record { x = T; y = C.y; height = B.height }, rest),
          ),
        ),
      ),
    ),
  )

  all_reached : AllReached k (products_of p q r s)
  all_reached =
      let of_s = six_from (neg s.x) s.x p q r in
      let of_r = six_from r.x (neg r.x) p q s ++ of_s in
      let of_q = six_from (neg q.x) q.x p r s ++ of_r in
      from of_q P.x (sized_neg P.x) Q R S
      (from of_r (sized_neg Q.x) Q.x P R S
      (from of_s R.x (sized_neg R.x) P Q S
      (from [] (sized_neg S.x) S.x P Q R tt)))

  real_within : AllReal (opened (products_of p q r s))
  real_within = all_map (λ x r. r.real) (opened (products_of p q r s)) (opened_sized k room (products_of p q r s) all_reached)

  -- in cubes of units
  total_within : total_of (opened (products_of p q r s)) *ℤ unit *ℤ unit ≡ high_determinant p q r s
  total_within =
      opened_sum k room (products_of p q r s) all_reached
      ∙ rw (worth_neg p.x P.x.real, worth_neg q.x Q.x.real, worth_neg r.x R.x.real, worth_neg s.x S.x.real)
      (products (high_spot_of p) (high_spot_of q) (high_spot_of r) (high_spot_of s))

  ceiling_within : ceiling_of (opened (products_of p q r s)) ≤ summands * round_up divisor (157 + 6 * k)
  ceiling_within =
      le_trans (ceiling_sized (open_grain k) (open_most k) (omega arith) (opened (products_of p q r s))
      (opened_sized k room (products_of p q r s) all_reached))
      (le_of_eq (ap₂ (λ (n m : ℕ). n * round_up divisor m) (opened_length p q r s) (span k room)))
    where
      span : (k : ℕ) → k ≤ 306 → open_most k + 1 - open_grain k ≡ 157 + 6 * k
      span k h = omega arith

-- ---- accepted points: what `high_accepted_within` of point gives
module _ (p q r s : HighPoint) (P : HighWithin high_reach p) (Q : HighWithin high_reach q) (R : HighWithin high_reach r)
    (S : HighWithin high_reach s) where
  pub opened_real : AllReal (opened (products_of p q r s))
  opened_real = real_within high_reach (lit≤ tt) p q r s P Q R S

  pub opened_short : length (opened (products_of p q r s)) ≤ limit
  opened_short = le_trans (le_of_eq (opened_length p q r s)) (lit≤ tt)

  pub opened_total : total_of (opened (products_of p q r s)) *ℤ unit *ℤ unit ≡ high_determinant p q r s
  opened_total = total_within high_reach (lit≤ tt) p q r s P Q R S

  pub opened_sign : sgn (total_of (opened (products_of p q r s))) ≡ sgn (high_determinant p q r s)
  opened_sign =
      let t : ℤ = total_of (opened (products_of p q r s)) in
      sym (unscaled t) ∙ sym (unscaled (t *ℤ unit)) ∙ ap sgn opened_total
    where
      unscaled : (z : ℤ) → sgn (z *ℤ unit) ≡ sgn z
      unscaled z = ap sgn (*ℤ_comm z unit) ∙ sgn_scale unit z ((pos-< 0 (2 ^ 1074)).1 (pow_pos 1074))

  -- 96 times 46
  pub opened_ceiling : ceiling_of (opened (products_of p q r s)) ≤ most_ceiling
  opened_ceiling = le_trans (ceiling_within high_reach (lit≤ tt) p q r s P Q R S) (lit≤ tt)

  -- ---- the sum rule on them
  summed_is : summed_of p q r s
      ≡ counted (sgn (high_determinant p q r s)) (settled_told (opened (products_of p q r s)) opened_real opened_short).0
  unfolding summed_of
  summed_is =
      let run = settled_told (opened (products_of p q r s)) opened_real opened_short in
      ap counted_by run.1 ∙ ap (λ (z : ℤ). counted z run.0) opened_sign

  pub summed_sign : (summed_of p q r s).sign ≡ sgn (high_determinant p q r s)
  summed_sign = ap (λ (c : Counted). c.sign) summed_is

  pub summed_steps : (summed_of p q r s).steps ≤ ceiling_of (opened (products_of p q r s))
  summed_steps =
      subst (λ (n : ℕ). n ≤ ceiling_of (opened (products_of p q r s))) (sym (ap (λ (c : Counted). c.steps) summed_is))
      (settled_told (opened (products_of p q r s)) opened_real opened_short).2

  -- just those that settle the summands
  pub summed_settles : Settles (opened (products_of p q r s)) (summed_of p q r s).steps
  summed_settles =
      subst (Settles (opened (products_of p q r s))) (sym (ap (λ (c : Counted). c.steps) summed_is))
      (settled_told (opened (products_of p q r s)) opened_real opened_short).3
