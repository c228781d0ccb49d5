-- The twelve summands of stage 3. In order: six pairs that are the six products are the determinant, in whole numbers; the summands are
-- doubles of known grain and size, their total is the determinant, and their ceiling, all over the reach k of the coordinates; the same for
-- accepted points, and the sign.
-- Not here: one pair (`Product`); what the sum rule makes of the list (sum's `Descent`). Assumes nothing.
use mathlib.Core.Path.{◌≡◌, refl, sym, ap, ap₂, ◌∙◌}
use mathlib.Core.List.{[], ◌∷◌}
use Prim.Native.Nat.{ℕ, ◌+◌, ◌-◌, ◌*◌, ◌^◌, ◌≤◌}
use native.Mathlib.Nat.{le_trans, le_of_eq}
use native.Mathlib.Omega.{arith}
use lib.Dec.{lit≤}
use lib.IntN.{ℤ, pos, neg_ℤ, ◌+ℤ◌, ◌-ℤ◌, ◌*ℤ◌, *ℤ_comm}
use lib.ListN.{length}
use lib.Pow.{pow_pos}
use lib.Ieee.{Float, binary64, mul, neg}
use Rattle.whole.specs.Sign.{sgn}
use Rattle.whole.proofs.Laws.Parts.{pos-<}
use Rattle.whole.proofs.Laws.Ring.{◌:+◌, ◌:-◌, ◌:*◌, opp, num, solve}
use Rattle.whole.proofs.Laws.Sign.{sgn_scale}
use Rattle.double.specs.Worth.{worth}
use Rattle.double.proofs.Laws.Sized.{Sized}
use Rattle.double.proofs.Laws.Negated.{sized_neg, worth_neg}
use Rattle.point.specs.declared.Point.{Point}
use Rattle.point.specs.Accepted.{reach}
use Rattle.point.specs.Spot.{determinant, unit}
use Rattle.point.proofs.Laws.Within.{Within}
use Rattle.sum.specs.Total.{total_of}
use Rattle.sum.specs.Limit.{divisor}
use Rattle.sum.specs.Ceiling.{round_up, ceiling_of}
use Rattle.sum.proofs.Laws.Entries.{All, AllReal, all_map}
use Rattle.sum.proofs.Laws.Ceiling.{ceiling_sized}
use Rattle.sum.proofs.Laws.Calls.{total_none, total_more}
use Rattle.geometry.specs.Product.{roundoff_of, summands_of}
use Rattle.geometry.specs.Side.{most_steps}
use Rattle.geometry.proofs.Laws.Product.{Paired, pair_grain, pair_most, reach_paired}

pub summands_length : (p q r : Point) → length (summands_of p q r) ≡ 12
unfolding summands_of
summands_length p q r = refl

-- ---- the determinant from six pairs
-- twelve summands are six pairs
sum_of_pairs : (a b c d e f g h i j k l u : ℤ)
    → (a +ℤ (b +ℤ (c +ℤ (d +ℤ (e +ℤ (f +ℤ (g +ℤ (h +ℤ (i +ℤ (j +ℤ (k +ℤ (l +ℤ pos 0)))))))))))) *ℤ u
    ≡ (a +ℤ b) *ℤ u +ℤ (c +ℤ d) *ℤ u +ℤ (e +ℤ f) *ℤ u +ℤ (g +ℤ h) *ℤ u +ℤ (i +ℤ j) *ℤ u +ℤ (k +ℤ l) *ℤ u
sum_of_pairs =
    solve 13 (λ a b c d e f g h i j k l u. (
      (a :+ (b :+ (c :+ (d :+ (e :+ (f :+ (g :+ (h :+ (i :+ (j :+ (k :+ (l :+ num 0)))))))))))) :* u,
      (a :+ b) :* u :+ (c :+ d) :* u :+ (e :+ f) :* u :+ (g :+ h) :* u :+ (i :+ j) :* u :+ (k :+ l) :* u,
    )) refl

-- the total of twelve doubles
total_twelve : (a b c d e f g h i j k l : Float)
    → total_of (a ∷ b ∷ c ∷ d ∷ e ∷ f ∷ g ∷ h ∷ i ∷ j ∷ k ∷ l ∷ [])
    ≡ worth a +ℤ (worth b +ℤ (worth c +ℤ (worth d +ℤ (worth e +ℤ (worth f +ℤ (worth g +ℤ (worth h +ℤ (worth i +ℤ (worth j +ℤ (worth k
    +ℤ (worth l +ℤ pos 0)))))))))))
total_twelve a b c d e f g h i j k l = simp (total_more, total_none) refl

-- six products are the determinant: px·py cancels
six_products : (px py qx qy rx ry : ℤ)
    → qx *ℤ ry +ℤ neg_ℤ qx *ℤ py +ℤ neg_ℤ px *ℤ ry +ℤ neg_ℤ qy *ℤ rx +ℤ qy *ℤ px +ℤ py *ℤ rx
    ≡ (qx -ℤ px) *ℤ (ry -ℤ py) -ℤ (qy -ℤ py) *ℤ (rx -ℤ px)
six_products =
    solve 6 (λ px py qx qy rx ry. (
      qx :* ry :+ opp qx :* py :+ opp px :* ry :+ opp qy :* rx :+ qy :* px :+ py :* rx,
      (qx :- px) :* (ry :- py) :- (qy :- py) :* (rx :- px),
    )) refl

six_sums : {a b c d e f t u v w x y : ℤ} → a ≡ t → b ≡ u → c ≡ v → d ≡ w → e ≡ x → f ≡ y
    → a +ℤ b +ℤ c +ℤ d +ℤ e +ℤ f ≡ t +ℤ u +ℤ v +ℤ w +ℤ x +ℤ y
six_sums p q r s t u = cc

-- ---- the twelve summands
module _ (k : ℕ) (room : k ≤ 485) (p q r : Point) (P : Within k p) (Q : Within k q) (R : Within k r) where
  one : Paired (pair_grain k) (pair_most k) q.x r.y
  one = reach_paired k room q.x r.y Q.x R.y

  two : Paired (pair_grain k) (pair_most k) (neg q.x) p.y
  two = reach_paired k room (neg q.x) p.y (sized_neg Q.x) P.y

  three : Paired (pair_grain k) (pair_most k) (neg p.x) r.y
  three = reach_paired k room (neg p.x) r.y (sized_neg P.x) R.y

  four : Paired (pair_grain k) (pair_most k) (neg q.y) r.x
  four = reach_paired k room (neg q.y) r.x (sized_neg Q.y) R.x

  five : Paired (pair_grain k) (pair_most k) q.y p.x
  five = reach_paired k room q.y p.x Q.y P.x

  six : Paired (pair_grain k) (pair_most k) p.y r.x
  six = reach_paired k room p.y r.x P.y R.x

  summands_sized : All (Sized (pair_grain k) (pair_most k)) (summands_of p q r)
  unfolding summands_of
  summands_sized = paired one (paired two (paired three (paired four (paired five (paired six tt)))))
    where
      paired : {x y : Float} {A : Type 0} → Paired (pair_grain k) (pair_most k) x y → A
          → Sized (pair_grain k) (pair_most k) (mul binary64 x y) × (Sized (pair_grain k) (pair_most k) (roundoff_of x y) × A)
      paired t a = (t.rounded, (t.rest, a))

  summands_real_within : AllReal (summands_of p q r)
  summands_real_within = all_map (λ x r. r.real) (summands_of p q r) summands_sized

  -- in squares of units
  summands_total_within : total_of (summands_of p q r) *ℤ unit ≡ determinant p q r
  unfolding summands_of
  summands_total_within =
      ap (λ (z : ℤ). z *ℤ unit) (total_twelve _ _ _ _ _ _ _ _ _ _ _ _)
      ∙ sum_of_pairs
      (worth (mul binary64 q.x r.y)) (worth (roundoff_of q.x r.y))
      (worth (mul binary64 (neg q.x) p.y)) (worth (roundoff_of (neg q.x) p.y))
      (worth (mul binary64 (neg p.x) r.y)) (worth (roundoff_of (neg p.x) r.y))
      (worth (mul binary64 (neg q.y) r.x)) (worth (roundoff_of (neg q.y) r.x))
      (worth (mul binary64 q.y p.x)) (worth (roundoff_of q.y p.x))
      (worth (mul binary64 p.y r.x)) (worth (roundoff_of p.y r.x))
      unit
      ∙ six_sums
      one.exact
      (two.exact ∙ ap (λ (z : ℤ). z *ℤ worth p.y) (worth_neg q.x Q.x.real))
      (three.exact ∙ ap (λ (z : ℤ). z *ℤ worth r.y) (worth_neg p.x P.x.real))
      (four.exact ∙ ap (λ (z : ℤ). z *ℤ worth r.x) (worth_neg q.y Q.y.real))
      five.exact
      six.exact
      ∙ six_products (worth p.x) (worth p.y) (worth q.x) (worth q.y) (worth r.x) (worth r.y)

  summands_ceiling_within : ceiling_of (summands_of p q r) ≤ 12 * round_up divisor (105 + 4 * k)
  summands_ceiling_within =
      le_trans (ceiling_sized (pair_grain k) (pair_most k) (omega arith) (summands_of p q r) summands_sized)
      (le_of_eq (ap₂ (λ (n m : ℕ). n * round_up divisor m) (summands_length p q r) (span k room)))
    where
      span : (k : ℕ) → k ≤ 485 → pair_most k + 1 - pair_grain k ≡ 105 + 4 * k
      span k h = omega arith

-- ---- accepted points: what `accepted_within_lem` of point gives
module _ (p q r : Point) (P : Within reach p) (Q : Within reach q) (R : Within reach r) where
  pub summands_real : AllReal (summands_of p q r)
  summands_real = summands_real_within reach (lit≤ tt) p q r P Q R

  pub summands_total : total_of (summands_of p q r) *ℤ unit ≡ determinant p q r
  summands_total = summands_total_within reach (lit≤ tt) p q r P Q R

  pub summands_sign : sgn (total_of (summands_of p q r)) ≡ sgn (determinant p q r)
  summands_sign =
      let t : ℤ = total_of (summands_of p q r) in
      sym (sgn_scale unit t ((pos-< 0 (2 ^ 1074)).1 (pow_pos 1074))) ∙ ap sgn (*ℤ_comm unit t ∙ summands_total)

  -- 12 times 40
  pub summands_ceiling : ceiling_of (summands_of p q r) ≤ most_steps
  summands_ceiling = le_trans (summands_ceiling_within reach (lit≤ tt) p q r P Q R) (lit≤ tt)
