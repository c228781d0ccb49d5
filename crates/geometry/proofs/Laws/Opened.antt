-- Products of three coordinates, each opened into four summands, over the reach k of the coordinates. In order: one product: its two pairs,
-- how large its summands are, and their total; what the code multiplies; a list of products: how large its summands are, and their total.
-- Not here: which products four points make (`Space`). Assumes nothing.
use mathlib.Core.Path.{◌≡◌, refl, sym, ap, ap₂, ◌∙◌, subst}
use mathlib.Core.List.{List, [], ◌∷◌, ◌++◌}
use Prim.Native.Nat.{ℕ, ◌+◌, ◌-◌, ◌*◌, ◌≤◌}
use native.Mathlib.Omega.{arith}
use lib.IntN.{ℤ, pos, ◌+ℤ◌, ◌*ℤ◌}
use lib.Ieee.{Float, binary64, of_bits, sub, mul, neg}
use Rattle.whole.proofs.Laws.Ring.{◌:+◌, ◌:*◌, solve}
use Rattle.double.specs.Worth.{worth}
use Rattle.double.proofs.Laws.Zero.{plus_zero}
use Rattle.double.proofs.Laws.ExactProduct.{Factors}
use Rattle.double.proofs.Laws.Sized.{Sized, Reach}
use Rattle.double.proofs.Laws.Negated.{sized_neg, mul_neg, zero_less_sized}
use Rattle.point.specs.Spot.{unit}
use Rattle.sum.specs.Total.{total_of}
use Rattle.sum.proofs.Laws.Entries.{All}
use Rattle.sum.proofs.Laws.Calls.{total_none, total_more}
use Rattle.geometry.specs.Product.{roundoff_of, pair_of}
use Rattle.geometry.specs.Plane.{Three, three, opened_of, opened}
use Rattle.geometry.specs.Parts.{ExactProduct}
use Rattle.geometry.specs.declared.product.Product.{Product}
use Rattle.geometry.proofs.Laws.Product.{Paired, Meets, pair_grain, pair_most, reach_meets, reach_paired, sized_factors, sized_paired}
use Rattle.geometry.proofs.Laws.Product.{roundoff_neg, zero_pattern}

-- what a summand is a multiple of, and how large it is
abbrev pub open_grain : ℕ → ℕ
open_grain k = 918 - 3 * k

abbrev pub open_most : ℕ → ℕ
open_most k = 1074 + 3 * k

-- of a product of two coordinates, or its roundoff, and a third
third_meets : (k : ℕ) → k ≤ 306 → Meets (pair_grain k) (pair_most k) (1022 - k) (1074 + k) (open_grain k) (open_most k)
third_meets k h = record {
  grains = omega arith;
  mosts = omega arith;
  first = omega arith;
  second = omega arith;
  below = omega arith;
}

-- three coordinates of the reach k
pub record Reached (k : ℕ) (t : Three) : Type 0 where
  pub x : Reach k t.x
  pub y : Reach k t.y
  pub height : Reach k t.height

-- ---- one product
-- in cubes of units
abbrev product_of : Three → ℤ
product_of t = worth t.x *ℤ worth t.y *ℤ worth t.height

module _ (k : ℕ) (room : k ≤ 306) (t : Three) (R : Reached k t) where
  two : Paired (pair_grain k) (pair_most k) t.x t.y
  two = reach_paired k (omega arith) t.x t.y R.x R.y

  high : Paired (open_grain k) (open_most k) (mul binary64 t.x t.y) t.height
  high = sized_paired (third_meets k room) (mul binary64 t.x t.y) t.height two.rounded R.height

  low : Paired (open_grain k) (open_most k) (roundoff_of t.x t.y) t.height
  low = sized_paired (third_meets k room) (roundoff_of t.x t.y) t.height two.rest R.height

  one_sized : (rest : List Float) → All (Sized (open_grain k) (open_most k)) rest → All (Sized (open_grain k) (open_most k)) (opened_of t ++ rest)
  one_sized rest a = (high.rounded, (high.rest, (low.rounded, (low.rest, a))))

  one_total : (rest : List Float) → total_of (opened_of t ++ rest) *ℤ unit *ℤ unit ≡ product_of t +ℤ total_of rest *ℤ unit *ℤ unit
  one_total rest =
      ap (λ (z : ℤ). z *ℤ unit *ℤ unit) (total_four _ _ _ _ rest)
      ∙ pairs
      (worth (mul binary64 (mul binary64 t.x t.y) t.height)) (worth (roundoff_of (mul binary64 t.x t.y) t.height))
      (worth (mul binary64 (roundoff_of t.x t.y) t.height)) (worth (roundoff_of (roundoff_of t.x t.y) t.height))
      (total_of rest) unit
      ∙ ap₂ (λ (v w : ℤ). (v +ℤ w) *ℤ unit +ℤ total_of rest *ℤ unit *ℤ unit) high.exact low.exact
      ∙ factored (worth (mul binary64 t.x t.y)) (worth (roundoff_of t.x t.y)) (worth t.height) (total_of rest) unit
      ∙ ap (λ (z : ℤ). z *ℤ worth t.height +ℤ total_of rest *ℤ unit *ℤ unit) two.exact
    where
      total_four : (a b c d : Float) (rest : List Float)
          → total_of (a ∷ b ∷ c ∷ d ∷ rest) ≡ worth a +ℤ (worth b +ℤ (worth c +ℤ (worth d +ℤ total_of rest)))
      total_four a b c d rest = simp total_more refl

      pairs : (a b c d r u : ℤ) → (a +ℤ (b +ℤ (c +ℤ (d +ℤ r)))) *ℤ u *ℤ u ≡ ((a +ℤ b) *ℤ u +ℤ (c +ℤ d) *ℤ u) *ℤ u +ℤ r *ℤ u *ℤ u
      pairs =
          solve 6 (λ a b c d r u. (
            (a :+ (b :+ (c :+ (d :+ r)))) :* u :* u,
            ((a :+ b) :* u :+ (c :+ d) :* u) :* u :+ r :* u :* u,
          )) refl

      factored : (h l z r u : ℤ) → (h *ℤ z +ℤ l *ℤ z) *ℤ u +ℤ r *ℤ u *ℤ u ≡ (h +ℤ l) *ℤ u *ℤ z +ℤ r *ℤ u *ℤ u
      factored = solve 5 (λ h l z r u. ((h :* z :+ l :* z) :* u :+ r :* u :* u, (h :+ l) :* u :* z :+ r :* u :* u)) refl

-- ---- the code's product of x and y, or its negative, meets a height
module _ (k : ℕ) (room : k ≤ 306) {x y z : Float} {r : Product} (X : Reach k x) (Y : Reach k y) (Z : Reach k z) (E : ExactProduct x y r) where
  met : Paired (pair_grain k) (pair_most k) x y
  met = reach_paired k (omega arith) x y X Y

  rounded_sized : Sized (pair_grain k) (pair_most k) r.rounded
  rounded_sized = subst (Sized (pair_grain k) (pair_most k)) (sym E.rounded) met.rounded

  roundoff_sized : Sized (pair_grain k) (pair_most k) r.roundoff
  roundoff_sized = subst (Sized (pair_grain k) (pair_most k)) (sym E.roundoff) met.rest

  pub high_factors : Factors r.rounded z
  high_factors = sized_factors (third_meets k room) r.rounded z rounded_sized Z

  pub low_factors : Factors r.roundoff z
  low_factors = sized_factors (third_meets k room) r.roundoff z roundoff_sized Z

  pub high_factors_neg : Factors (neg r.rounded) z
  high_factors_neg = sized_factors (third_meets k room) (neg r.rounded) z (sized_neg rounded_sized) Z

  zero_less_is : sub binary64 plus_zero r.roundoff ≡ sub binary64 (of_bits binary64 0) r.roundoff
  zero_less_is = ap (λ (o : Float). sub binary64 o r.roundoff) (sym zero_pattern)

  pub low_factors_neg : Factors (sub binary64 (of_bits binary64 0) r.roundoff) z
  low_factors_neg =
      sized_factors (third_meets k room) (sub binary64 (of_bits binary64 0) r.roundoff) z
      (subst (Sized (pair_grain k) (pair_most k)) zero_less_is (zero_less_sized roundoff_sized)) Z

  abbrev both : Float → Float → List Float
  both high low = pair_of high z ++ pair_of low z

  pub opened_is : both r.rounded r.roundoff ≡ opened_of (three x y z)
  opened_is = ap₂ both E.rounded E.roundoff

  pub opened_neg_is : both (neg r.rounded) (sub binary64 (of_bits binary64 0) r.roundoff) ≡ opened_of (three (neg x) y z)
  opened_neg_is =
      ap₂ both
      (ap neg E.rounded ∙ sym (mul_neg binary64 x y))
      (sym zero_less_is ∙ ap (λ (e : Float). sub binary64 plus_zero e) E.roundoff
      ∙ sym (roundoff_neg (reach_meets k (omega arith)) x y X Y))

-- ---- a list of products
abbrev pub AllReached : ℕ → List Three → Type 0
AllReached k [] = Unit
AllReached k (t ∷ ts) = Reached k t × AllReached k ts

abbrev pub sum_of : List Three → ℤ
sum_of [] = pos 0
sum_of (t ∷ ts) = product_of t +ℤ sum_of ts

module _ (k : ℕ) (room : k ≤ 306) where
  pub opened_sized : (ts : List Three) → AllReached k ts → All (Sized (open_grain k) (open_most k)) (opened ts)
  unfolding opened
  opened_sized [] a = tt
  opened_sized (t ∷ ts) a = one_sized k room t a.0 (opened ts) (opened_sized ts a.1)

  -- in cubes of units
  pub opened_sum : (ts : List Three) → AllReached k ts → total_of (opened ts) *ℤ unit *ℤ unit ≡ sum_of ts
  unfolding opened
  opened_sum [] a = ap (λ (z : ℤ). z *ℤ unit *ℤ unit) total_none
  opened_sum (t ∷ ts) a = one_total k room t a.0 (opened ts) ∙ ap (λ (z : ℤ). product_of t +ℤ z) (opened_sum ts a.1)
