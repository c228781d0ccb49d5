-- `roundoff::roundoff` meets its contract: the three magnitudes tell what Laws.Cut says of them. Assumes nothing.
use mathlib.Core.Path.{◌≡◌, refl, sym, ap, ap₂, ◌∙◌, subst}
use Prim.Native.Nat.{ℕ, ◌+◌, ◌-◌, ◌*◌, ◌^◌, ◌≤◌, ◌<◌}
use native.Mathlib.Nat.{le_trans, le_of_eq, le_of_lt, lt_of_le_of_lt, pos_of_ne-zero}
use lib.Dec.{lit≤}
use native.Mathlib.Omega.{arith}
use mathlib.Core.Bool.{Bool, true, false}
use lib.IntN.{ℤ, pos, neg_ℤ, nat_abs, ◌-ℤ◌}
use lib.Ieee.{Float, binary64, mul, lt, of_bits}
use mir.Syntax.{w64}
use mir.Val.{SFits}
use mir.ValLaws.{to_z-of_z}
use Rattle.whole.proofs.Laws.Parts.{nat_abs_neg}
use Rattle.double.proofs.Laws.Digits.{gap}
use Rattle.double.specs.Worth.{mag}
use Rattle.double.specs.Apart.{significand_of, exponent_of}
use Rattle.double.proofs.Laws.Units.{Real}
use Rattle.double.proofs.Laws.Zero.{plus_zero}
use Rattle.geometry.specs.declared.roundoff.Magnitude.{Magnitude}
use Rattle.double.proofs.Laws.ExactProduct.{Factors, rounded_known, difference_size}
use Rattle.word64.proofs.Laws.Signed.{signed_fits, again, negated_fits, negated_again}
use Rattle.geometry.proofs.Laws.Product.{zero_pattern}
use Rattle.geometry.proofs.Laws.Cut.{Cut, cut_of, exponent_few}
use Rattle.geometry.proofs.roundoff.roundoff.Goals as goal

fits : (z : ℤ) → nat_abs z ≤ 2 ^ 53 → SFits w64 z
fits z h = signed_fits z (lt_of_le_of_lt h (lit≤ tt))

-- a lack is small, and is read again and negated as it is
small_lack : (z : ℤ) (m n : ℕ) → z ≡ pos m -ℤ pos n → gap n m < 2 ^ 53 → nat_abs z ≤ 2 ^ 53
small_lack z m n e h = le_trans (le_of_eq (ap nat_abs e ∙ difference_size m n)) (le_of_lt h)

module _ (z : ℤ) (small : nat_abs z ≤ 2 ^ 53) where
  read : again z ≡ z
  read = to_z-of_z w64 z (fits z small)

  negative : SFits w64 (neg_ℤ z)
  negative = fits (neg_ℤ z) (le_trans (le_of_eq (nat_abs_neg z)) small)

  turned : again (pos 0 -ℤ again z) ≡ neg_ℤ z
  turned = negated_again (again z) z read negative

-- what `whole_magnitude` tells of a double
abbrev Measured : Float → Magnitude → Type 0
Measured x m = (m.significand ≡ significand_of (mag binary64 x)) × (m.exponent ≡ exponent_of (mag binary64 x))

-- what the three magnitudes tell
found_by : {x y rounded : Float} {a b r : Magnitude} → Factors x y → rounded ≡ mul binary64 x y → Measured x a → Measured y b → Measured rounded r
    → Cut x y (a.significand * b.significand) (a.exponent + b.exponent) r.significand r.exponent
found_by F e A B R =
    cut_of F (ap₂ (λ (m n : ℕ). m * n) A.0 B.0) (ap₂ (λ (m n : ℕ). m + n) A.1 B.1)
    (R.0 ∙ ap (λ (z : Float). significand_of (mag binary64 z)) e)
    (R.1 ∙ ap (λ (z : Float). exponent_of (mag binary64 z)) e)

few_rounded : {x y rounded : Float} {r : Magnitude} → Factors x y → rounded ≡ mul binary64 x y → Measured rounded r → r.exponent ≤ 2045
few_rounded {x = x} {y = y} F e R =
    le_trans (le_of_eq (R.1 ∙ ap (λ (z : Float). exponent_of (mag binary64 z)) e)) (exponent_few (mul binary64 x y) (rounded_known F).real)

pub whole_magnitude-r-requires : goal.whole_magnitude-r-requires
whole_magnitude-r-requires c =
    subst (λ (z : Float). Real binary64 z) (sym c.requires.1) (rounded_known c.requires.0).real

pub returns-then-r-eq0 : goal.returns-then-r-eq0
returns-then-r-eq0 c =
    (cut_of c.requires.0 refl refl refl
    (c.whole_magnitude-r.ensures.1 ∙ ap (λ (z : Float). exponent_of (mag binary64 z)) c.requires.1)).at_unit c.if-r-eq0.true

pub overflow_add-exact_place : goal.overflow_add-exact_place
overflow_add-exact_place c =
    let F = c.requires.0 in
    omega (arith, exponent_few _ F.x_real, exponent_few _ F.y_real, c.whole_magnitude-a.ensures.1, c.whole_magnitude-b.ensures.1)

pub overflow_add-rounded_place : goal.overflow_add-rounded_place
overflow_add-rounded_place c =
    let rounded_few = few_rounded c.requires.0 c.requires.1 c.whole_magnitude-r.ensures in
    omega (arith, rounded_few)

pub returns-then-rounded_place-exact_place : goal.returns-then-rounded_place-exact_place
returns-then-rounded_place-exact_place c =
    let found = found_by c.requires.0 c.requires.1 c.whole_magnitude-a.ensures c.whole_magnitude-b.ensures c.whole_magnitude-r.ensures in
    found.all_kept c.if-rounded_place-exact_place.true

pub lacking-lack-requires : goal.lacking-lack-requires
lacking-lack-requires c =
    let found = found_by c.requires.0 c.requires.1 c.whole_magnitude-a.ensures c.whole_magnitude-b.ensures c.whole_magnitude-r.ensures in
    let few : c.whole_magnitude-r.result.exponent + 1074
    - (c.whole_magnitude-a.result.exponent
    + c.whole_magnitude-b.result.exponent) ≤ 54 = found.few c.if-r-eq0.false c.if-rounded_place-exact_place.false in
    (omega (arith, few), found.near c.if-rounded_place-exact_place.false)

pub overflow_sub-lack : goal.overflow_sub-lack
overflow_sub-lack c =
    let found = found_by c.requires.0 c.requires.1 c.whole_magnitude-a.ensures c.whole_magnitude-b.ensures c.whole_magnitude-r.ensures in
    let small = small_lack _ _ _ c.lacking-lack.ensures (found.near c.if-rounded_place-exact_place.false) in
    negated_fits (again c.lacking-lack.result) c.lacking-lack.result (read c.lacking-lack.result small) (negative c.lacking-lack.result small)

pub double_of-requires : goal.double_of-requires
double_of-requires c =
    let rounded_few = few_rounded c.requires.0 c.requires.1 c.whole_magnitude-r.ensures in
    let asked : (0 < c.whole_magnitude-r.result.exponent)
    × (c.whole_magnitude-r.result.exponent ≤ 2046) = (pos_of_ne-zero c.if-r-eq0.false, omega (arith, rounded_few)) in
    let found = found_by c.requires.0 c.requires.1 c.whole_magnitude-a.ensures c.whole_magnitude-b.ensures c.whole_magnitude-r.ensures in
    let small = small_lack _ _ _ c.lacking-lack.ensures (found.near c.if-rounded_place-exact_place.false) in
    let few : c.whole_magnitude-r.result.exponent + 1074
    - (c.whole_magnitude-a.result.exponent
    + c.whole_magnitude-b.result.exponent) ≤ 54 = found.few c.if-r-eq0.false c.if-rounded_place-exact_place.false in
    (le_trans (le_of_eq (ap nat_abs (turned c.lacking-lack.result small) ∙ nat_abs_neg c.lacking-lack.result)) small, asked.0, asked.1, omega (arith, few))

pub returns-then-rounded : goal.returns-then-rounded
returns-then-rounded c =
    let found = found_by c.requires.0 c.requires.1 c.whole_magnitude-a.ensures c.whole_magnitude-b.ensures c.whole_magnitude-r.ensures in
    let by_product : (b : Bool) → lt c.args.rounded (of_bits binary64 0) ≡ b
    → lt (mul binary64 c.args.x c.args.y) plus_zero ≡ b = (λ b e. ap₂ lt (sym c.requires.1) (sym zero_pattern) ∙ e) in
    let small = small_lack _ _ _ c.lacking-lack.ensures (found.near c.if-rounded_place-exact_place.false) in
    found.below c.if-rounded_place-exact_place.false (by_product true c.if-rounded.true) c.double_of.result _
    (turned c.lacking-lack.result small ∙ ap neg_ℤ c.lacking-lack.ensures) c.double_of.ensures

pub double_of-requires-2 : goal.double_of-requires-2
double_of-requires-2 c =
    let rounded_few = few_rounded c.requires.0 c.requires.1 c.whole_magnitude-r.ensures in
    let asked : (0 < c.whole_magnitude-r.result.exponent)
    × (c.whole_magnitude-r.result.exponent ≤ 2046) = (pos_of_ne-zero c.if-r-eq0.false, omega (arith, rounded_few)) in
    let found = found_by c.requires.0 c.requires.1 c.whole_magnitude-a.ensures c.whole_magnitude-b.ensures c.whole_magnitude-r.ensures in
    let small = small_lack _ _ _ c.lacking-lack.ensures (found.near c.if-rounded_place-exact_place.false) in
    let few : c.whole_magnitude-r.result.exponent + 1074
    - (c.whole_magnitude-a.result.exponent
    + c.whole_magnitude-b.result.exponent) ≤ 54 = found.few c.if-r-eq0.false c.if-rounded_place-exact_place.false in
    (le_trans (le_of_eq (ap nat_abs (read c.lacking-lack.result small))) small, asked.0, asked.1, omega (arith, few))

pub returns : goal.returns
returns c =
    let found = found_by c.requires.0 c.requires.1 c.whole_magnitude-a.ensures c.whole_magnitude-b.ensures c.whole_magnitude-r.ensures in
    let by_product : (b : Bool) → lt c.args.rounded (of_bits binary64 0) ≡ b
    → lt (mul binary64 c.args.x c.args.y) plus_zero ≡ b = (λ b e. ap₂ lt (sym c.requires.1) (sym zero_pattern) ∙ e) in
    let small = small_lack _ _ _ c.lacking-lack.ensures (found.near c.if-rounded_place-exact_place.false) in
    found.above c.if-r-eq0.false c.if-rounded_place-exact_place.false
    (by_product false c.if-rounded.false) c.double_of-2.result _
    (read c.lacking-lack.result small ∙ c.lacking-lack.ensures) c.double_of-2.ensures
