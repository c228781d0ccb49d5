-- The laws at real doubles, by computation: each group has a pair or two worked through, so that a wrong statement shows. In the order of
-- the files: rounding, units and worth, comparison, sum, product, zero, step, decision. Nothing cites this file. Assumes nothing.
use mathlib.Core.Path.{◌≡◌, refl, sym, subst}
use mathlib.Core.Bool.{Bool, true, false, not}
use Prim.Native.Nat.{◌+◌, ◌-◌, ◌*◌, ◌^◌, ◌≤◌, ◌<◌}
use lib.IntN.{pos, negsuc, ◌+ℤ◌, ◌-ℤ◌}
use lib.Dec.{T, ltb, leb→le, ltb→lt}
use lib.Count.{count_trailing_zeros}
use lib.Ieee.{Float, inf, fin, binary64, fits, size, odd, units, round, sum, add, sub, neg, mul, lt, eq, of_int}
use lib.Ieee.Scale.{overflow}
use Rattle.double.specs.Worth.{mag, worth, of_units, double_of}
use Rattle.double.proofs.Laws.Digits.{gap, ulp}
use Rattle.double.proofs.Laws.Rounding.{rn}
use Rattle.double.proofs.Laws.Units.{Real}
use Rattle.double.proofs.Laws.Signed.{split_own}
use Rattle.double.proofs.Laws.Zero.{plus_zero}
use Rattle.double.proofs.Laws.Step.{Opposed, step, step_shrinks}
use Rattle.double.proofs.Laws.Decision.{decision_close}

-- ---- the doubles used: 1, 1.5, 2 ^ -60, the largest finite one and the smallest positive one
abbrev one : Float
one = fin false 1 (pos 0)

abbrev half_more : Float
half_more = fin false 3 (negsuc 0)

abbrev tiny : Float
tiny = fin false 1 (negsuc 59)

abbrev largest : Float
largest = fin false (2 ^ 53 - 1) (pos 971)

abbrev smallest : Float
smallest = fin false 1 (negsuc 1073)

abbrev minus_zero : Float
minus_zero = fin true 0 (pos 0)

-- 1 + 2 ^ -52, 3 + 2 ^ -50, - (2 ^ -2 + 2 ^ -54) and -1
abbrev next : Float
next = fin false (2 ^ 52 + 1) (negsuc 51)

abbrev three_more : Float
three_more = fin false (3 * 2 ^ 50 + 1) (negsuc 49)

abbrev quarter_more : Float
quarter_more = fin true (2 ^ 52 + 1) (negsuc 53)

abbrev minus_one : Float
minus_one = fin true 1 (pos 0)

-- ---- rounding: a tie goes to the even one, either way
tie_down : rn 53 (2 ^ 53 + 1) ≡ 2 ^ 53
unfolding rn size
tie_down = refl

tie_up : rn 53 (2 ^ 53 + 3) ≡ 2 ^ 53 + 4
unfolding rn size
tie_up = refl

-- the error of a tie is half a last place
tie_error : gap (rn 53 (2 ^ 53 + 3)) (2 ^ 53 + 3) * 2 ≡ ulp 53 (2 ^ 53 + 3)
unfolding rn size
tie_error = refl

-- rounding up past a power of two
rounds_over : rn 3 31 ≡ 32
unfolding rn size
rounds_over = refl

scaled : rn 53 ((2 ^ 53 + 3) * 2 ^ 900) ≡ (2 ^ 53 + 4) * 2 ^ 900
unfolding rn size
scaled = refl

-- ---- units and worth
one_worth : worth one ≡ pos (2 ^ 1074)
unfolding worth
one_worth = refl

smallest_worth : worth (neg smallest) ≡ negsuc 0
unfolding worth neg
smallest_worth = refl

minus_zero_worth : worth minus_zero ≡ pos 0
unfolding worth
minus_zero_worth = refl

half_more_back : double_of (worth half_more) ≡ half_more
unfolding worth double_of of_units round size units odd count_trailing_zeros
half_more_back = refl

minus_zero_back : double_of (worth minus_zero) ≡ plus_zero
unfolding worth double_of of_units round size units odd count_trailing_zeros
minus_zero_back = refl

-- a worth that no double has: the nearest
no_double : double_of (negsuc (2 ^ 53 + 2)) ≡ fin true (2 ^ 51 + 1) (negsuc 1071)
unfolding double_of of_units round size units odd count_trailing_zeros
no_double = refl

-- half of the last step below overflow is infinite
over : of_units binary64 true (overflow binary64 - 2 ^ 2044) ≡ inf true
unfolding of_units round size units odd count_trailing_zeros
over = refl

-- ---- comparison
zeros_equal : eq minus_zero plus_zero ≡ true
unfolding eq
zeros_equal = refl

zeros_not_less : lt minus_zero plus_zero ≡ false
unfolding lt
zeros_not_less = refl

less : lt minus_one smallest ≡ true
unfolding lt
less = refl

-- ---- sum
too_small : add binary64 one tiny ≡ one
unfolding add sum round size units odd count_trailing_zeros
too_small = refl

too_large : add binary64 largest largest ≡ inf false
unfolding add sum round size units odd count_trailing_zeros
too_large = refl

-- ---- product
product_units : mag binary64 half_more * mag binary64 half_more ≡ 9 * 2 ^ 1072 * 2 ^ 1074
product_units = refl

product : mul binary64 half_more (neg half_more) ≡ fin true 9 (negsuc 1)
unfolding mul neg round size units odd count_trailing_zeros
product = refl

-- 1.5 units, which is no whole number of them: a tie
product_tie : mul binary64 smallest half_more ≡ fin false 1 (negsuc 1072)
unfolding mul round size units odd count_trailing_zeros
product_tie = refl

-- ---- zero: -0 only where both are negative
minus_itself : sub binary64 next next ≡ plus_zero
unfolding sub add neg sum round size units odd count_trailing_zeros
minus_itself = refl

unlike_zeros : add binary64 minus_zero plus_zero ≡ plus_zero
unfolding add sum round size units odd count_trailing_zeros
unlike_zeros = refl

like_zeros : add binary64 minus_zero minus_zero ≡ minus_zero
unfolding add sum round size units odd count_trailing_zeros
like_zeros = refl

-- ---- step: 1 and - (2 ^ -2 + 2 ^ -54) are 0.75 and - 2 ^ -54
step_x : add binary64 one quarter_more ≡ fin false 3 (negsuc 1)
unfolding add sum round size units odd count_trailing_zeros
step_x = refl

step_y : sub binary64 quarter_more (sub binary64 (add binary64 one quarter_more) one) ≡ fin true 1 (negsuc 53)
unfolding sub add neg sum round size units odd count_trailing_zeros
step_y = refl

-- the law has something to say here ..
opposed : Opposed binary64 one quarter_more
unfolding fits
opposed = record {
  a_real = record { fin = tt; fit = tt };
  b_real = record { fin = tt; fit = tt };
  unlike = refl;
  nonzero = ltb→lt _ _ tt;
  larger = leb→le _ _ tt;
}

-- .. and with 1 at most 2 ^ 2 times the smaller, the roundoff times 2 ^ 51 is below it
step_below : mag binary64 (sub binary64 quarter_more (sub binary64 (add binary64 one quarter_more) one)) * 2 ^ 51
    < mag binary64 quarter_more
step_below = step_shrinks (step binary64 one quarter_more opposed) 51 2 refl opposed.nonzero (leb→le _ _ tt)

-- what 0.75 lacks
step_lack : double_of (worth one +ℤ worth quarter_more -ℤ worth (fin false 3 (negsuc 1))) ≡ fin true 1 (negsuc 53)
unfolding worth double_of of_units round size units odd count_trailing_zeros
step_lack = refl

-- equal magnitudes, the largest there are
step_zero : add binary64 (neg largest) largest ≡ plus_zero
unfolding add neg sum round size units odd count_trailing_zeros
step_zero = refl

-- ---- decision: 3 times 1 + 2 ^ -52, rounded, is 3 + 2 ^ -50 ..
times_three : mul binary64 (of_int binary64 (pos 3)) next ≡ three_more
unfolding of_int mul round size units odd count_trailing_zeros
times_three = refl

-- .. so against that number nothing is decided, though it is greater than the exact product
not_decided : lt (mul binary64 (of_int binary64 (pos 3)) next) three_more ≡ false
unfolding lt of_int mul round size units odd count_trailing_zeros
not_decided = refl

though_greater : ltb (3 * mag binary64 next) (mag binary64 three_more) ≡ true
though_greater = refl

-- .. and the law says that it is at most 2 ^ 2 times the other
real_three : Real binary64 three_more
unfolding fits
real_three = record { fin = tt; fit = tt }

real_next : Real binary64 next
unfolding fits
real_next = record { fin = tt; fit = tt }

close_by : mag binary64 three_more ≤ mag binary64 next * 2 ^ 2
close_by =
    decision_close binary64 three_more next 3 (mag binary64 three_more) (mag binary64 next)
    (split_own false binary64 three_more real_three refl) (split_own false binary64 next real_next refl)
    (leb→le _ _ tt) 2 (leb→le _ _ tt) (subst (λ (b : Bool). T (not b)) (sym not_decided) tt)

-- an infinite product decides nothing
infinite : mul binary64 (of_int binary64 (pos 2)) largest ≡ inf false
unfolding of_int mul round size units odd count_trailing_zeros
infinite = refl

infinite_not_decided : lt (mul binary64 (of_int binary64 (pos 2)) largest) largest ≡ false
unfolding lt of_int mul round size units odd count_trailing_zeros
infinite_not_decided = refl
