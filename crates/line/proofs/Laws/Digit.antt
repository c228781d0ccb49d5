-- How great a digit is. Assumes nothing.
use mathlib.Core.Path.{◌≡◌, refl, sym, subst}
use mathlib.Core.Bool.{Bool, true, false, cond}
use Prim.Native.Nat.{ℕ, ◌+◌, ◌-◌, ◌≤◌, ◌<◌}
use native.Mathlib.Omega.{arith}
use lib.Dec.{T, leb, leb→le}
use lib.Ieee.Fits.{and_l, and_r}
use Rattle.std.specs.Prelude.{Some, None}
use Rattle.refusal.proofs.Laws.Outcome.{never}
use Rattle.line.specs.Numeral.{digit_of, between}

reading_of : (from to b : ℕ) → between from to b ≡ true → from ≤ b
reading_of from to b e = leb→le from b (and_l (leb from b) (leb b to) (subst T (sym e) tt))

up_to : (from to b : ℕ) → between from to b ≡ true → b ≤ to
up_to from to b e = leb→le b to (and_r (leb from b) (leb b to) (subst T (sym e) tt))

-- no digit is above 15
pub digit_small : (b d : ℕ) → digit_of b ≡ Some d → d < 16
unfolding digit_of
digit_small b d e = go (between 48 57 b) (between 65 70 b) (between 97 102 b) (up_to 48 57 b) (up_to 65 70 b) (up_to 97 102 b) e
  where
    go : (p q r : Bool) → (p ≡ true → b ≤ 57) → (q ≡ true → b ≤ 70) → (r ≡ true → b ≤ 102)
        → cond p (Some (b - 48)) (cond q (Some (b - 65 + 10)) (cond r (Some (b - 97 + 10)) None)) ≡ Some d → d < 16
    go true q r f g h e = let x : b - 48 ≡ d = cc in let y = f refl in omega arith
    go false true r f g h e = let x : b - 65 + 10 ≡ d = cc in let y = g refl in omega arith
    go false false true f g h e = let x : b - 97 + 10 ≡ d = cc in let y = h refl in omega arith
    go false false false f g h e = never (cc)

-- a digit that is not `0` is not 0
pub digit_nonzero : (b d : ℕ) → digit_of b ≡ Some d → (b ≡ 48 → ⊥) → 0 < d
unfolding digit_of
digit_nonzero b d e n = go (between 48 57 b) (between 65 70 b) (between 97 102 b) (reading_of 48 57 b) e
  where
    go : (p q r : Bool) → (p ≡ true → 48 ≤ b)
        → cond p (Some (b - 48)) (cond q (Some (b - 65 + 10)) (cond r (Some (b - 97 + 10)) None)) ≡ Some d → 0 < d
    go true q r f e = let x : b - 48 ≡ d = cc in let y = f refl in omega arith
    go false true r f e = let x : b - 65 + 10 ≡ d = cc in omega arith
    go false false true f e = let x : b - 97 + 10 ≡ d = cc in omega arith
    go false false false f e = never (cc)
