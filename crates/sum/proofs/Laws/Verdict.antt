-- What a verdict says of the counts and the extremes. In order: the six ways to a verdict; which one a list's look takes; an undecided list
-- has entries of both signs, and neither test holds. Not here: the sign of the total (`Sign`). Assumes nothing.
use mathlib.Core.Path.{◌≡◌, refl, sym, subst}
use mathlib.Core.Bool.{Bool, true, false, not, cond}
use mathlib.Core.List.{List}
use Prim.Native.Nat.{ℕ, zero, suc, ◌<◌}
use native.Mathlib.Nat.{zero-lt-suc}
use lib.Dec.{T, eqb, eqb→eq}
use lib.Ieee.{Float, lt, neg}
use Rattle.sum.specs.Look.{count_of, extreme_of, look_of, times, verdict_by, verdict_of}
use Rattle.sum.specs.declared.answer.Sign.TheVariants.{Minus, Zero, Plus}
use Rattle.sum.specs.declared.look.Look.TheVariants.{Neither, Positive, Negative, Both}
use Rattle.sum.specs.declared.answer.Sign.{Sign}
use Rattle.std.specs.Prelude.{None, Option, Some}

-- of m positive entries, a the greatest, and n negative ones, b the magnitude of the most negative
pub data Found (m n : ℕ) (a b : Float) : Option Sign → Type 0 where
  neither : m ≡ 0 → n ≡ 0 → Found m n a b (Some Zero)
  positive : 0 < m → n ≡ 0 → Found m n a b (Some Plus)
  negative : m ≡ 0 → 0 < n → Found m n a b (Some Minus)
  greater : 0 < m → 0 < n → T (lt (times n b) a) → Found m n a b (Some Plus)
  less : 0 < m → 0 < n → T (lt (times m a) b) → Found m n a b (Some Minus)
  close : 0 < m → 0 < n → T (not (lt (times n b) a)) → T (not (lt (times m a) b)) → Found m n a b None

-- of a list's counts and extremes
abbrev FoundIn : List Float → Option Sign → Type 0
FoundIn xs v = Found (count_of false xs) (count_of true xs) (extreme_of false xs) (neg (extreme_of true xs)) v

pub verdict_found : (xs : List Float) → FoundIn xs (verdict_of xs)
unfolding verdict_of look_of verdict_by
verdict_found xs = go (eqb m 0) (eqb n 0) (eqb→eq m 0) (some m) (eqb→eq n 0) (some n)
  where
    m : ℕ
    m = count_of false xs

    n : ℕ
    n = count_of true xs

    a : Float
    a = extreme_of false xs

    q : Float
    q = extreme_of true xs

    some : (k : ℕ) → T (not (eqb k 0)) → 0 < k
    some zero t = absurd t
    some (suc k) t = zero-lt-suc k

    both : (v w : Bool) → lt (times n (neg q)) a ≡ v → lt (times m a) (neg q) ≡ w → 0 < m → 0 < n
        → Found m n a (neg q) (cond v (Some Plus) (cond w (Some Minus) None))
    both true w e g M N = greater M N (subst T (sym e) tt)
    both false true e g M N = less M N (subst T (sym g) tt)
    both false false e g M N = close M N (subst (λ (b : Bool). T (not b)) (sym e) tt) (subst (λ (b : Bool). T (not b)) (sym g) tt)

    go : (t u : Bool) → (T t → m ≡ 0) → (T (not t) → 0 < m) → (T u → n ≡ 0) → (T (not u) → 0 < n)
        → Found m n a (neg q) (verdict_by m n (cond t (cond u Neither (Negative q)) (cond u (Positive a) (Both a q))))
    go true true M M1 N N1 = neither (M tt) (N tt)
    go true false M M1 N N1 = negative (M tt) (N1 tt)
    go false true M M1 N N1 = positive (M1 tt) (N tt)
    go false false M M1 N N1 = both (lt (times n (neg q)) a) (lt (times m a) (neg q)) refl refl (M1 tt) (N1 tt)

-- what an undecided list has
pub record Open (xs : List Float) : Type 0 where
  pub positives : 0 < count_of false xs
  pub negatives : 0 < count_of true xs
  pub above : T (not (lt (times (count_of true xs) (neg (extreme_of true xs))) (extreme_of false xs)))
  pub below : T (not (lt (times (count_of false xs) (extreme_of false xs)) (neg (extreme_of true xs))))

pub undecided_open : (xs : List Float) → verdict_of xs ≡ None → Open xs
undecided_open xs e = go (subst (FoundIn xs) e (verdict_found xs))
  where
    go : FoundIn xs None → Open xs
    go (close M N u v) = record { positives = M; negatives = N; above = u; below = v }
