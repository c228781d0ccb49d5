-- Accepted coordinates. In order: the parts of a magnitude; the test by comparisons is the rule in units, over the reach k and at both
-- reaches; what the rule means: an accepted coordinate is finite, it is 0 or lies in the range, and it is a whole number of grains; no two
-- results satisfy a promise. Assumes nothing.
use mathlib.Core.Path.{◌≡◌, refl, sym, ap, ap₂, ◌∙◌, subst}
use mathlib.Core.Logic.{◌⊎◌, inl, inr}
use mathlib.Core.Bool.{Bool, true, false, ◌&&◌, ◌||◌, cond}
use mathlib.Core.List.{List}
use Prim.Native.Nat.{ℕ, ◌+◌, ◌-◌, ◌^◌, ◌≤◌, ◌<◌, ◌∣◌, zero-le}
use native.Mathlib.Nat.{add-zero, zero-add, le_refl, le_trans, le_of_eq, dvd-zero}
use native.Mathlib.Omega.{arith}
use borrow.Author.Tests.{ltb-true, ltb-false, ne_eqb}
use lib.Dec.{T, leb, ltb, eqb, leb→le, eqb→eq}
use lib.IntN.{ℤ}
use lib.Pow.{pow_pos}
use lib.Ieee.{Float, Format, nan, inf, fin, binary64, lt, le, eq, neg, of_bits, fits, size}
use lib.Ieee.Fits.{and_l, and_r}
use lib.Ieee.Scale.{finite}
use Rattle.double.specs.Worth.{mag, plus, minus, sign_bit}
use Rattle.refusal.specs.Outcome.{Fixes}
use Rattle.refusal.proofs.Laws.Outcome.{outcome_once}
use Rattle.double.proofs.Laws.Digits.{dvd_lower, size_gt, rep_dvd}
use Rattle.double.proofs.Laws.Units.{Real, Parts, mag_rep}
use Rattle.double.proofs.Laws.Compare.{lt_is, le_is, eq_is}
use Rattle.double.proofs.Laws.Zero.{plus_zero, zero_real, zero_mag}
use Rattle.double.proofs.Laws.Sum.{neg_plus, neg_minus, neg_real}
use Rattle.point.specs.Accepted.{accepted_within, accepted_of, AcceptedSays, AllAcceptedSays, reach, magnitude_of, MagnitudeSays}
use Rattle.point.specs.Parts.{within_of}
use Rattle.point.specs.High.{high_reach, high_accepted, AcceptedHighSays, AllAcceptedHighSays}

-- ---- a magnitude lies above 0
sides : (f : Format) (x : Float) → ((plus f x ≡ mag f x) × (minus f x ≡ 0)) ⊎ ((plus f x ≡ 0) × (minus f x ≡ mag f x))
sides f x = go (sign_bit x)
  where
    go : (s : Bool)
        → ((cond s 0 (mag f x) ≡ mag f x) × (cond s (mag f x) 0 ≡ 0)) ⊎ ((cond s 0 (mag f x) ≡ 0) × (cond s (mag f x) 0 ≡ mag f x))
    go false = inl (refl, refl)
    go true = inr (refl, refl)

below_zero : (f : Format) (x : Float) → Real f x → lt x plus_zero ≡ ltb (plus f x) (minus f x)
below_zero f x r =
    lt_is f x plus_zero r (zero_real f)
    ∙ ap₂ (λ (a b : ℕ). ltb a b) (add-zero (plus f x)) (ap (λ (a : ℕ). a + minus f x) (zero_mag f) ∙ zero-add (minus f x))

magnitude_parts : (f : Format) (x : Float) → Real f x → Parts f (cond (lt x plus_zero) (neg x) x) (mag f x) 0
magnitude_parts f x r = go (lt x plus_zero) (below_zero f x r) (sides f x)
  where
    go : (t : Bool) → t ≡ ltb (plus f x) (minus f x) → ((plus f x ≡ mag f x) × (minus f x ≡ 0)) ⊎ ((plus f x ≡ 0) × (minus f x ≡ mag f x))
        → Parts f (cond t (neg x) x) (mag f x) 0
    go true h (inl e) = let z = ltb-true (plus f x) (minus f x) (sym h) in let w : ⊥ = omega arith in absurd w
    go true h (inr e) = record { real = neg_real f x r; plus_is = neg_plus f x r.fin ∙ e.1; minus_is = neg_minus f x r.fin ∙ e.0 }
    go false h (inl e) = record { real = r; plus_is = e.0; minus_is = e.1 }
    go false h (inr e) =
        let z = ltb-false (plus f x) (minus f x) (sym h) in
        record { real = r; plus_is = omega arith; minus_is = omega arith }

-- ---- the code's test is the rule
-- of two values above 0 the order is that of their magnitudes
module _ (f : Format) {x y : Float} {a b : ℕ} (p : Parts f x a 0) (q : Parts f y b 0) where
  alone : {m n k : ℕ} → m ≡ k → n ≡ 0 → m + n ≡ k
  alone {m} {n} {k} g h = omega arith

  le_parts : le x y ≡ leb a b
  le_parts =
      le_is f x y p.real q.real
      ∙ ap₂ (λ (m n : ℕ). leb m n) (alone p.plus_is q.minus_is) (alone q.plus_is p.minus_is)

  eq_parts : eq x y ≡ eqb a b
  eq_parts =
      eq_is f x y p.real q.real
      ∙ ap₂ (λ (m n : ℕ). eqb m n) (alone p.plus_is q.minus_is) (alone q.plus_is p.minus_is)

-- the code's 0.0
abbrev zeroth : Float
zeroth = of_bits binary64 0

zeroth_parts : Parts binary64 zeroth 0 0
unfolding of_bits fits
zeroth_parts = record { real = record { fin = tt; fit = tt }; plus_is = refl; minus_is = refl }

finite_magnitude : (s : Bool) (m : ℕ) (e : ℤ) → T (fits binary64 (fin s m e))
    → Parts binary64 (magnitude_of (fin s m e)) (mag binary64 (fin s m e)) 0
unfolding magnitude_of of_bits
finite_magnitude s m e t = magnitude_parts binary64 (fin s m e) (record { fin = tt; fit = t })

-- infinities and not-a-number fail it
nan_fails : (l g : Float) → T (finite l) → within_of nan l g ≡ false
unfolding within_of magnitude_of le lt eq of_bits
nan_fails nan g u = absurd u
nan_fails (inf s) g u = absurd u
nan_fails (fin s m e) g u = refl

inf_fails : (s : Bool) (l g : Float) → T (finite l) → T (finite g) → within_of (inf s) l g ≡ false
unfolding within_of magnitude_of le lt eq neg of_bits
inf_fails s nan g u v = absurd u
inf_fails s (inf t) g u v = absurd u
inf_fails s (fin t m e) nan u v = absurd v
inf_fails s (fin t m e) (inf w) u v = absurd v
inf_fails true (fin t m e) (fin w n d) u v = refl
inf_fails false (fin t m e) (fin w n d) u v = refl

-- of constants that are the ends at the reach k
module _ (k : ℕ) {l g : Float} (lower : Parts binary64 l (2 ^ (1074 - k)) 0) (upper : Parts binary64 g (2 ^ (1074 + k)) 0) where
  within_accepted : (x : Float) → T (fits binary64 x) → within_of x l g ≡ accepted_within k x
  unfolding within_of accepted_within
  within_accepted nan t = nan_fails l g lower.real.fin
  within_accepted (inf s) t = inf_fails s l g lower.real.fin upper.real.fin
  within_accepted (fin s m e) t =
      let p = finite_magnitude s m e t in
      rw (le_parts binary64 lower p, le_parts binary64 p upper, eq_parts binary64 p zeroth_parts)
      (rule (2 ^ (1074 - k)) (2 ^ (1074 + k)) (mag binary64 (fin s m e)) (pow_pos (1074 - k)))
    where
      or_false : (b : Bool) → b ≡ (b || false)
      or_false true = refl
      or_false false = refl

      rule : (l g n : ℕ) → 0 < l → cond (leb l n) (leb n g) (eqb n 0) ≡ (eqb n 0 || (leb l n && leb n g))
      rule l g n h = go (leb l n) (leb→le l n)
        where
          go : (b : Bool) → (T b → l ≤ n) → cond b (leb n g) (eqb n 0) ≡ (eqb n 0 || (b && leb n g))
          go true f = let c = f tt in rw (ne_eqb n 0 (omega arith))
          go false f = or_false (eqb n 0)

-- the code's constants, by their patterns: at the reach 400
abbrev least : Float
least = of_bits binary64 0x26F0_0000_0000_0000

abbrev greatest : Float
greatest = of_bits binary64 0x58F0_0000_0000_0000

least_parts : Parts binary64 least (2 ^ (1074 - reach)) 0
unfolding of_bits fits
least_parts = record { real = record { fin = tt; fit = tt }; plus_is = refl; minus_is = refl }

greatest_parts : Parts binary64 greatest (2 ^ (1074 + reach)) 0
unfolding of_bits fits
greatest_parts = record { real = record { fin = tt; fit = tt }; plus_is = refl; minus_is = refl }

pub accepted_is : (x : Float) → T (fits binary64 x) → within_of x least greatest ≡ accepted_of x
accepted_is x t = within_accepted reach least_parts greatest_parts x t

-- and at the 300 of points with a height
abbrev high_least : Float
high_least = of_bits binary64 0x2D30_0000_0000_0000

abbrev high_greatest : Float
high_greatest = of_bits binary64 0x52B0_0000_0000_0000

high_least_parts : Parts binary64 high_least (2 ^ (1074 - high_reach)) 0
unfolding of_bits fits
high_least_parts = record { real = record { fin = tt; fit = tt }; plus_is = refl; minus_is = refl }

high_greatest_parts : Parts binary64 high_greatest (2 ^ (1074 + high_reach)) 0
unfolding of_bits fits
high_greatest_parts = record { real = record { fin = tt; fit = tt }; plus_is = refl; minus_is = refl }

pub accepted_high_is : (x : Float) → T (fits binary64 x) → within_of x high_least high_greatest ≡ high_accepted x
accepted_high_is x t = within_accepted high_reach high_least_parts high_greatest_parts x t

-- ---- what the rule means, over the reach k
pub accepted_real : (k : ℕ) (x : Float) → T (fits binary64 x) → accepted_within k x ≡ true → Real binary64 x
unfolding accepted_within
accepted_real k nan t h = absurd (subst T (sym h) tt)
accepted_real k (inf s) t h = absurd (subst T (sym h) tt)
accepted_real k (fin s m e) t h = record { fin = tt; fit = t }

-- it is a zero, or of a magnitude from 2 ^ -k to 2 ^ k
pub accepted_range : (k : ℕ) (x : Float) → accepted_within k x ≡ true
    → (mag binary64 x ≡ 0) ⊎ ((2 ^ (1074 - k) ≤ mag binary64 x) × (mag binary64 x ≤ 2 ^ (1074 + k)))
unfolding accepted_within
accepted_range k nan h = absurd (subst T (sym h) tt)
accepted_range k (inf s) h = absurd (subst T (sym h) tt)
accepted_range k (fin s m e) h = ranged (2 ^ (1074 - k)) (2 ^ (1074 + k)) (mag binary64 (fin s m e)) (subst T (sym h) tt)
  where
    ranged : (l g n : ℕ) → T (eqb n 0 || (leb l n && leb n g)) → (n ≡ 0) ⊎ ((l ≤ n) × (n ≤ g))
    ranged l g n = go (eqb n 0) (eqb→eq n 0)
      where
        go : (b : Bool) → (T b → n ≡ 0) → T (b || (leb l n && leb n g)) → (n ≡ 0) ⊎ ((l ≤ n) × (n ≤ g))
        go true f u = inl (f tt)
        go false f u = inr (leb→le l n (and_l (leb l n) (leb n g) u), leb→le n g (and_r (leb l n) (leb n g) u))

pub accepted_most : (k : ℕ) (x : Float) → accepted_within k x ≡ true → mag binary64 x ≤ 2 ^ (1074 + k)
accepted_most k x h = elim (accepted_range k x h) [ inl e ↦ le_trans (le_of_eq e) zero-le | inr r ↦ r.1 ]

-- 53 digits of a magnitude from 2 ^ -k on: so it is a multiple of 2 ^ (1022 - k) units, at the reach 400 of 2 ^ 622
pub accepted_grain : (k : ℕ) (x : Float) → T (fits binary64 x) → accepted_within k x ≡ true → 2 ^ (1022 - k) ∣ mag binary64 x
accepted_grain k x t h = go (accepted_range k x h)
  where
    least_digits : (z k : ℕ) → 1074 - k < z → 1022 - k ≤ z - 53
    least_digits z k l = omega arith

    go : (mag binary64 x ≡ 0) ⊎ ((2 ^ (1074 - k) ≤ mag binary64 x) × (mag binary64 x ≤ 2 ^ (1074 + k))) → 2 ^ (1022 - k) ∣ mag binary64 x
    go (inl e) = subst (λ (n : ℕ). 2 ^ (1022 - k) ∣ n) (sym e) (dvd-zero (2 ^ (1022 - k)))
    go (inr r) =
        let l = 2 ^ (1074 - k) in
        dvd_lower (least_digits (size l) k (size_gt l (1074 - k) (le_refl l)))
        (rep_dvd 53 r.0 (mag_rep binary64 x (accepted_real k x t h)))

-- ---- no two results satisfy a promise
pub accepted_fixed : (x : Float) → Fixes (AcceptedSays x)
accepted_fixed x a b p q = p ∙ sym q

pub accepted_high_fixed : (x : Float) → Fixes (AcceptedHighSays x)
accepted_high_fixed x a b p q = p ∙ sym q

pub all_accepted_fixed : (xs : List Float) → Fixes (AllAcceptedSays xs)
all_accepted_fixed xs a b p q = outcome_once (λ u. u) (λ u v e. e) a b (p ∙ sym q)

pub all_accepted_high_fixed : (xs : List Float) → Fixes (AllAcceptedHighSays xs)
all_accepted_high_fixed xs a b p q = outcome_once (λ u. u) (λ u v e. e) a b (p ∙ sym q)

pub magnitude_fixed : (x : Float) → Fixes (MagnitudeSays x)
magnitude_fixed x a b p q = p ∙ sym q
