-- A double taken apart. In order: the significand and the exponent of a magnitude and their ranges; the three fields of a pattern, the
-- answer that they give, and the parts by the hidden bit; what the answer means: the worth is ±s·2^e units, the parts give back the double; no
-- two results satisfy the promise; what it tells a caller. Assumes nothing.
use mathlib.Core.Path.{◌≡◌, refl, sym, ap, ◌∙◌, subst}
use mathlib.Core.Logic.{◌⊎◌, inl, inr, ◌↔◌}
use mathlib.Core.Bool.{Bool, true, false, cond}
use Prim.Native.Nat.{ℕ, zero, suc, ◌+◌, ◌-◌, ◌*◌, ◌/◌, ◌%◌, ◌^◌, ◌≤◌, ◌<◌}
use native.Mathlib.Nat.{le_trans, le_of_eq, le-div_iff_mul-le, div-mul_cancel}
use native.Mathlib.Omega.{arith}
use lib.Dec.{T, leb}
use lib.IntN.{ℤ, pos, neg_ℤ}
use lib.Pow.{pow_pos, pow-add}
use lib.Ieee.{Float, nan, inf, fin, binary64, size, to_bits, fits, is_nan}
use lib.Ieee.Digits.{size_reaches, size-le}
use lib.Ieee.Fits.{kept-lt}
use lib.Ieee.Scale.{finite, overflow}
use borrow.Author.Tests.{le-leb, lt-leb}
use Rattle.double.specs.Worth.{mag, worth, of_units}
use Rattle.refusal.specs.Outcome.{Outcome, answers, refuses, not_finite, Fixes, kind_number}
use Rattle.double.specs.Apart.{said, apart_of, TakenSays, exponent_of, significand_of, together}
use Rattle.double.proofs.Laws.Digits.{Rep}
use Rattle.double.proofs.Laws.Pattern.{finite_std}
use Rattle.double.proofs.Laws.Units.{Real, mag_lt, mag_rep, of_units_own}
use Rattle.refusal.proofs.Laws.Outcome.{outcome_once}
use Rattle.refusal.specs.declared.Refusal.{Refusal}
use Rattle.double.specs.declared.answer.Parts.{Parts}
use Rattle.std.specs.Prelude.{Err, Ok, Result}

-- ---- the significand and the exponent of n units
pub significand_below : (n : ℕ) → significand_of n < 2 ^ 53
unfolding significand_of exponent_of
significand_below n = kept-lt 53 n

-- the exponent is 0, or the significand has all its digits
pub exponent_least : (n : ℕ) → (exponent_of n ≡ 0) ⊎ (2 ^ 52 ≤ significand_of n)
unfolding significand_of exponent_of
exponent_least n = go (size n - 53) refl
  where
    reached : (z k : ℕ) → z - 53 ≡ suc k → 52 + suc k < z
    reached z k e = omega arith

    go : (k : ℕ) → size n - 53 ≡ k → (k ≡ 0) ⊎ (2 ^ 52 ≤ n / 2 ^ k)
    go zero e = inl refl
    go (suc k) e =
        inr ((le-div_iff_mul-le (pow_pos (suc k))).1
        (le_trans (le_of_eq (sym (pow-add 2 52 (suc k)))) (size_reaches n (52 + suc k) (reached (size n) k e))))

pub exponent_most : (n : ℕ) → n < overflow binary64 → exponent_of n ≤ 2045
unfolding exponent_of
exponent_most n h = small (size n) (size-le n 2098 h)
  where
    small : (z : ℕ) → z ≤ 2098 → z - 53 ≤ 2045
    small z h = omega arith

-- ---- what the pattern b of a finite double shows of its exponent k and its significand q
record Shows (s : Bool) (k q b : ℕ) : Type 0 where
  sign_is : leb (2 ^ 63) b ≡ s
  field_is : b % 2 ^ 63 / 2 ^ 52 ≡ k + q / 2 ^ 52
  digits_are : b % 2 ^ 52 ≡ q % 2 ^ 52
  most : k ≤ 2045
  below : q < 2 ^ 53
  least : (k ≡ 0) ⊎ (2 ^ 52 ≤ q)

shows : (s : Bool) (k q : ℕ) → k ≤ 2045 → q < 2 ^ 53 → (k ≡ 0) ⊎ (2 ^ 52 ≤ q) → Shows s k q (cond s (2 ^ 63) 0 + k * 2 ^ 52 + q)
shows true k q h g l = record {
  sign_is = le-leb (2 ^ 63) (2 ^ 63 + k * 2 ^ 52 + q) (omega arith);
  field_is = omega arith;
  digits_are = omega arith;
  most = h;
  below = g;
  least = l;
}
shows false k q h g l = record {
  sign_is = lt-leb (2 ^ 63) (0 + k * 2 ^ 52 + q) (omega arith);
  field_is = omega arith;
  digits_are = omega arith;
  most = h;
  below = g;
  least = l;
}

finite_shows : (s : Bool) (m : ℕ) (e : ℤ) → T (fits binary64 (fin s m e))
    → Shows s (exponent_of (mag binary64 (fin s m e))) (significand_of (mag binary64 (fin s m e))) (to_bits binary64 (fin s m e))
unfolding to_bits exponent_of significand_of
finite_shows s m e t =
    let n : ℕ = mag binary64 (fin s m e) in
    let r : Real binary64 (fin s m e) = record { fin = tt; fit = t } in
    shows s (exponent_of n) (significand_of n) (exponent_most n (mag_lt binary64 (fin s m e) r)) (significand_below n) (exponent_least n)

module _ {s : Bool} {k q b : ℕ} (shown : Shows s k q b) where
  -- field 0: the digits are the significand
  hidden_none : b % 2 ^ 63 / 2 ^ 52 ≡ 0 → (b % 2 ^ 52 ≡ q) × (0 ≡ k)
  hidden_none h = (omega arith, omega arith)

  -- any other: the hidden bit stands above the digits
  hidden_one : (b % 2 ^ 63 / 2 ^ 52 ≡ 0 → ⊥) → (2 ^ 52 + b % 2 ^ 52 ≡ q) × (b % 2 ^ 63 / 2 ^ 52 - 1 ≡ k)
  hidden_one h = go shown.least
    where
      go : (k ≡ 0) ⊎ (2 ^ 52 ≤ q) → (2 ^ 52 + b % 2 ^ 52 ≡ q) × (b % 2 ^ 63 / 2 ^ 52 - 1 ≡ k)
      go (inl z) = (omega arith, omega arith)
      go (inr l) = (omega arith, omega arith)

-- ---- the answer that the pattern gives
abbrev field : Float → ℕ
field x = to_bits binary64 x % 2 ^ 63 / 2 ^ 52

abbrev digits : Float → ℕ
digits x = to_bits binary64 x % 2 ^ 52

abbrev refusal : Outcome Parts
refusal = refuses not_finite 0

abbrev parts : Float → ℕ → ℕ → Outcome Parts
parts x q k = answers (record { negative = leb (2 ^ 63) (to_bits binary64 x); significand = q; exponent = k })

pub refused : (x : Float) → finite x ≡ false → refusal ≡ apart_of x
unfolding apart_of
refused nan h = refl
refused (inf s) h = refl
refused (fin s m e) h = cc

pub subnormal_parted : (x : Float) → Real binary64 x → field x ≡ 0 → parts x (digits x) 0 ≡ apart_of x
unfolding apart_of
subnormal_parted nan r h = absurd r.fin
subnormal_parted (inf s) r h = absurd r.fin
subnormal_parted (fin s m e) r h =
    let p = finite_shows s m e r.fit in
    let q = hidden_none p h in
    cc (p.sign_is, q.0, q.1)

pub normal_parted : (x : Float) → Real binary64 x → (field x ≡ 0 → ⊥) → parts x (2 ^ 52 + digits x) (field x - 1) ≡ apart_of x
unfolding apart_of
normal_parted nan r h = absurd r.fin
normal_parted (inf s) r h = absurd r.fin
normal_parted (fin s m e) r h =
    let p = finite_shows s m e r.fit in
    let q = hidden_one p h in
    cc (p.sign_is, q.0, q.1)

-- field 0 is no infinity's, whose field is all ones
infinite_field : (s : Bool) → to_bits binary64 (inf s) % 2 ^ 63 / 2 ^ 52 ≡ 2047
unfolding to_bits
infinite_field true = refl
infinite_field false = refl

pub low_finite : (x : Float) → is_nan x ≡ false → field x ≡ 0 → finite x ≡ true
unfolding is_nan
low_finite nan n z = absurd (subst T n tt)
low_finite (inf s) n z = let ones = infinite_field s in absurd (omega arith)
low_finite (fin s m e) n z = refl

pub finite_real : (x : Float) → finite x ≡ true → fits binary64 x ≡ true → Real binary64 x
finite_real x h f = record { fin = subst T (sym h) tt; fit = subst T (sym f) tt }

-- what `take_apart` is proved by, at each of its exits
pub ruleset parting = (finite_std, finite_real, low_finite, refused, subnormal_parted, normal_parted)

-- a finite double by its field: whether there is a hidden bit tells both parts
abbrev pub Hides : Float → ℕ → Type 0
Hides x hidden = ((field x ≡ 0) × (hidden ≡ 0)) ⊎ ((field x ≡ 0 → ⊥) × (hidden ≡ 1))

pub field_parts : (x : Float) (hidden : ℕ) → Real binary64 x → Hides x hidden
    → (hidden * 2 ^ 52 + digits x ≡ significand_of (mag binary64 x)) × (field x - hidden ≡ exponent_of (mag binary64 x))
field_parts nan hidden r h = absurd r.fin
field_parts (inf s) hidden r h = absurd r.fin
field_parts (fin s m e) hidden r (inl h) =
    let p = hidden_none (finite_shows s m e r.fit) h.0 in
    (omega (arith, h.1, p.0), omega (arith, h.0, h.1, p.1))
field_parts (fin s m e) hidden r (inr h) =
    let p = hidden_one (finite_shows s m e r.fit) h.0 in
    (omega (arith, h.1, p.0), omega (arith, h.1, p.1))

-- ---- what the answer means
-- the significand and the exponent hold all of a magnitude of 53 digits
pub significand_exact : (n : ℕ) → Rep 53 n → significand_of n * 2 ^ exponent_of n ≡ n
unfolding significand_of exponent_of
significand_exact n r = div-mul_cancel (2 ^ exponent_of n) r

-- the parts of a finite double: in their ranges, of the magnitude s·2^(e-1074), and the double is theirs, bit for bit
pub record Means (x : Float) (p : Parts) : Type 0 where
  pub significand_range : p.significand < 2 ^ 53
  pub exponent_range : p.exponent ≤ 2045
  pub exponent_none : (p.exponent ≡ 0) ⊎ (2 ^ 52 ≤ p.significand)
  pub worth_is : worth x ≡ cond p.negative (neg_ℤ (pos (p.significand * 2 ^ p.exponent))) (pos (p.significand * 2 ^ p.exponent))
  pub back : together p ≡ x
  pub bits_back : to_bits binary64 (together p) ≡ to_bits binary64 x

-- the parts that the rule gives mean the double
module _ (s : Bool) (m : ℕ) (e : ℤ) (fit : T (fits binary64 (fin s m e))) where
  units : ℕ
  units = mag binary64 (fin s m e)

  own : Parts
  own = record { negative = s; significand = significand_of units; exponent = exponent_of units }

  finite_means : Means (fin s m e) own
  unfolding units own worth together
  finite_means =
      let r : Real binary64 (fin s m e) = record { fin = tt; fit = fit } in
      let whole : significand_of units * 2 ^ exponent_of units ≡ units = significand_exact units (mag_rep binary64 (fin s m e) r) in
      let back : together own ≡ fin s m e = ap (λ (n : ℕ). of_units binary64 s n) whole ∙ of_units_own binary64 (fin s m e) r in
      record {
        significand_range = significand_below units;
        exponent_range = exponent_most units (mag_lt binary64 (fin s m e) r);
        exponent_none = exponent_least units;
        worth_is = ap (λ (n : ℕ). cond s (neg_ℤ (pos n)) (pos n)) (sym whole);
        back = back;
        bits_back = ap (λ (x : Float). to_bits binary64 x) back;
      }

pub apart_means : (x : Float) → T (fits binary64 x) → (p : Parts) → apart_of x ≡ answers p → Means x p
unfolding apart_of
apart_means nan t p h = let z : ◌≡◌ {A = ℕ} 0 1 = cc in let w : ⊥ = omega arith in absurd w
apart_means (inf s) t p h = let z : ◌≡◌ {A = ℕ} 0 1 = cc in let w : ⊥ = omega arith in absurd w
apart_means (fin s m e) t p h =
    let same : own s m e t ≡ p = unfold own units in cc in
    subst (λ (q : Parts). Means (fin s m e) q) same (finite_means s m e t)

-- it is refused exactly where the double is not finite
pub apart_refused : (x : Float) → (apart_of x ≡ refuses not_finite 0) ↔ (finite x ≡ false)
unfolding apart_of
apart_refused nan = ((λ h. refl), (λ h. refl))
apart_refused (inf s) = ((λ h. refl), (λ h. refl))
apart_refused (fin s m e) =
    ((λ h. let z : ◌≡◌ {A = ℕ} 0 1 = cc in let w : ⊥ = omega arith in absurd w), (λ h. absurd (subst T h tt)))

-- no two results satisfy the promise
pub take_apart_fixed : (x : Float) → Fixes (TakenSays x)
unfolding said
take_apart_fixed x a b p q = outcome_once (λ p. p) (λ a b e. e) a b (p ∙ sym q)

-- ---- what the promise tells a caller
answers_finite : (x : Float) (p : Parts) → apart_of x ≡ answers p → finite x ≡ true
unfolding apart_of
answers_finite nan p h = cc
answers_finite (inf s) p h = cc
answers_finite (fin s m e) p h = refl

refuses_infinite : (x : Float) (n k : ℕ) → apart_of x ≡ refuses n k → finite x ≡ false
unfolding apart_of
refuses_infinite nan n k h = refl
refuses_infinite (inf s) n k h = refl
refuses_infinite (fin s m e) n k h = cc

module _ (x : Float) (r : Result Parts Refusal) (promise : said r ≡ apart_of x) where
  pub taken_means : T (fits binary64 x) → (p : Parts) → r ≡ Ok p → Means x p
  unfolding said
  taken_means t p h = apart_means x t p (sym promise ∙ ap said h)

  pub taken_finite : (p : Parts) → r ≡ Ok p → finite x ≡ true
  unfolding said
  taken_finite p h = answers_finite x p (sym promise ∙ ap said h)

  pub taken_refused : (q : Refusal) → r ≡ Err q → finite x ≡ false
  unfolding said
  taken_refused q h = refuses_infinite x (kind_number q.kind) q.place (sym promise ∙ ap said h)
