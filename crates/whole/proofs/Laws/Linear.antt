-- Identities and inequalities of whole numbers in one line. What `+ℤ`, `-ℤ`, `neg_ℤ`, `*ℤ`, numerals, `≡`, `≤ᶻ`, `<ᶻ`, `→` and `↔` say of
-- unknowns x and y is proved, if it is linear in its monomials once multiplied out, by
--
--     ints (x ∷ y ∷ []) (λ ρ v n m. simp (int_rules, n, v 0, v 1) (omega arith))
--
-- `v i` reads the i-th unknown, `n` a numeral `pos k`, `m` a numeral `negsuc k`; where one is left out, `omega` is "stuck on `val`". `simp`
-- makes expressions of `Ring` from these and normal forms from those: `omega` gets a statement of ℕ in which each monomial is an unknown.
--   A hypothesis h that is in scope already goes into omega's list, as `simp (int_rules, v 0, …) at h`.
--   A product of two hypotheses is not found: `mul_positive` and `mul_nonneg` of `Order` make it one more hypothesis.
--   `pos k`, with k a variable, computes under `+ℤ` and `*ℤ`, so is no unknown: prove the law of any x, then put `pos k` in.
--
-- In order: the value of an expression; the two parts of a normal form; the order and equality of values; `int_rules`; `ints`.
-- Not here: large identities, which `solve` of `Ring` proves faster; uses (`Examples`).
-- Assumes nothing.
use mathlib.Core.Path.{◌≡◌, refl, ap}
use mathlib.Core.List.{List, [], ◌∷◌}
use mathlib.Core.Logic.Iff
use mathlib.Core.Logic.{◌↔◌}
use mathlib.Core.Bool.{Bool, true, false, not}
use Prim.Native.Nat.{ℕ, suc, ◌+◌, ◌*◌, ◌≤◌, ◌<◌}
use native.Mathlib.Omega.{arith}
use lib.IntN.{ℤ, pos, negsuc, neg_ℤ, ◌+ℤ◌, ◌*ℤ◌}
use Rattle.whole.specs.Order.{◌≤ᶻ◌, ◌<ᶻ◌}
use Rattle.whole.proofs.Laws.Parts.{up, dn, add_parts, mul_parts, up_neg, dn_neg, ≤_parts, <_parts, ≡_parts}
use Rattle.whole.proofs.Laws.Ring.{Expr, var, num, neg, opp, ◌:+◌, ◌:-◌, ◌:*◌, nth, den, norm}
use Rattle.whole.proofs.Laws.Ring.{mono, Sum, none, more, total, norm_sound}

-- `den`, but shut, so that `simp` can see the expression
unfoldable pub val : Expr → List ℤ → ℤ
val e ρ = den e ρ

pub val_add : (a b : Expr) (ρ : List ℤ) → val a ρ +ℤ val b ρ ≡ val (a :+ b) ρ
unfolding val
val_add a b ρ = refl

pub val_mul : (a b : Expr) (ρ : List ℤ) → val a ρ *ℤ val b ρ ≡ val (a :* b) ρ
unfolding val
val_mul a b ρ = refl

pub val_neg : (a : Expr) (ρ : List ℤ) → neg_ℤ (val a ρ) ≡ val (opp a) ρ
unfolding val
val_neg a ρ = refl

-- ---- the two parts of a normal form: true for what is added, false for what is taken away

-- of a monomial: shut, an unknown of ℕ
unfoldable pub mono_part : Bool → List ℕ → List ℤ → ℕ
mono_part true m ρ = up (mono m ρ)
mono_part false m ρ = dn (mono m ρ)

-- but the empty one is 1
abbrev atom : Bool → List ℕ → List ℤ → ℕ
atom true [] ρ = 1
atom true (i ∷ m) ρ = mono_part true (i ∷ m) ρ
atom false [] ρ = 0
atom false (i ∷ m) ρ = mono_part false (i ∷ m) ρ

-- of a monomial times a coefficient
abbrev term : Bool → ℤ → List ℕ → List ℤ → ℕ
term s (pos k) m ρ = k * atom s m ρ
term s (negsuc k) m ρ = suc k * atom (not s) m ρ

abbrev part : Bool → Sum → List ℤ → ℕ
part s none ρ = 0
part s (more k m t) ρ = term s k m ρ + part s t ρ

module _ (ρ : List ℤ) where
  atom_up : (m : List ℕ) → atom true m ρ ≡ up (mono m ρ)
  unfolding mono_part up
  atom_up [] = refl
  atom_up (i ∷ m) = refl

  atom_dn : (m : List ℕ) → atom false m ρ ≡ dn (mono m ρ)
  unfolding mono_part dn
  atom_dn [] = refl
  atom_dn (i ∷ m) = refl

  term_parts : (k : ℤ) (m : List ℕ) → up (k *ℤ mono m ρ) + term false k m ρ ≡ dn (k *ℤ mono m ρ) + term true k m ρ
  unfolding up dn
  term_parts (pos k) m = rw (atom_up m, atom_dn m) (omega (arith, mul_parts (pos k) (mono m ρ)))
  term_parts (negsuc k) m = rw (atom_up m, atom_dn m) (omega (arith, mul_parts (negsuc k) (mono m ρ)))

  total_parts : (s : Sum) → up (total s ρ) + part false s ρ ≡ dn (total s ρ) + part true s ρ
  total_parts none = unfold up dn in refl
  total_parts (more k m s) = omega (arith, total_parts s, term_parts k m, add_parts (k *ℤ mono m ρ) (total s ρ))

  -- the parts of b - a, multiplied out
  sub_parts : (a b : Expr) →
      up (den b ρ) + dn (den a ρ) + part false (norm (b :- a)) ρ ≡ dn (den b ρ) + up (den a ρ) + part true (norm (b :- a)) ρ
  sub_parts a b =
      let e = norm_sound ρ (b :- a) in
      omega (arith, total_parts (norm (b :- a)), ap up e, ap dn e, add_parts (den b ρ) (neg_ℤ (den a ρ)), up_neg (den a ρ), dn_neg (den a ρ))

-- ---- the order and equality of values

pub val-≤ : (a b : Expr) (ρ : List ℤ) → (val a ρ ≤ᶻ val b ρ) ↔ (part false (norm (b :- a)) ρ ≤ part true (norm (b :- a)) ρ)
unfolding val
val-≤ a b ρ = Iff.trans (≤_parts (den a ρ) (den b ρ)) (omega (arith, sub_parts ρ a b))

pub val-< : (a b : Expr) (ρ : List ℤ) → (val a ρ <ᶻ val b ρ) ↔ (part false (norm (b :- a)) ρ < part true (norm (b :- a)) ρ)
unfolding val
val-< a b ρ = Iff.trans (<_parts (den a ρ) (den b ρ)) (omega (arith, sub_parts ρ a b))

pub val-≡ : (a b : Expr) (ρ : List ℤ) → (val a ρ ≡ val b ρ) ↔ (part false (norm (b :- a)) ρ ≡ part true (norm (b :- a)) ρ)
unfolding val
val-≡ a b ρ = Iff.trans (≡_parts (den a ρ) (den b ρ)) (omega (arith, sub_parts ρ a b))

pub ruleset int_rules = (val_add, val_mul, val_neg, val-≤, val-<, val-≡)

-- what holds of the values of expressions in xs holds of xs; ρ is xs, unknown, so that no rule applies inside it
pub ints : (xs : List ℤ) {G : Type 0}
    → ((ρ : List ℤ) → ((i : ℕ) → nth xs i ≡ val (var i) ρ) → ((k : ℕ) → pos k ≡ val (num k) ρ) → ((k : ℕ) → negsuc k ≡ val (neg k) ρ) → G)
    → G
unfolding val
ints xs f = f xs (λ i. refl) (λ k. refl) (λ k. refl)
