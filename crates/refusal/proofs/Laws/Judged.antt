-- Refusals one after the other. In order: the two sides of a test; what follows an answer, and what a refusal leaves; what an answer tells
-- of what was judged before it, and what a refusal tells; what each refusal of a judgement is. Not here: that a refusal is known by its
-- number and place (`Outcome`). Assumes nothing.
use Prim.Native.Nat.{ℕ}
use mathlib.Core.Path.{◌≡◌, refl, ap, subst}
use mathlib.Core.Bool.{Bool, true, false, cond}
use mathlib.Core.Logic.{◌⊎◌, inl, inr}
use Rattle.refusal.specs.Outcome.{Outcome, answers, refuses}
use Rattle.refusal.specs.Judged.{require, also}
use Rattle.refusal.proofs.Laws.Outcome.{never}

-- ---- a test
pub cond_yes : {A : Type 0} {t : Bool} (x y : A) → t ≡ true → cond t x y ≡ x
cond_yes x y h = ap (λ (t : Bool). cond t x y) h

pub cond_no : {A : Type 0} {t : Bool} (x y : A) → t ≡ false → cond t x y ≡ y
cond_no x y h = ap (λ (t : Bool). cond t x y) h

-- ---- one judgement after another
module _ {A B : Type 0} (next : A → Outcome B) {o : Outcome A} where
  pub also_answers : {a : A} → o ≡ answers a → also o next ≡ next a
  also_answers e = ap (λ (z : Outcome A). also z next) e

  pub also_refuses : {number place : ℕ} → o ≡ refuses number place → also o next ≡ refuses number place
  also_refuses e = ap (λ (z : Outcome A). also z next) e

module _ {B : Type 0} {t : Bool} (number place : ℕ) (next : Unit → Outcome B) where
  pub require_holds : t ≡ true → also (require t number place) next ≡ next tt
  require_holds e = ap (λ (z : Bool). also (require z number place) next) e

  pub require_fails : t ≡ false → also (require t number place) next ≡ refuses number place
  require_fails e = ap (λ (z : Bool). also (require z number place) next) e

-- ---- what an answer tells
pub also_answered : {A B : Type 0} (o : Outcome A) (next : A → Outcome B) {b : B} → also o next ≡ answers b
    → (a : A) × (o ≡ answers a) × (next a ≡ answers b)
also_answered (answers a) next e = (a, refl, e)
also_answered (refuses number place) next e = never (cc)

pub require_answered : {B : Type 0} (t : Bool) (number place : ℕ) (next : Unit → Outcome B) {b : B}
    → also (require t number place) next ≡ answers b → (t ≡ true) × (next tt ≡ answers b)
require_answered true number place next e = (refl, e)
require_answered false number place next e = never (cc)

-- ---- what a refusal tells
pub also_refused : {A B : Type 0} (o : Outcome A) (f : A → B) {number place : ℕ} → also o (λ a. answers (f a)) ≡ refuses number place
    → o ≡ refuses number place
also_refused (answers a) f e = never (cc)
also_refused (refuses n p) f {number} {place} e =
    let a : n ≡ number = cc in
    let b : p ≡ place = cc in
    λ i. refuses (a i) (b i)

-- a test refused, or what came after it
pub require_refused : {B : Type 0} (t : Bool) (n p : ℕ) (next : Unit → Outcome B) {number place : ℕ}
    → also (require t n p) next ≡ refuses number place
    → ((t ≡ false) × (number ≡ n) × (place ≡ p)) ⊎ ((t ≡ true) × (next tt ≡ refuses number place))
require_refused true n p next e = inr (refl, e)
require_refused false n p next e = inl (refl, cc, cc)

-- what holds of the refusal, and of what comes after
pub require_either : {B : Type 0} (P : Outcome B → Type 0) (t : Bool) (n p : ℕ) (next : Unit → Outcome B)
    → P (refuses n p) → P (next tt) → P (also (require t n p) next)
require_either P true n p next h k = k
require_either P false n p next h k = h

-- ---- what each refusal is
abbrev pub Each : {A : Type 0} → (ℕ → ℕ → Type 0) → Outcome A → Type 0
Each such o = (number place : ℕ) → o ≡ refuses number place → such number place

module _ (such : ℕ → ℕ → Type 0) where
  pub each_answers : {A : Type 0} (a : A) → Each such (answers a)
  each_answers a number place e = never (cc)

  pub each_refuses : {A : Type 0} (n p : ℕ) → such n p → Each {A = A} such (refuses n p)
  each_refuses n p h number place e =
      let a : n ≡ number = cc in
      let b : p ≡ place = cc in
      subst (λ (z : ℕ). such z place) a (subst (such n) b h)

  pub each_also : {A B : Type 0} (o : Outcome A) (next : A → Outcome B) → Each such o → ((a : A) → o ≡ answers a → Each such (next a))
      → Each such (also o next)
  each_also (answers a) next h k = k a refl
  each_also {B = B} (refuses n p) next h k = each_refuses {A = B} n p (h n p refl)

  pub each_require : {B : Type 0} (t : Bool) (n p : ℕ) (next : Unit → Outcome B) → (t ≡ false → such n p)
      → (t ≡ true → Each such (next tt))
      → Each such (also (require t n p) next)
  each_require true n p next h k = k refl
  each_require {B = B} false n p next h k = each_refuses {A = B} n p (h refl)
