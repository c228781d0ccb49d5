-- A refusal is known by its number and its place: what the uniqueness of every public promise rests on; it is no answer; and what the code answers
-- is known by its outcome. Assumes nothing.
use mathlib.Core.Path.{◌≡◌, refl, ap, ap₂, sym, ◌∙◌}
use Prim.Native.Nat.{ℕ, zero, suc, ◌≤◌}
use native.Mathlib.Omega.{arith}
use Rattle.std.specs.Prelude.{Result, Ok, Err}
use Rattle.refusal.specs.Outcome.{Outcome, answers, refuses, kind_number, NumberSays, RefusedSays, outcome, Fixes}
use Rattle.refusal.specs.declared.Kind.{Kind}
use Rattle.refusal.specs.declared.Kind.TheVariants.{TooMany, NotFinite, NotAccepted, TooFewCorners, OddLength, EndsEarly, NotShortest, BytesAfter, NoRoom}
use Rattle.refusal.specs.declared.Refusal.{Refusal}

-- the kind that has a number; of a number that none has, the last
of_number : ℕ → Kind
of_number zero = NoRoom
of_number (suc zero) = TooMany
of_number (suc (suc zero)) = NotFinite
of_number (suc (suc (suc zero))) = NotAccepted
of_number (suc (suc (suc (suc zero)))) = TooFewCorners
of_number (suc (suc (suc (suc (suc zero))))) = OddLength
of_number (suc (suc (suc (suc (suc (suc zero)))))) = EndsEarly
of_number (suc (suc (suc (suc (suc (suc (suc zero))))))) = NotShortest
of_number (suc (suc (suc (suc (suc (suc (suc (suc zero)))))))) = BytesAfter
of_number (suc (suc (suc (suc (suc (suc (suc (suc (suc n))))))))) = NoRoom

kind_back : (k : Kind) → of_number (kind_number k) ≡ k
unfolding of_number
kind_back TooMany = refl
kind_back NotFinite = refl
kind_back NotAccepted = refl
kind_back TooFewCorners = refl
kind_back OddLength = refl
kind_back EndsEarly = refl
kind_back NotShortest = refl
kind_back BytesAfter = refl
kind_back NoRoom = refl

-- the table has nine
pub kind_number_most : (k : Kind) → kind_number k ≤ 9
kind_number_most TooMany = omega arith
kind_number_most NotFinite = omega arith
kind_number_most NotAccepted = omega arith
kind_number_most TooFewCorners = omega arith
kind_number_most OddLength = omega arith
kind_number_most EndsEarly = omega arith
kind_number_most NotShortest = omega arith
kind_number_most BytesAfter = omega arith
kind_number_most NoRoom = omega arith

-- no two kinds have one number
pub kind_number_once : (k l : Kind) → kind_number k ≡ kind_number l → k ≡ l
kind_number_once k l e = sym (kind_back k) ∙ ap of_number e ∙ kind_back l

pub number_fixed : (k : Kind) → Fixes (NumberSays k)
number_fixed k a b p q = p ∙ sym q

pub refused_fixed : {A : Type 0} (kind : Kind) (place : ℕ) → Fixes (λ (r : Result A Refusal). RefusedSays kind place r)
refused_fixed kind place a b p q = p ∙ sym q

pub refusal_once : (r q : Refusal) → kind_number r.kind ≡ kind_number q.kind → r.place ≡ q.place → r ≡ q
refusal_once r q n p =
    ap₂ (λ (a : Kind) (b : ℕ). let x : Refusal = record { kind = a; place = b } in x) (kind_number_once r.kind q.kind n) p

pub refuses_once : {A : Type 0} (r q : Refusal)
    → ◌≡◌ {A = Outcome A} (refuses (kind_number r.kind) r.place) (refuses (kind_number q.kind) q.place) → r ≡ q
refuses_once r q e =
    let n : kind_number r.kind ≡ kind_number q.kind = cc in
    let p : r.place ≡ q.place = cc in
    refusal_once r q n p

-- 0 is not 1: what two cases that differ come to
pub never : {A : Type 0} → ◌≡◌ {A = ℕ} 0 1 → A
never e = let w : ⊥ = omega arith in absurd w

pub no_refusal : {A B : Type 0} {n p : ℕ} {a : A} → ◌≡◌ {A = Outcome A} (refuses n p) (answers a) → B
no_refusal e = never (cc)

-- ---- what the code answers
module _ {A B : Type 0} (value : A → B) where
  -- a refusal is answered where its number and place are its outcome
  pub outcome_refused : (r : Result A Refusal) (q : Refusal) → outcome value r ≡ refuses (kind_number q.kind) q.place → r ≡ Err q
  outcome_refused (Ok a) q e = no_refusal (sym e)
  outcome_refused (Err r) q e = ap Err (refuses_once r q e)

  -- an answer is given where its outcome answers
  pub outcome_answers : (r : Result A Refusal) {b : B} → outcome value r ≡ answers b → (a : A) × (r ≡ Ok a) × (value a ≡ b)
  outcome_answers (Ok a) e = (a, refl, cc)
  outcome_answers (Err r) e = no_refusal e

  -- the outcome fixes what is answered, where the value does
  pub outcome_once : ((a b : A) → value a ≡ value b → a ≡ b) → (r q : Result A Refusal) → outcome value r ≡ outcome value q → r ≡ q
  outcome_once once (Ok a) (Ok b) e = ap Ok (once a b (cc))
  outcome_once once (Ok a) (Err q) e = no_refusal (sym e)
  outcome_once once (Err r) (Ok b) e = no_refusal e
  outcome_once once (Err r) (Err q) e = ap Err (refuses_once r q e)
