-- Which lists are refused. In order: the two tests in their order; a list that is not refused; with which number and place a list is refused,
-- both ways; what the end of the search for a fault says of every answer. Assumes nothing.
use mathlib.Core.Path.{◌≡◌, sym, ap₂, ◌∙◌, subst}
use mathlib.Core.List.{List, [], ◌∷◌}
use mathlib.Core.Logic.{inl, inr}
use Prim.Native.Nat.{ℕ, zero, suc, ◌≤◌, ◌<◌}
use native.Mathlib.Nat.{zero-add}
use native.Mathlib.Omega.{arith}
use lib.Dec.{T, leb}
use lib.ListN.{length}
use lib.Ieee.{Float, nan}
use lib.Ieee.Bits.{is_true}
use lib.Ieee.Scale.{finite}
use borrow.Author.Tests.{le-leb, lt-leb, leb-true, leb-false}
use Rattle.refusal.specs.declared.Refusal.{Refusal}
use Rattle.refusal.specs.Outcome.{answers, refuses, too_many, not_finite, kind_number}
use Rattle.refusal.specs.Search.{AllPass, IsFirst}
use Rattle.refusal.proofs.Laws.Judged.{require_holds, require_fails, require_answered, require_refused}
use Rattle.refusal.proofs.Laws.Search.{passing_whole, passing_answered, passing_first, passing_refused}
use Rattle.sum.specs.Limit.{limit}
use Rattle.sum.specs.Refused.{checked_from, checked, RefusedAs, AllFinite, Accepted}
use Rattle.sum.specs.Parts.{found, fault_of}
use Rattle.std.specs.Prelude.{Err, Ok}

-- every entry is finite, by its index
finite_pass : (xs : List Float) → AllFinite xs → AllPass finite nan xs
finite_pass [] f i h = let z : ⊥ = omega arith in absurd z
finite_pass (x ∷ xs) f zero h = is_true (finite x) f.0
finite_pass (x ∷ xs) f (suc i) h = finite_pass xs f.1 i (omega arith)

pass_finite : (xs : List Float) → AllPass finite nan xs → AllFinite xs
pass_finite [] h = tt
pass_finite (x ∷ xs) h = (subst T (sym (h 0 (omega arith))) tt, pass_finite xs (λ i l. h (suc i) (omega arith)))

-- ---- the two tests
module _ {A : Type 0} (xs : List Float) (answer : A) where
  pub checked_long : limit < length xs → checked xs answer ≡ refuses too_many 0
  unfolding checked
  checked_long h = require_fails too_many 0 (λ _. checked_from 0 xs answer) (lt-leb (length xs) limit h)

  pub checked_short : length xs ≤ limit → checked xs answer ≡ checked_from 0 xs answer
  unfolding checked
  checked_short h = require_holds too_many 0 (λ _. checked_from 0 xs answer) (le-leb (length xs) limit h)

  -- ---- a finite list within the limit is not refused, and no other is answered
  pub checked_accepted : Accepted xs → checked xs answer ≡ answers answer
  checked_accepted a = checked_short a.short ∙ passing_whole finite not_finite nan answer 0 xs (finite_pass xs a.finite)

  pub checked_answered : {given : A} → checked xs answer ≡ answers given → Accepted xs × (answer ≡ given)
  unfolding checked
  checked_answered {given} e =
      let (short, rest) = require_answered (leb (length xs) limit) too_many 0 (λ _. checked_from 0 xs answer) e in
      let (all, same) = passing_answered finite not_finite nan answer 0 xs given rest in
      (record { short = leb-true (length xs) limit short; finite = pass_finite xs all }, same)

  -- ---- with which number and place a list is refused
  pub checked_refused : (n p : ℕ) → RefusedAs xs n p → checked xs answer ≡ refuses n p
  checked_refused n p (inl (long, number, place)) = checked_long long ∙ ap₂ (λ (m k : ℕ). refuses m k) (sym number) (sym place)
  checked_refused n p (inr (short, number, first)) =
      checked_short short ∙ passing_first finite not_finite nan answer 0 xs p first
      ∙ ap₂ (λ (m k : ℕ). refuses m k) (sym number) (zero-add p)

  pub refused_checked : (n p : ℕ) → checked xs answer ≡ refuses n p → RefusedAs xs n p
  unfolding checked
  refused_checked n p e = elim (require_refused (leb (length xs) limit) too_many 0 (λ _. checked_from 0 xs answer) e) [
    | inl (long, number, place) ↦ inl (leb-false (length xs) limit long, number, place)
    | inr (short, rest) ↦
        let (same, (j, place, first)) = passing_refused finite not_finite nan answer 0 xs n p rest in
        inr (leb-true (length xs) limit short, same, subst (IsFirst finite nan xs) (sym (place ∙ zero-add j)) first)
  ]

-- ---- what a search that is over says
pub fault_none : (xs : List Float) → found (Ok tt) ≡ fault_of xs → Accepted xs
unfolding found
fault_none xs h = (checked_answered xs tt (sym h)).0

module _ {A : Type 0} (a : A) where
  pub checked_none : (xs : List Float) → found (Ok tt) ≡ fault_of xs → checked xs a ≡ answers a
  checked_none xs h = checked_accepted xs a (fault_none xs h)

  pub checked_at : (xs : List Float) (r : Refusal) → found (Err r) ≡ fault_of xs → checked xs a ≡ refuses (kind_number r.kind) r.place
  unfolding found
  checked_at xs r h = checked_refused xs a (kind_number r.kind) r.place (refused_checked xs tt (kind_number r.kind) r.place (sym h))
