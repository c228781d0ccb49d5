-- The search for the first entry that fails a test. In order: its turns, over a list that is gone through by index; an answer says that
-- every entry passes, and a refusal which entry is the first that fails, both ways; any other answer is given or refused where one is.
-- Assumes nothing.
use mathlib.Core.Path.{◌≡◌, refl, sym, ap, ap₂, ◌∙◌, subst}
use mathlib.Core.Logic.{◌↔◌}
use mathlib.Core.Bool.{Bool, true, false, cond}
use mathlib.Core.List.{List, [], ◌∷◌}
use Prim.Native.Nat.{ℕ, zero, suc, ◌+◌, ◌≤◌, ◌<◌}
use native.Mathlib.Nat.{add-zero, zero-add}
use native.Mathlib.Numerals.{add-one}
use native.Mathlib.Omega.{arith}
use lib.ListN.{length, drop, get_or, drop_of_length-le}
use lib.Seq.{drop-cons}
use Rattle.refusal.specs.Outcome.{answers, refuses}
use Rattle.refusal.specs.Search.{passing_from, AllPass, IsFirst}
use Rattle.refusal.proofs.Laws.Outcome.{no_refusal}

module _ {E : Type 0} (test : E → Bool) (number : ℕ) where
  -- ---- the turns; the entry at index i has this place
  module _ {A : Type 0} (none : E) (xs : List E) (answer : A) (place i : ℕ) where
    pub passing_here : i < length xs → test (get_or xs i none) ≡ false
        → passing_from test number place (drop i xs) answer ≡ refuses number place
    unfolding passing_from
    passing_here h e = rw (drop-cons xs i none h, e)

    pub passing_later : i < length xs → test (get_or xs i none) ≡ true
        → passing_from test number place (drop i xs) answer ≡ passing_from test number (place + 1) (drop (i + 1) xs) answer
    unfolding passing_from
    passing_later h e = rw (drop-cons xs i none h, e, add-one i) refl

  pub passing_end : {A : Type 0} (xs : List E) (answer : A) (place i : ℕ) → length xs ≤ i
      → passing_from test number place (drop i xs) answer ≡ answers answer
  unfolding passing_from
  passing_end xs answer place i h = rw (drop_of_length-le xs h)

  -- ---- an answer
  module _ {A : Type 0} (none : E) (answer : A) where
    pub passing_whole : (i : ℕ) (xs : List E) → AllPass test none xs → passing_from test number i xs answer ≡ answers answer
    unfolding passing_from
    passing_whole i [] h = refl
    passing_whole i (x ∷ xs) h = rw (h 0 (omega arith)) (passing_whole (i + 1) xs (λ k l. h (suc k) (omega arith)))

    pub passing_answered : (i : ℕ) (xs : List E) (given : A) → passing_from test number i xs answer ≡ answers given
        → AllPass test none xs × (answer ≡ given)
    unfolding passing_from
    passing_answered i [] given e = (λ k l. let z : ⊥ = omega arith in absurd z, cc)
    passing_answered i (x ∷ xs) given e = go (test x) refl (passing_answered (i + 1) xs given) e
      where
        go : (b : Bool) → test x ≡ b → (passing_from test number (i + 1) xs answer ≡ answers given → AllPass test none xs × (answer ≡ given))
            → cond b (passing_from test number (i + 1) xs answer) (refuses number i) ≡ answers given
            → AllPass test none (x ∷ xs) × (answer ≡ given)
        go true t later e = (λ k l. each t (later e).0 k l, (later e).1)
          where
            each : test x ≡ true → AllPass test none xs → AllPass test none (x ∷ xs)
            each t a zero l = t
            each t a (suc k) l = a k (omega arith)
        go false t later e = no_refusal e

    -- ---- a refusal
    pub passing_first : (i : ℕ) (xs : List E) (j : ℕ) → IsFirst test none xs j → passing_from test number i xs answer ≡ refuses number (i + j)
    unfolding passing_from
    passing_first i [] j f = let z : ⊥ = omega (arith, f.inside) in absurd z
    passing_first i (x ∷ xs) zero f = rw f.fails (ap (λ (k : ℕ). refuses number k) (sym (add-zero i)))
    passing_first i (x ∷ xs) (suc j) f =
        rw (f.before 0 (omega arith)) (passing_first (i + 1) xs j (record {
          inside = omega (arith, f.inside);
          fails = f.fails;
          before = λ k l. f.before (suc k) (omega arith);
        }) ∙ ap (λ (k : ℕ). refuses number k) place)
      where
        place : i + 1 + j ≡ i + suc j
        place = omega arith

    -- which number, and the first index
    pub passing_refused : (i : ℕ) (xs : List E) (n p : ℕ) → passing_from test number i xs answer ≡ refuses n p
        → (n ≡ number) × ((j : ℕ) × (p ≡ i + j) × IsFirst test none xs j)
    unfolding passing_from
    passing_refused i [] n p e = no_refusal (sym e)
    passing_refused i (x ∷ xs) n p e = go (test x) refl (passing_refused (i + 1) xs n p) e
      where
        later_first : (j : ℕ) → test x ≡ true → IsFirst test none xs j → IsFirst test none (x ∷ xs) (suc j)
        later_first j t f = record {
          inside = omega (arith, f.inside);
          fails = f.fails;
          before = λ k l. before k l;
        }
          where
            before : (k : ℕ) → k < suc j → test (get_or (x ∷ xs) k none) ≡ true
            before zero l = t
            before (suc k) l = f.before k (omega arith)

        go : (b : Bool) → test x ≡ b
            → (passing_from test number (i + 1) xs answer ≡ refuses n p → (n ≡ number) × ((j : ℕ) × (p ≡ i + 1 + j) × IsFirst test none xs j))
            → cond b (passing_from test number (i + 1) xs answer) (refuses number i) ≡ refuses n p
            → (n ≡ number) × ((j : ℕ) × (p ≡ i + j) × IsFirst test none (x ∷ xs) j)
        go true t later e =
            let (same, (j, place, first)) = later e in
            (same, (suc j, omega arith, later_first j t first))
        go false t later e = let place : i ≡ p = cc in (
          cc,
          (0, omega (arith, place), record { inside = omega arith; fails = t; before = λ k l. let z : ⊥ = omega arith in absurd z }),
        )

-- refused exactly at the first entry that fails
pub passing_iff : {E A : Type 0} (test : E → Bool) (number : ℕ) (none : E) (xs : List E) (answer : A) (n p : ℕ)
    → (passing_from test number 0 xs answer ≡ refuses n p) ↔ ((n ≡ number) × IsFirst test none xs p)
passing_iff {E} {A} test number none xs answer n p = (found, refused)
  where
    found : passing_from test number 0 xs answer ≡ refuses n p → (n ≡ number) × IsFirst test none xs p
    found e =
        let (same, (j, at, first)) = passing_refused test number none answer 0 xs n p e in
        (same, subst (IsFirst test none xs) (sym (at ∙ zero-add j)) first)

    refused : (n ≡ number) × IsFirst test none xs p → passing_from test number 0 xs answer ≡ refuses n p
    refused (same, first) =
        passing_first test number none answer 0 xs p first ∙ ap₂ (λ (m k : ℕ). refuses m k) (sym same) (zero-add p)

-- ---- two tests that agree on every entry
pub passing_alike : {E A : Type 0} (one other : E → Bool) (number : ℕ) (none : E) (answer : A) (i : ℕ) (xs : List E)
    → ((k : ℕ) → k < length xs → one (get_or xs k none) ≡ other (get_or xs k none))
    → passing_from one number i xs answer ≡ passing_from other number i xs answer
unfolding passing_from
passing_alike one other number none answer i [] alike = refl
passing_alike one other number none answer i (x ∷ xs) alike =
    rw (alike 0 (omega arith), passing_alike one other number none answer (i + 1) xs (λ k l. alike (suc k) (omega arith)))

-- ---- another answer is given, or refused, where one is
module _ {E A B : Type 0} (test : E → Bool) (number i : ℕ) (none : E) (xs : List E) (one : A) (other : B) where
  pub passing_other : {given : A} → passing_from test number i xs one ≡ answers given → passing_from test number i xs other ≡ answers other
  passing_other {given} e = passing_whole test number none other i xs (passing_answered test number none one i xs given e).0

  pub failing_other : {n p : ℕ} → passing_from test number i xs one ≡ refuses n p → passing_from test number i xs other ≡ refuses n p
  failing_other {n} {p} e =
      let (same, (j, place, first)) = passing_refused test number none one i xs n p e in
      passing_first test number none other i xs j first ∙ ap₂ (λ (m k : ℕ). refuses m k) (sym same) (sym place)
