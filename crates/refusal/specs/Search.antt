-- The first entry of a list that fails a test: docs/RULES.md, section Order. Said once for every list that a call is handed: the test
-- and the refusal's number are parameters.
use Rattle.std.specs.Prelude.{ℕ, ◌+◌, ◌<◌, ◌≡◌, Bool, true, false, cond, List, [], ◌∷◌, length, get_or}
use Rattle.refusal.specs.Outcome.{Outcome, answers, refuses}

-- Order 2: the answer, or this number at the place of the first entry that fails; the list's places begin at i
unfoldable pub passing_from : {E A : Type 0} → (E → Bool) → ℕ → ℕ → List E → A → Outcome A
passing_from test number i [] answer = answers answer
passing_from test number i (x ∷ xs) answer = cond (test x) (passing_from test number (i + 1) xs answer) (refuses number i)

-- every entry passes; beyond the end of the list stands `none`
abbrev pub AllPass : {E : Type 0} → (E → Bool) → E → List E → Type 0
AllPass test none xs = (i : ℕ) → i < length xs → test (get_or xs i none) ≡ true

-- entry j is the first that fails
pub record IsFirst {E : Type 0} (test : E → Bool) (none : E) (xs : List E) (j : ℕ) : Type 0 where
  pub inside : j < length xs
  pub fails : test (get_or xs j none) ≡ false
  pub before : (i : ℕ) → i < j → test (get_or xs i none) ≡ true
