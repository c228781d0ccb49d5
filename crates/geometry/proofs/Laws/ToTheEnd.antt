-- The code's run to the end on a list of finite doubles, by what `sum` promises of a run: it is not refused, it decides, and what it then
-- tells. Not here: which sign and how many steps that is (sum's `settled_told`). Assumes nothing.
use mathlib.Core.Path.{◌≡◌, refl, sym, ap, ◌∙◌, subst}
use mathlib.Core.List.{List}
use Prim.Native.Nat.{◌≤◌}
use lib.ListN.{length}
use lib.Ieee.{Float}
use Rattle.whole.specs.Sign.{sgn}
use Rattle.refusal.specs.Outcome.{answers}
use Rattle.refusal.specs.declared.Refusal.{Refusal}
use Rattle.refusal.proofs.Laws.Outcome.{never}
use Rattle.sum.specs.Limit.{limit}
use Rattle.sum.specs.Total.{total_of}
use Rattle.sum.specs.Run.{most_budget, sign, undecided, decision, Told, told, run_of, RunSays}
use Rattle.sum.specs.declared.answer.Sign.{Sign}
use Rattle.sum.specs.declared.answer.Ran.{Ran}
use Rattle.sum.proofs.Laws.Entries.{AllReal}
use Rattle.sum.proofs.Laws.Calls.{real_accepted, run_answers, run_told, settled_told}
use Rattle.std.specs.Prelude.{None, Ok, Option, Result, Some, IsOk, IsSome}

module _ (xs : List Float) (real : AllReal xs) (short : length xs ≤ limit) where
  module _ {left : List Float} {v : (Result Ran Refusal)} (says : RunSays xs most_budget v left) where
    -- the list is not refused
    pub end_answers : IsOk v
    end_answers =
        let (ran, done) = run_answers xs (real_accepted xs real short) left most_budget v says in
        subst (λ (u : Result Ran Refusal). IsOk u) (sym done) refl

    -- what it answers
    answered : (ran : Ran) → v ≡ Ok ran → run_of xs most_budget ≡ answers (told ran.verdict ran.steps)
    answered ran d = run_told xs left most_budget ran (subst (λ (u : Result Ran Refusal). RunSays xs most_budget u left) d says)

    -- the budget is enough
    pub end_decides : {ran : Ran} → v ≡ Ok ran → IsSome ran.verdict
    end_decides {ran} d = go ran.verdict refl
      where
        go : (w : Option Sign) → ran.verdict ≡ w → IsSome w
        go (Some s) u = refl
        go None u =
            let both = sym (answered ran d) ∙ (settled_told xs real short).1 in
            let t : told ran.verdict ran.steps ≡ record { decided = sign (sgn (total_of xs)); steps = (settled_told xs real short).0 } = cc in
            let f : undecided ≡ sign (sgn (total_of xs)) = sym (ap decision u) ∙ ap (λ (t : Told). t.decided) t in
            never (cc)

    -- the sign and the steps that it tells
    pub end_decided : {ran : Ran} {s : Sign} → v ≡ Ok ran → ran.verdict ≡ Some s
        → answers (told (Some s) ran.steps) ≡ run_of xs most_budget
    end_decided {ran} {s} d g = ap (λ (w : Option Sign). answers (told w ran.steps)) (sym g) ∙ sym (answered ran d)
