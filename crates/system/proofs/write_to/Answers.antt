-- What is done of the text grows by what one write took; where one fails, what was done is a start of the text.
use Rattle.std.proofs.Common.{rules, ◌≡◌, ℕ, ◌-◌, List, ◌++◌, Option, length, length-append, take, drop, arith}
use Rattle.std.proofs.Common.{sym, ap, ◌∙◌, subst, append_assoc, take-append-drop}
use Rattle.std.proofs.lemmas.List.{take_rest}
use Rattle.std.proofs.Math.Seq.{take-append_seam}
use Rattle.std.specs.Io.KnownBytes.{Appends}
use Rattle.std.proofs.KnownBytes.{Appends-trans, Appends-kept}
use Rattle.system.specs.Moved.{AppendsStart}
use Rattle.system.proofs.write_to.Goals as goal

turn : (text rest done : List ℕ) (k : ℕ) → done ++ rest ≡ text → (done ++ take k rest) ++ take (length rest - k) (drop k rest) ≡ text
turn text rest done k e =
    append_assoc done (take k rest) _ ∙ ap (λ l. done ++ (take k rest ++ l)) (take_rest rest k) ∙ ap (λ l. done ++ l) (take-append-drop k rest) ∙ e

start : (old new : Option (List ℕ)) (text rest done : List ℕ) → done ++ rest ≡ text → Appends old new done → AppendsStart old new text
start old new text rest done e a =
    let first : done ≡ take (length done) text = sym (take-append_seam done rest) ∙ ap (take (length done)) e in
    (length done, omega (arith, length-append done rest, ap length e), subst (Appends old new) first a)

pub loop-rest-preserved : goal.loop-rest-preserved
loop-rest-preserved g c =
    let rest = c.loop-rest.rest.now in
    let k = c.in_ok-k.k in
    let said = c.loop-rest.invariant in
    (said.0 ++ take k rest, turn _ rest said.0 k said.1, Appends-trans _ _ _ _ _ said.2 c.in_ok-k.ensures.bytes)

pub returns-in_err-k-clause-start : goal.returns-in_err-k-clause-start
returns-in_err-k-clause-start g c =
    let said = c.loop-rest.invariant in
    let done = start _ _ _ _ said.0 said.1 (Appends-kept _ _ _ _ said.2 c.in_err-k.ensures.bytes) in
    search (rules, done)

pub returns-then-k-eq0-clause-start : goal.returns-then-k-eq0-clause-start
returns-then-k-eq0-clause-start g c =
    let said = c.loop-rest.invariant in
    start _ _ _ _ _ (turn _ c.loop-rest.rest.now said.0 c.in_ok-k.k said.1) (Appends-trans _ _ _ _ _ said.2 c.in_ok-k.ensures.bytes)
