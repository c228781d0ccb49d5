-- So many entries stand.
use Rattle.serve.proofs.Laws.Reasons.{Entering}
use Rattle.serve.proofs.text.Text.put_entries.Given as goal

abbrev pub invariant-loop-entry : goal.invariant-loop-entry
invariant-loop-entry l = Entering l.entries l.initial.self l.self l.entry-index
