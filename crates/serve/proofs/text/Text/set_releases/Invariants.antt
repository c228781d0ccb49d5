-- The header and i lines stand.
use Rattle.serve.proofs.Laws.Text.{Writing}
use Rattle.serve.proofs.text.Text.set_releases.Given as goal

abbrev pub invariant-loop-i : goal.invariant-loop-i
invariant-loop-i l = Writing l.codes l.self l.i
