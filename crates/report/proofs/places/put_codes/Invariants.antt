-- `report::places::put_codes` meets its contract: the codes of i releases stand. Assumes nothing.
use Rattle.report.proofs.Laws.Codes.{Coding}
use Rattle.report.proofs.places.put_codes.Given as goal

abbrev pub invariant-loop-i : goal.invariant-loop-i
invariant-loop-i l = Coding l.corners l.releases l.codes l.i
