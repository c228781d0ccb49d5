-- `plans::folded` meets its contract. The loop's invariant: the zones that are left, with the claim of those before, come to what all come to.
-- Assumes nothing.
use Rattle.crease.proofs.Laws.Zones.{Turn}
use Rattle.crease.proofs.plans.folded.Given as goal

abbrev pub invariant-loop-k : goal.invariant-loop-k
invariant-loop-k l = Turn l.counts l.corners l.p l.k l.claim l.rest
