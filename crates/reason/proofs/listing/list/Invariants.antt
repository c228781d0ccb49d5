-- `listing::list` meets its contract. The loop's invariant: the entries of the edges before k stand. Assumes nothing.
use Rattle.reason.proofs.Laws.Listing.{Listing}
use Rattle.reason.proofs.listing.list.Given as goal

abbrev pub invariant-loop-k : goal.invariant-loop-k
invariant-loop-k l = Listing l.corners l.p l.k l.listed
