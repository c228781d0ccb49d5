-- `listing::list` meets its contract. The loop's invariant: the entries of the edges before k stand. Assumes nothing.
use mathlib.Core.Path.{refl}
use Rattle.reason.proofs.Laws.Listing.{listing_start, listing_turn, listing_done}
use Rattle.reason.proofs.listing.list.Goals as goal

pub loop-k-init : goal.loop-k-init
loop-k-init c =
    listing_start _ _ _ refl

pub loop-k-preserved : goal.loop-k-preserved
loop-k-preserved c =
    rw c.add.ensures
    (listing_turn _ _ c.requires.0 _ _ c.loop-k.invariant c.loop-k-test.true _ c.ends_at.ensures _ c.crossing.ensures)

pub returns : goal.returns
returns c =
    listing_done _ _ c.requires.0 _ _ c.loop-k.invariant c.loop-k-test.false
