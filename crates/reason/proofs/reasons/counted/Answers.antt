-- `reasons::counted` meets its contract: the entries fit, or they do not. Assumes nothing.
use mathlib.Core.Path.{ap}
use mathlib.Core.List.{List, ◌++◌}
use Prim.Native.Nat.{ℕ}
use lib.ListN.{drop, length}
use Rattle.reason.proofs.Laws.Why.{counted_few, counted_as}
use Rattle.reason.proofs.reasons.counted.Goals as goal

pub entries-entries-requires : goal.entries-entries-requires
entries-entries-requires c =
    let listed = c.list-listed.ensures in
    (counted_few _ _ c.requires.0 c.requires.1.accepted _ listed, listed.kept)

pub returns : goal.returns
returns c =
    let entries = c.entries-entries.result.now in
    counted_as _ _ c.requires.0 c.requires.1.accepted _ c.list-listed.ensures _ _ c.signed_difference.ensures _ _
    c.entries-entries.ensures c.if-room-n.false
    (ap (λ (l : List ℕ). l ++ drop (length entries) c.args.room.now) c.copy_from_slice.ensures.after)
