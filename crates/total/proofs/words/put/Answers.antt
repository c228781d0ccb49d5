-- `total::words::put` meets its contract: the two words stand behind exponent / 64 others, and the sign bit says which way they go.
-- Assumes nothing.
use Rattle.std.proofs.Common.{arith}
use Rattle.total.proofs.Laws.Changed.{put_room, put_units}
use Rattle.total.proofs.words.put.Goals as goal

pub change-requires : goal.change-requires
change-requires c =
    put_room c.args.words.now _ _ c.requires.0 c.requires.1

pub returns : goal.returns
returns c =
    put_units _ _ _ _ (omega (arith, c.requires.0, c.requires.1)) _ c.change.ensures
