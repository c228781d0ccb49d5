-- `track::reader::counted` meets its contract: by the tests, and by what is read after them. Assumes nothing.
use mathlib.Core.Path.{ap}
use Rattle.track.specs.Read.{said}
use Rattle.track.proofs.Laws.Read.{counted_many, counted_short, counted_read, promised_refused, promised_as}
use Rattle.track.proofs.reader.counted.Goals as goal

pub returns-then-count : goal.returns-then-count
returns-then-count c = promised_refused (counted_many _ _ _ _ c.if-count.true) (ap said c.refused.ensures)

pub returns-then-out-points : goal.returns-then-out-points
returns-then-out-points c =
    promised_refused (counted_short _ _ _ _ c.if-count.false c.if-out-points.true) (ap said c.refused-then-out-points.ensures)

pub returns : goal.returns
returns c = promised_as (counted_read _ _ _ _ c.if-count.false c.if-out-points.false) c.deliver.ensures
