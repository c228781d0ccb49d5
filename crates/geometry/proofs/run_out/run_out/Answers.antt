-- `run_out::run_out` meets its contract: the run is not refused, and decides within the budget. Assumes nothing.
use mathlib.Core.Path.{ap}
use Rattle.geometry.specs.Plane.{counted_by}
use Rattle.geometry.proofs.Laws.ToTheEnd.{end_answers, end_decides, end_decided}
use Rattle.geometry.proofs.run_out.run_out.Goals as goal

pub unwrap-ran-requires : goal.unwrap-ran-requires
unwrap-ran-requires c = end_answers _ c.requires.0 c.requires.1 c.run.ensures

pub unwrap-requires : goal.unwrap-requires
unwrap-requires c = end_decides _ c.requires.0 c.requires.1 c.run.ensures c.unwrap-ran.ensures

pub returns : goal.returns
returns c =
    ap counted_by (end_decided _ c.requires.0 c.requires.1 c.run.ensures c.unwrap-ran.ensures c.unwrap.ensures)
