-- `zones::with_edge` meets its contract: by the case of the crossing. Assumes nothing.
use mathlib.Core.Path.{sym, ap}
use Rattle.geometry.specs.Parts.{with_edge}
use Rattle.geometry.proofs.zones.with_edge.Goals as goal

pub returns-in-Up : goal.returns-in-Up
returns-in-Up c =
    ap (with_edge _) (sym c.in-Up.is)

pub returns-in-Down : goal.returns-in-Down
returns-in-Down c =
    ap (with_edge _) (sym c.in-Down.is)
