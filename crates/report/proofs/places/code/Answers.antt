-- `report::places::code` meets its contract: case by case. Assumes nothing.
use Rattle.geometry.specs.Zone.{place_said}
use Rattle.report.proofs.places.code.Goals as goal

pub returns-in-Outside : goal.returns-in-Outside
unfolding place_said
returns-in-Outside c =
    rw c.in-Outside.is

pub returns-in-Border : goal.returns-in-Border
unfolding place_said
returns-in-Border c =
    rw c.in-Border.is

pub returns-in-Inside : goal.returns-in-Inside
unfolding place_said
returns-in-Inside c =
    rw c.in-Inside.is
