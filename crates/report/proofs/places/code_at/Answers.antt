-- `report::places::code_at` meets its contract: the zone answers a place for every accepted point. Assumes nothing.
use mathlib.Core.Path.{◌∙◌}
use Rattle.report.proofs.Laws.Codes.{code_place, code_placed}
use Rattle.report.proofs.places.code_at.Goals as goal

pub unwrap-requires : goal.unwrap-requires
unwrap-requires c = code_placed _ _ _ c.requires.0 c.requires.1 c.zone.ensures

pub returns : goal.returns
returns c = c.code.ensures ∙ code_place _ _ _ c.requires.0 c.requires.1 c.zone.ensures _ c.unwrap.ensures
