-- `reasons::why` meets its contract: the zone's answer, or its refusal. Assumes nothing.
use mathlib.Core.Path.{sym}
use Rattle.std.proofs.lemmas.Result.{err_from_is_err_and}
use Rattle.geometry.specs.Zone.{zone_said}
use Rattle.geometry.proofs.Laws.Owned.{owned_doubles}
use Rattle.reason.proofs.Laws.Why.{answered_zoned, zone_refused_says}
use Rattle.reason.proofs.reasons.why.Goals as goal

pub placed-requires : goal.placed-requires
unfolding zone_said
placed-requires c =
    let (zoned, accepted, place) = answered_zoned _ _ _ (sym c.in_ok-zone.ensures) in
    let p = c.well_formed.1.0.1.1 in
    (zoned, record { accepted = accepted; of_doubles = owned_doubles _ p.0.1 p.1.0.1 }, place)

pub returns-in_err-zone : goal.returns-in_err-zone
unfolding zone_said
returns-in_err-zone c =
    let p = err_from_is_err_and c.from_residual.result c.from_residual.ensures.1 in
    rw (p.1, p.2) (zone_refused_says _ _ _ _ c.in_err-zone.ensures)
