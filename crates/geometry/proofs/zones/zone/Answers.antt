-- `zones::zone` meets its contract: the refusals in their order, and then the place. Assumes nothing.
use mathlib.Core.Path.{sym, ap, ◌∙◌}
use Rattle.std.proofs.lemmas.Result.{err_from_is_err_and}
use Rattle.geometry.specs.Zone.{zone_said}
use Rattle.geometry.proofs.Laws.Zone.{zone_odd, zone_small, zone_large, zone_x, zone_y, zone_corner, zone_place, zone_zoned}
use Rattle.point.specs.Accepted.{Accepted}
use Rattle.geometry.proofs.zones.zone.Goals as goal
use Rattle.geometry.proofs.zones.zone.Goals.{After-corners_accepted}

pub returns-then-corners-eq1 : goal.returns-then-corners-eq1
unfolding zone_said
returns-then-corners-eq1 c =
    ap zone_said c.refused.ensures ∙ zone_odd _ _ c.if-corners-eq1.true

pub returns-then-n-lt-FEWEST : goal.returns-then-n-lt-FEWEST
unfolding zone_said
returns-then-n-lt-FEWEST c =
    ap zone_said c.refused-then-n-lt-FEWEST.ensures ∙ zone_small _ _ c.if-corners-eq1.false c.if-n-lt-FEWEST.true

pub returns-then-n-gt-MOST : goal.returns-then-n-gt-MOST
unfolding zone_said
returns-then-n-gt-MOST c =
    ap zone_said c.refused-then-n-gt-MOST.ensures ∙ zone_large _ _ c.if-corners-eq1.false c.if-n-lt-FEWEST.false c.if-n-gt-MOST.true

pub returns-then-not-accepted : goal.returns-then-not-accepted
unfolding zone_said
returns-then-not-accepted c =
    ap zone_said c.refused-then-not-accepted.ensures
    ∙ zone_x _ _ c.if-corners-eq1.false c.if-n-lt-FEWEST.false c.if-n-gt-MOST.false
    (sym c.accepted.ensures ∙ c.if-not-accepted.true)

pub returns-then-not-accepted-2 : goal.returns-then-not-accepted-2
unfolding zone_said
returns-then-not-accepted-2 c =
    ap zone_said c.refused-then-not-accepted-2.ensures
    ∙ zone_y _ _ c.if-corners-eq1.false c.if-n-lt-FEWEST.false c.if-n-gt-MOST.false
    (sym c.accepted.ensures ∙ c.if-not-accepted.false)
    (sym c.accepted-2.ensures ∙ c.if-not-accepted-2.true)

-- the point, once both its coordinates are accepted
both : (c : After-corners_accepted) → Accepted c.args.p
both c = record { x = sym c.accepted.ensures ∙ c.if-not-accepted.false; y = sym c.accepted-2.ensures ∙ c.if-not-accepted-2.false }

pub returns-in_err-corners_accepted : goal.returns-in_err-corners_accepted
returns-in_err-corners_accepted c =
    let e = err_from_is_err_and c.from_residual.result c.from_residual.ensures.1 in
    rw (e.1, e.2) (zone_corner _ _ c.if-corners-eq1.false c.if-n-lt-FEWEST.false c.if-n-gt-MOST.false
    (both (goal.at.returns-in_err-corners_accepted c).After-corners_accepted) _ c.in_err-corners_accepted.ensures)

pub place-requires : goal.place-requires
place-requires c = (
  zone_zoned _ c.if-corners-eq1.false c.if-n-lt-FEWEST.false c.if-n-gt-MOST.false c.in_ok-corners_accepted.ensures,
  both (goal.at.place-requires c).After-corners_accepted,
)

pub returns : goal.returns
returns c =
    zone_place _ _ c.if-corners-eq1.false c.if-n-lt-FEWEST.false c.if-n-gt-MOST.false
    (both (goal.at.returns c).After-corners_accepted) c.in_ok-corners_accepted.ensures _ c.place.ensures
