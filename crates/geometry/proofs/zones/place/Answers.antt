-- `zones::place` meets its contract. Assumes nothing.
use mathlib.Core.Path.{◌≡◌, sym, ap, ap₂, subst, ◌∙◌}
use Rattle.point.specs.Accepted.{Accepted}
use Rattle.point.specs.Spot.{spot_of}
use Rattle.point.specs.declared.Point.{Point}
use Rattle.geometry.specs.Zone.{corner_at, next_of, place_said}
use Rattle.ground.specs.Edge.{edge, on_edge}
use Rattle.ground.specs.Zone.{border}
use Rattle.geometry.proofs.Laws.Zone.{next_inside, walk_start, walk_here, walk_later, walk_end}
use Rattle.geometry.proofs.Laws.Zone.{off_inside, off_outside}
use Rattle.geometry.proofs.zones.place.Goals as goal

pub loop-k-init : goal.loop-k-init
loop-k-init c =
    walk_start _ _

pub meets-requires : goal.meets-requires
meets-requires c =
    let z = c.requires.0 in
    let k = c.loop-k.k in (
      subst Accepted (sym c.corner_at.ensures) (z.accepted k c.loop-k-test.true),
      subst Accepted (sym (c.corner_at-in-loop-k.ensures ∙ ap (corner_at c.args.corners.now) c.next_of.ensures))
          (z.accepted (next_of c.args.n k) (next_inside k c.args.n c.loop-k-test.true)),
      c.requires.1,
    )

pub loop-k-preserved : goal.loop-k-preserved
loop-k-preserved c =
    let xs = c.args.corners.now in
    let at = ap₂ (λ (a b : Point). on_edge (edge (spot_of a) (spot_of b)) (spot_of c.args.p)) c.corner_at.ensures
    (c.corner_at-in-loop-k.ensures ∙ ap (corner_at xs) c.next_of.ensures) in
    sym (walk_later xs c.args.n c.args.p c.requires.0.corners c.loop-k.k c.loop-k-test.true (sym at ∙ sym c.meets.ensures ∙ c.if-meets.false))
    ∙ c.loop-k.invariant

pub returns-in-Some : goal.returns-in-Some
unfolding place_said
returns-in-Some c =
    let xs = c.args.corners.now in
    elim c.loop-k-test.branch [
      | goal.then-loop-k-test+then-meets w ↦
          let same : c.in-Some.k ≡ c.loop-k.k = cc in
          let at = ap₂ (λ (a b : Point). on_edge (edge (spot_of a) (spot_of b)) (spot_of c.args.p)) w.corner_at.ensures
          (w.corner_at-in-loop-k.ensures ∙ ap (corner_at xs) w.next_of.ensures) in
          ap border same
          ∙ sym (walk_here xs c.args.n c.args.p c.requires.0.corners c.loop-k.k w.loop-k-test.true (sym at ∙ sym w.meets.ensures ∙ w.if-meets.true))
          ∙ c.loop-k.invariant
      | goal.else-loop-k-test w ↦ let z : ⊥ = cc in absurd z
    ]

pub returns-then-c : goal.returns-then-c
unfolding place_said
returns-then-c c =
    off_inside _ _ _ c.counted-c.ensures c.if-c.true
    ∙ elim c.loop-k-test.branch [
      | goal.then-loop-k-test+then-meets w ↦ let z : ⊥ = cc in absurd z
      | goal.else-loop-k-test w ↦
          sym (walk_end c.args.corners.now c.args.n c.args.p c.requires.0.corners c.loop-k.k w.loop-k-test.false) ∙ c.loop-k.invariant
    ]

pub returns-else-c : goal.returns-else-c
unfolding place_said
returns-else-c c =
    off_outside _ _ _ c.counted-c.ensures c.if-c.false
    ∙ elim c.loop-k-test.branch [
      | goal.then-loop-k-test+then-meets w ↦ let z : ⊥ = cc in absurd z
      | goal.else-loop-k-test w ↦
          sym (walk_end c.args.corners.now c.args.n c.args.p c.requires.0.corners c.loop-k.k w.loop-k-test.false) ∙ c.loop-k.invariant
    ]
