-- `zones::corners_accepted` meets its contract. Assumes nothing.
use Prim.Native.Nat.{ℕ, ◌+◌}
use mathlib.Core.Path.{◌≡◌, refl, sym, ap, ◌∙◌}
use native.Mathlib.Omega.{arith}
use lib.ListN.{drop}
use Rattle.point.specs.Accepted.{accepting_from}
use Rattle.refusal.proofs.Laws.Search.{passing_here, passing_later, passing_end}
use Rattle.geometry.proofs.zones.corners_accepted.Goals as goal

-- the next entry's place
next : (i : ℕ) → i + 1 + 2 ≡ i + 2 + 1
next i = omega arith

pub loop-i-init : goal.loop-i-init
loop-i-init c =
    refl

pub returns-then-not-accepted : goal.returns-then-not-accepted
returns-then-not-accepted c =
    rw c.refused.ensures (sym (passing_here _ _ _ _ tt _ _ c.loop-i-test.true (sym c.accepted.ensures ∙ c.if-not-accepted.true))
    ∙ c.loop-i.invariant)

pub loop-i-preserved : goal.loop-i-preserved
loop-i-preserved c =
    ap (λ (place : ℕ). accepting_from place (drop (c.loop-i.i + 1) c.args.corners.now) tt) (next c.loop-i.i)
    ∙ sym (passing_later _ _ _ _ tt _ _ c.loop-i-test.true (sym c.accepted.ensures ∙ c.if-not-accepted.false))
    ∙ c.loop-i.invariant

pub returns : goal.returns
returns c =
    sym (passing_end _ _ _ tt _ _ c.loop-i-test.false) ∙ c.loop-i.invariant
