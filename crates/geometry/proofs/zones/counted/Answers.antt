-- `zones::counted` meets its contract. Assumes nothing.
use Prim.Native.Nat.{ℕ, ◌+◌, ◌-◌, ◌≤◌, ◌<◌}
use mathlib.Core.Path.{◌≡◌, sym, ap, ap₂, subst, ◌∙◌}
use mathlib.Core.Bool.{cond}
use mathlib.Core.List.{List}
use native.Mathlib.Omega.{arith}
use lib.Dec.{ltb}
use lib.ListN.{drop}
use lib.Ieee.{Float}
use borrow.Author.Tests.{lt-ltb, le-ltb}
use Rattle.point.specs.Accepted.{Accepted}
use Rattle.point.specs.Spot.{spot_of}
use Rattle.point.specs.declared.Point.{Point}
use Rattle.geometry.specs.Zone.{corners_of, corner_at, next_of, Zoned}
use Rattle.ground.specs.Edge.{edge, edges_of, is_up, is_down}
use Rattle.geometry.specs.Parts.{crossing_of, with_edge, counts_of}
use Rattle.geometry.specs.declared.zones.Counts.{Counts}
use Rattle.geometry.proofs.Laws.Zone.{next_inside, counts_end, counts_before, count_few}
use Rattle.geometry.proofs.zones.counted.Goals as goal

-- the edge that ends where edge k begins is the one before it
before : (xs : List Float) (n k : ℕ) → 0 < k → corner_at xs (cond (ltb k n) k 0) ≡ corner_at xs (next_of n (k - 1))
before xs n k h = let e : k ≡ k - 1 + 1 = omega arith in ap (λ (i : ℕ). corner_at xs (cond (ltb i n) i 0)) e

ends : (xs : List Float) (n k : ℕ) → Zoned xs n → 0 < k → k ≤ n → Accepted (corner_at xs (next_of n (k - 1)))
ends xs n k z h l = z.accepted _ (next_inside (k - 1) n (omega arith))

pub loop-k-init : goal.loop-k-init
loop-k-init c = (
  counts_end _ _ _ c.requires.0.corners,
  c.corner_at-to.ensures ∙ ap (λ (b : _). corner_at c.args.corners.now (cond b c.args.n 0)) (sym (le-ltb c.args.n c.args.n (omega arith))),
)

pub crosses-requires : goal.crosses-requires
crosses-requires c =
    let z = c.requires.0 in (
      subst Accepted (sym c.corner_at-from.ensures) (z.accepted _ (omega arith)),
      subst Accepted (sym (c.loop-k.invariant.1 ∙ before c.args.corners.now c.args.n c.loop-k.k (omega arith))) (ends _ _ c.loop-k.k z (omega arith) (omega arith)),
      c.requires.1,
    )

pub with_edge-c-requires : goal.with_edge-c-requires
with_edge-c-requires c =
    let z = c.requires.0 in
    let few = count_few c.args.corners.now c.args.n c.args.p z.corners in (
      omega (arith, few is_up c.loop-k.k, ap (λ (t : Counts). t.ups) c.loop-k.invariant.0, z.few),
      omega (arith, few is_down c.loop-k.k, ap (λ (t : Counts). t.downs) c.loop-k.invariant.0, z.few),
    )

pub loop-k-preserved : goal.loop-k-preserved
loop-k-preserved c =
    let xs = c.args.corners.now in
    let k = c.loop-k.k in
    let last : k - 1 < c.args.n = omega arith in (
      c.with_edge-c.ensures
          ∙ ap₂ with_edge c.loop-k.invariant.0
          (c.crosses.ensures
          ∙ ap₂ (λ (a b : Point). crossing_of (edge (spot_of a) (spot_of b)) (spot_of c.args.p)) c.corner_at-from.ensures
          (c.loop-k.invariant.1 ∙ before xs c.args.n k (omega arith)))
          ∙ counts_before xs c.args.n c.args.p c.requires.0.corners (k - 1) k (omega arith) last,
      c.corner_at-from.ensures ∙ ap (λ (b : _). corner_at xs (cond b (k - 1) 0)) (sym (lt-ltb (k - 1) c.args.n last)),
    )

pub returns : goal.returns
returns c =
    let e : c.loop-k.k ≡ 0 = omega arith in
    c.loop-k.invariant.0 ∙ ap (λ (k : ℕ). counts_of (drop k (edges_of (corners_of c.args.corners.now))) (spot_of c.args.p)) e
