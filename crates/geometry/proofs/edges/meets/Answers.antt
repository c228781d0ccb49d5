-- `edges::meets` meets its contract: by the box, and then by the side. Assumes nothing.
use mathlib.Core.Path.{◌≡◌, refl, sym, ap, ◌∙◌}
use mathlib.Core.Bool.{false}
use Rattle.ground.specs.Compare.{is_zero}
use Rattle.sum.specs.Total.{sign_number}
use Rattle.sum.specs.declared.answer.Sign.{Sign}
use Rattle.sum.specs.declared.answer.Sign.TheVariants.{Minus, Zero, Plus}
use Rattle.geometry.proofs.Laws.Edges.{edge_met, edge_apart_x, edge_apart_y}
use Rattle.geometry.proofs.Laws.Owned.{owned_real}
use Rattle.geometry.proofs.edges.meets.Goals as goal

-- only on the line
not_met : (s : Sign) → (s ≡ Zero → ⊥) → false ≡ is_zero (sign_number s)
not_met Minus h = refl
not_met Zero h = absurd (h refl)
not_met Plus h = refl

pub returns-in-Zero : goal.returns-in-Zero
returns-in-Zero c =
    let a = c.well_formed.0.1.1 in
    let b = c.well_formed.1.0.1.1 in
    let p = c.well_formed.1.1.0.1.1 in
    let A = owned_real _ a.0.1 a.1.0.1 c.requires.0 in
    let B = owned_real _ b.0.1 b.1.0.1 c.requires.1 in
    let P = owned_real _ p.0.1 p.1.0.1 c.requires.2 in
    elim c.if-lies_between.branch [
      | goal.then-lies_between w ↦
          ap (λ (s : Sign). is_zero (sign_number s)) (sym c.in-Zero.is)
          ∙ edge_met _ _ _ A B P _ c.side_of.ensures (sym c.lies_between.ensures ∙ w.if-lies_between.true)
          (sym w.lies_between-then-lies_between.ensures ∙ sym w.value-is ∙ c.if-lies_between-2.true)
      | goal.else-lies_between w ↦ let z : ⊥ = cc in absurd z
    ]

pub returns-in_default : goal.returns-in_default
returns-in_default c =
    let a = c.well_formed.0.1.1 in
    let b = c.well_formed.1.0.1.1 in
    let p = c.well_formed.1.1.0.1.1 in
    let A = owned_real _ a.0.1 a.1.0.1 c.requires.0 in
    let B = owned_real _ b.0.1 b.1.0.1 c.requires.1 in
    let P = owned_real _ p.0.1 p.1.0.1 c.requires.2 in
    elim c.if-lies_between.branch [
      | goal.then-lies_between w ↦
          not_met _ c.in_default.not-Zero
          ∙ edge_met _ _ _ A B P _ c.side_of.ensures (sym c.lies_between.ensures ∙ w.if-lies_between.true)
          (sym w.lies_between-then-lies_between.ensures ∙ sym w.value-is ∙ c.if-lies_between-2.true)
      | goal.else-lies_between w ↦ let z : ⊥ = cc in absurd z
    ]

pub returns-else-lies_between-2 : goal.returns-else-lies_between-2
returns-else-lies_between-2 c =
    let a = c.well_formed.0.1.1 in
    let b = c.well_formed.1.0.1.1 in
    let p = c.well_formed.1.1.0.1.1 in
    let A = owned_real _ a.0.1 a.1.0.1 c.requires.0 in
    let B = owned_real _ b.0.1 b.1.0.1 c.requires.1 in
    let P = owned_real _ p.0.1 p.1.0.1 c.requires.2 in
    elim c.if-lies_between.branch [
      | goal.then-lies_between w ↦
          c.if-lies_between-2.false
          ∙ edge_apart_x _ _ _ A B P (sym w.lies_between-then-lies_between.ensures ∙ sym w.value-is ∙ c.if-lies_between-2.false)
      | goal.else-lies_between w ↦
          c.if-lies_between-2.false ∙ edge_apart_y _ _ _ A B P (sym c.lies_between.ensures ∙ w.if-lies_between.false)
    ]
