-- `edges::crosses` meets its contract: by the heights, and then by the side. Assumes nothing.
use mathlib.Core.Path.{◌≡◌, refl, sym, ap, ◌∙◌}
use mathlib.Core.Bool.{cond}
use Rattle.ground.specs.Compare.{is_positive, is_negative}
use Rattle.sum.specs.Total.{sign_number}
use Rattle.sum.specs.declared.answer.Sign.{Sign}
use Rattle.sum.specs.declared.answer.Sign.TheVariants.{Minus, Zero, Plus}
use Rattle.geometry.specs.declared.answer.Crossing.TheVariants.{None, Up, Down}
use Rattle.geometry.proofs.Laws.Edges.{crossing_under, crossing_over, crossing_rising, crossing_falling}
use Rattle.geometry.proofs.Laws.Owned.{owned_real}
use Rattle.geometry.proofs.edges.crosses.Goals as goal

-- only the one sign counts
not_up : (s : Sign) → (s ≡ Plus → ⊥) → None ≡ cond (is_positive (sign_number s)) Up None
not_up Minus h = refl
not_up Zero h = refl
not_up Plus h = absurd (h refl)

not_down : (s : Sign) → (s ≡ Minus → ⊥) → None ≡ cond (is_negative (sign_number s)) Down None
not_down Minus h = absurd (h refl)
not_down Zero h = refl
not_down Plus h = refl

pub returns-in-Plus : goal.returns-in-Plus
returns-in-Plus c =
    let a = c.well_formed.0.1.1 in
    let b = c.well_formed.1.0.1.1 in
    let p = c.well_formed.1.1.0.1.1 in
    ap (λ (s : Sign). cond (is_positive (sign_number s)) Up None) (sym c.in-Plus.is)
    ∙ crossing_rising _ _ _ (owned_real _ a.0.1 a.1.0.1 c.requires.0) (owned_real _ b.0.1 b.1.0.1 c.requires.1)
    (owned_real _ p.0.1 p.1.0.1 c.requires.2) _ c.side_of.ensures c.if-a-p.true c.if-p-b.true

pub returns-in_default : goal.returns-in_default
returns-in_default c =
    let a = c.well_formed.0.1.1 in
    let b = c.well_formed.1.0.1.1 in
    let p = c.well_formed.1.1.0.1.1 in
    not_up _ c.in_default.not-Plus
    ∙ crossing_rising _ _ _ (owned_real _ a.0.1 a.1.0.1 c.requires.0) (owned_real _ b.0.1 b.1.0.1 c.requires.1)
    (owned_real _ p.0.1 p.1.0.1 c.requires.2) _ c.side_of.ensures c.if-a-p.true c.if-p-b.true

pub returns-else-p-b : goal.returns-else-p-b
returns-else-p-b c =
    let a = c.well_formed.0.1.1 in
    let b = c.well_formed.1.0.1.1 in
    let p = c.well_formed.1.1.0.1.1 in
    crossing_under _ _ _ (owned_real _ a.0.1 a.1.0.1 c.requires.0) (owned_real _ b.0.1 b.1.0.1 c.requires.1)
    (owned_real _ p.0.1 p.1.0.1 c.requires.2) c.if-a-p.true c.if-p-b.false

pub returns-in-Minus : goal.returns-in-Minus
returns-in-Minus c =
    let a = c.well_formed.0.1.1 in
    let b = c.well_formed.1.0.1.1 in
    let p = c.well_formed.1.1.0.1.1 in
    ap (λ (s : Sign). cond (is_negative (sign_number s)) Down None) (sym c.in-Minus.is)
    ∙ crossing_falling _ _ _ (owned_real _ a.0.1 a.1.0.1 c.requires.0) (owned_real _ b.0.1 b.1.0.1 c.requires.1)
    (owned_real _ p.0.1 p.1.0.1 c.requires.2) _ c.side_of-then-b-p.ensures c.if-a-p.false c.if-b-p.true

pub returns-in_default-side_of : goal.returns-in_default-side_of
returns-in_default-side_of c =
    let a = c.well_formed.0.1.1 in
    let b = c.well_formed.1.0.1.1 in
    let p = c.well_formed.1.1.0.1.1 in
    not_down _ c.in_default-side_of.not-Minus
    ∙ crossing_falling _ _ _ (owned_real _ a.0.1 a.1.0.1 c.requires.0) (owned_real _ b.0.1 b.1.0.1 c.requires.1)
    (owned_real _ p.0.1 p.1.0.1 c.requires.2) _ c.side_of-then-b-p.ensures c.if-a-p.false c.if-b-p.true

pub returns-else-b-p : goal.returns-else-b-p
returns-else-b-p c =
    let a = c.well_formed.0.1.1 in
    let b = c.well_formed.1.0.1.1 in
    let p = c.well_formed.1.1.0.1.1 in
    crossing_over _ _ _ (owned_real _ a.0.1 a.1.0.1 c.requires.0) (owned_real _ b.0.1 b.1.0.1 c.requires.1)
    (owned_real _ p.0.1 p.1.0.1 c.requires.2) c.if-a-p.false c.if-b-p.false
