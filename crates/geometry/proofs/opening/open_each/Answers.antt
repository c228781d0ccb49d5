-- `opening::open_each` meets its contract: three times eight summands, one after the other. Assumes nothing.
use mathlib.Core.Path.{◌≡◌, ap, ◌∙◌}
use mathlib.Core.List.{List, [], ◌∷◌, ◌++◌}
use lib.Ieee.{Float, neg}
use borrow.Author.Rules.{rules}
use Rattle.double.proofs.Laws.Negated.{neg_neg, sized_neg}
use Rattle.geometry.specs.Plane.{three, opened}
use Rattle.geometry.proofs.opening.open_each.Goals as goal

joined : {a b c x y z : List Float} → a ≡ x → b ≡ y → c ≡ z → a ++ (b ++ (c ++ [])) ≡ x ++ (y ++ (z ++ []))
joined a b c = rw (a, b, c)

pub open_both-requires-2 : goal.open_both-requires-2
open_both-requires-2 c =
    (sized_neg c.requires.0, search rules, search rules, search rules)

pub returns : goal.returns
unfolding opened
returns c =
    let s = c.args in
    joined c.open_both.ensures c.open_both-2.ensures c.open_both-3.ensures
    ∙ ap (λ (z : Float). opened (
    three s.x s.a.y s.b.height ∷ three (neg s.x) s.a.y s.c.height
    ∷ three (neg s.x) s.b.y s.a.height ∷ three z s.b.y s.c.height
    ∷ three s.x s.c.y s.a.height ∷ three (neg s.x) s.c.y s.b.height
    ∷ []
    )) (neg_neg s.x)
