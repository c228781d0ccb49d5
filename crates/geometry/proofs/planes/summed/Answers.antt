-- `planes::summed` meets its contract: the sum rule on the 96 summands, which are finite. Assumes nothing.
use mathlib.Core.Path.{◌≡◌, refl, sym, ap, ◌∙◌, subst}
use mathlib.Core.Bool.{Bool, true}
use mathlib.Core.List.{List, [], ◌∷◌, ◌++◌}
use Prim.Native.Nat.{◌≤◌}
use lib.Dec.{T}
use lib.ListN.{length}
use lib.Ieee.{Float}
use Rattle.point.proofs.Laws.Within.{high_accepted_within}
use Rattle.sum.specs.Limit.{limit}
use Rattle.sum.specs.Run.{run_of, most_budget}
use Rattle.sum.proofs.Laws.Entries.{AllReal}
use Rattle.std.specs.List.{flat_map}
use Rattle.std.proofs.lemmas.Grind.{flat_map-append}
use Rattle.geometry.specs.Parts.{eight_in, rows_in}
use Rattle.geometry.specs.Plane.{counted_by, summed_of}
use Rattle.geometry.proofs.Laws.Space.{opened_real, opened_short}
use Rattle.geometry.proofs.planes.summed.Goals as goal

-- what owning the points tells: the format holds their coordinates
held : {b : Bool} → b ≡ true → T b
held e = subst T (sym e) tt

-- an array of arrays, flattened
flattened : {X A : Type 0} (f : X → List A) (xs : List (List X)) → flat_map f (flat_map (λ x. x) xs) ≡ flat_map (flat_map f) xs
flattened f [] = refl
flattened f (x ∷ xs) = flat_map-append f x (flat_map (λ x. x) xs) ∙ ap (λ (ys : List _). flat_map f x ++ ys) (flattened f xs)

all_in : (rows : List (List (List (List Float)))) {a : List (List (List Float))} {b : List (List Float)} {c : List Float}
    → a ≡ flat_map (λ x. x) rows → b ≡ flat_map (λ x. x) a → c ≡ flat_map (λ x. x) b → c ≡ rows_in rows
all_in rows e f g = rw (g, f, e) (flattened (λ (x : List Float). x) (flat_map (λ x. x) rows) ∙ flattened eight_in rows)

pub run_out-requires : goal.run_out-requires
run_out-requires c =
    let p = c.well_formed.0.1.1 in
    let q = c.well_formed.1.0.1.1 in
    let r = c.well_formed.1.1.0.1.1 in
    let s = c.well_formed.1.1.1.0.1.1 in
    let P = high_accepted_within c.args.p (record { x = held p.0.1; y = held p.1.0.1; height = held p.1.1.0.1 }) c.requires.0 in
    let Q = high_accepted_within c.args.q (record { x = held q.0.1; y = held q.1.0.1; height = held q.1.1.0.1 }) c.requires.1 in
    let R = high_accepted_within c.args.r (record { x = held r.0.1; y = held r.1.0.1; height = held r.1.1.0.1 }) c.requires.2 in
    let S = high_accepted_within c.args.s (record { x = held s.0.1; y = held s.1.0.1; height = held s.1.1.0.1 }) c.requires.3 in
    let e = all_in c.open_all-rows.result c.as_flattened_mut.ensures.value c.as_flattened_mut-2.ensures.value
    c.as_flattened_mut-3.ensures.value ∙ c.open_all-rows.ensures in (
      subst AllReal (sym e) (opened_real _ _ _ _ P Q R S),
      subst (λ (xs : List Float). length xs ≤ limit) (sym e) (opened_short _ _ _ _ P Q R S),
    )

pub returns : goal.returns
unfolding summed_of
returns c =
    c.run_out.ensures ∙ ap (λ (xs : List Float). counted_by (run_of xs most_budget))
    (all_in c.open_all-rows.result c.as_flattened_mut.ensures.value c.as_flattened_mut-2.ensures.value
    c.as_flattened_mut-3.ensures.value ∙ c.open_all-rows.ensures)
