-- `turning::exact` meets its contract: the sum rule on the twelve summands, which are finite. Assumes nothing.
use mathlib.Core.Path.{◌∙◌}
use Rattle.geometry.proofs.Laws.Owned.{owned_within}
use Rattle.geometry.proofs.Laws.Exact.{exact_real, exact_counted}
use Rattle.geometry.proofs.turning.exact.Goals as goal

pub run_out-told-requires : goal.run_out-told-requires
run_out-told-requires c =
    let p = c.well_formed.0.1.1 in
    let q = c.well_formed.1.0.1.1 in
    let r = c.well_formed.1.1.0.1.1 in
    exact_real _ _ _ (c.as_flattened_mut.ensures.value ∙ c.summands-pairs.ensures)
    (owned_within _ p.0.1 p.1.0.1 c.requires.0) (owned_within _ q.0.1 q.1.0.1 c.requires.1) (owned_within _ r.0.1 r.1.0.1 c.requires.2)

pub returns : goal.returns
returns c =
    exact_counted _ _ _ (c.as_flattened_mut.ensures.value ∙ c.summands-pairs.ensures) c.run_out-told.ensures
