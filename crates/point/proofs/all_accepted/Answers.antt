-- `point::all_accepted` meets its contract: a law says that the test by comparisons is the rule. Assumes nothing.
use mathlib.Core.Path.{◌∙◌}
use lib.Ieee.{nan}
use Rattle.refusal.proofs.Laws.Search.{passing_alike}
use Rattle.point.proofs.Laws.Accepted.{accepted_is}
use Rattle.point.proofs.all_accepted.Goals as goal

pub returns : goal.returns
returns c = c.all_within.ensures ∙ passing_alike _ _ _ nan tt 0 _ (λ k l. accepted_is _ (c.type_inv.coordinates k))
