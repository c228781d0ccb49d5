-- `point::all_within` meets its contract. The loop's invariant: what is found from a place on is what is found in the whole list.
-- Assumes nothing.
use Rattle.std.proofs.Common.{◌≡◌, drop}
use Rattle.refusal.specs.Outcome.{not_accepted}
use Rattle.refusal.specs.Search.{passing_from}
use Rattle.point.specs.Parts.{within_of}
use Rattle.point.proofs.all_within.Given as goal

abbrev pub invariant-loop-place : goal.invariant-loop-place
invariant-loop-place l =
    passing_from (λ x. within_of x l.least l.greatest) not_accepted l.place (drop l.place l.coordinates) (tt {0})
    ≡ passing_from (λ x. within_of x l.least l.greatest) not_accepted 0 l.coordinates (tt {0})
