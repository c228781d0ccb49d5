-- `sum::plain_sum::plain` meets its contract.
use mathlib.Core.Path.{◌≡◌}
use lib.ListN.{length, drop}
use Rattle.whole.specs.Sign.{sgn}
use Rattle.total.specs.Words.{count}
use Rattle.sum.specs.Refused.{checked_from}
use Rattle.sum.specs.Total.{total_of}
use Rattle.sum.specs.Plain.{plain_of}
use Rattle.sum.proofs.Laws.Plain.{Held}
use Rattle.sum.proofs.plain_sum.plain.Given as goal

abbrev pub invariant-loop-i : goal.invariant-loop-i
invariant-loop-i l =
    (length l.words ≡ count) × (checked_from l.i (drop l.i l.list) (sgn (total_of l.list)) ≡ plain_of l.list) × Held l.list l.i l.words
