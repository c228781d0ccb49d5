-- `track::reader::read` meets its contract: by what the count is. Assumes nothing.
use mathlib.Core.Path.{sym, ap, ◌∙◌}
use Rattle.std.proofs.lemmas.Result.{err_from_is_err_and}
use Rattle.number.specs.Number.{heard}
use Rattle.track.proofs.Laws.Read.{says_refused, says_counted}
use Rattle.track.proofs.reader.read.Goals as goal

pub returns : goal.returns
returns c = says_counted c.in_ok-count.count (ap heard (sym c.in_ok-count.was) ∙ c.number_at.ensures) c.counted.ensures

pub returns-in_err-count : goal.returns-in_err-count
returns-in_err-count c =
    let p = err_from_is_err_and c.from_residual.result c.from_residual.ensures.1 in
    says_refused (ap heard (sym c.in_err-count.was) ∙ c.number_at.ensures) (rw (p.1, p.2))
