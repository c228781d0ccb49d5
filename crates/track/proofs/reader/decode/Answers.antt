-- `track::reader::decode` meets its contract: the coordinates decoded, with those to come, are those of the file. Assumes nothing.
use mathlib.Core.Path.{refl, sym, ap, ◌∙◌}
use native.Mathlib.Omega.{arith}
use Rattle.std.proofs.lemmas.Result.{err_from_is_err_and}
use Rattle.coordinate.specs.Coordinate.{heard}
use Rattle.track.proofs.Laws.Read.{decoding_start, decoding_turn, decoding_refused, decoding_after, decoding_whole}
use Rattle.track.proofs.reader.decode.Goals as goal

pub loop-entry-init : goal.loop-entry-init
loop-entry-init c = decoding_start _ _ _ _ refl

pub returns-in_err-c : goal.returns-in_err-c
returns-in_err-c c =
    let p = err_from_is_err_and c.from_residual.result c.from_residual.ensures.1 in
    rw (p.1, p.2) (decoding_refused _ _ _ _ _ _ _ _ c.loop-entry.invariant (omega (arith, c.loop-entry.auto, c.loop-entry.invariant.len)) _ _
    (ap heard (sym c.in_err-c.was) ∙ c.coordinate_at.ensures))

pub loop-entry-preserved : goal.loop-entry-preserved
loop-entry-preserved c =
    rw c.next-axes.ensures
    (decoding_turn _ _ _ _ _ _ _ _ c.loop-entry.invariant (omega (arith, c.loop-entry.invariant.len)) _
    (ap heard (sym c.in_ok-c.was) ∙ c.coordinate_at.ensures))

pub returns-then-at-bytes : goal.returns-then-at-bytes
returns-then-at-bytes c =
    rw c.refused.ensures (decoding_after _ _ _ _ _ _ _ _ c.loop-entry.invariant c.loop-entry-test.false c.if-at-bytes.true)

pub returns : goal.returns
returns c = decoding_whole _ _ _ _ _ _ _ _ c.loop-entry.invariant c.loop-entry-test.false c.if-at-bytes.false
