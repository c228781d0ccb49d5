-- `track::put::put_number` meets its contract: what is stored and what is left to store are the number's bytes. Assumes nothing.
use mathlib.Core.Path.{◌∙◌}
use native.Mathlib.Omega.{arith}
use Rattle.number.specs.Number.{full}
use Rattle.number.proofs.Laws.Written.{written_length}
use Rattle.track.proofs.Laws.Put.{putting_start, putting_turn, putting_low, putting_done, part_length, last_within}
use Rattle.track.proofs.put.put_number.Goals as goal

pub overflow_sub-others : goal.overflow_sub-others
overflow_sub-others c = omega (arith, c.number_len.ensures, (written_length c.args.value).0)

pub slice_bounds-others-count : goal.slice_bounds-others-count
slice_bounds-others-count c = omega (arith, c.number_len.ensures, (written_length c.args.value).0)

pub slice_bounds-others-start : goal.slice_bounds-others-start
slice_bounds-others-start c = omega (arith, c.number_len.ensures, (written_length c.args.value).0)

pub loop-byte-init : goal.loop-byte-init
loop-byte-init c =
    let n = c.number_len.ensures in
    let some = (written_length c.args.value).0 in (
      full,
      putting_start _ _ c.ranges.value.fits
          (part_length c.args.out.now c.args.start c.number_len.result (omega (arith, n, some)) (omega (arith, n)) ∙ n),
    )

pub loop-byte-preserved : goal.loop-byte-preserved
loop-byte-preserved c = putting_turn _ _ _ _ _ c.loop-byte.invariant.1 (omega arith)

pub overflow_cast-out : goal.overflow_cast-out
overflow_cast-out c = omega (arith, putting_low _ _ _ _ _ c.loop-byte.invariant.1 (omega arith))

pub overflow_sub-out : goal.overflow_sub-out
overflow_sub-out c = omega (arith, c.number_len.ensures, (written_length c.args.value).0)

pub bounds-out-end : goal.bounds-out-end
bounds-out-end c =
    let n = c.number_len.ensures in
    let l = c.loop-byte.invariant.1.len in
    last_within c.args.out.now c.loop-byte.others c.args.start _ _ (omega (arith, n, l)) (omega (arith, n, l)) (omega (arith, n, l))

pub returns : goal.returns
returns c =
    let n = c.number_len.ensures in
    let l = c.loop-byte.invariant.1.len in (
      omega (arith, n),
      putting_done _ _ _ _ _ c.loop-byte.invariant.1 (omega arith) c.args.out.now c.args.start _ _ (omega (arith, n, l)) (omega (arith, n, l))
          c.requires,
    )
