-- `track::writer::write` meets its contract: by the tests, a law of Laws.Write is each answer. Assumes nothing.
use Prim.Native.Nat.{ℕ, ◌+◌, ◌/◌, ◌≤◌, ◌<◌}
use mathlib.Core.Path.{◌≡◌, sym, ap, ◌∙◌}
use native.Mathlib.Omega.{arith}
use mathlib.Core.List.{List}
use lib.ListN.{length}
use lib.Ieee.{Float}
use Rattle.std.specs.Prelude.{Ok, Result}
use Rattle.std.proofs.lemmas.Result.{err_from_is_err_and}
use Rattle.refusal.specs.declared.Refusal.{Refusal}
use Rattle.refusal.specs.Outcome.{answers}
use Rattle.track.specs.File.{coordinate_bytes, file_of}
use Rattle.track.specs.Write.{accepted_from, said}
use Rattle.track.specs.Parts.{measured, measure_of}
use Rattle.number.specs.Number.{written_of}
use Rattle.number.proofs.Laws.Written.{written_length}
use Rattle.track.proofs.Laws.File.{bytes_length, file_total, file_put}
use Rattle.track.proofs.Laws.Write.{accepted_all, measure_accepts, measure_refuses, write_odd, write_many, write_refused, write_short, write_whole, says_refused, says_whole}
use Rattle.track.proofs.writer.write.Goals as goal

-- every coordinate is accepted, and the two lengths are the file's
record Judged (points : List Float) (rest_len count_len : ℕ) : Type 0 where
  good : accepted_from 0 points ≡ answers tt
  rest : rest_len ≡ length (coordinate_bytes 0 0 points)
  total : count_len + rest_len ≡ length (file_of points)

judged : (points : List Float) (m : Result ℕ Refusal) (rest_len count_len : ℕ) → m ≡ Ok rest_len → measured m ≡ measure_of points
    → count_len ≡ length (written_of (length points / 2)) → Judged points rest_len count_len
judged points m rest_len count_len e h k =
    let a = measure_accepts points rest_len (ap measured (sym e) ∙ h) in
    record { good = a.0; rest = a.1; total = file_total points count_len rest_len k a.1 }

pub returns-then-points-ne0 : goal.returns-then-points-ne0
returns-then-points-ne0 c = says_refused (write_odd _ _ _ c.if-points-ne0.true) (ap said c.refused.ensures)

pub returns-then-points-gt-COORDINATES : goal.returns-then-points-gt-COORDINATES
returns-then-points-gt-COORDINATES c =
    says_refused (write_many _ _ _ c.if-points-ne0.false c.if-points-gt-COORDINATES.true) (ap said c.refused-then-points-gt-COORDINATES.ensures)

pub overflow_add-total : goal.overflow_add-total
overflow_add-total c =
    let d = judged c.args.points.now _ c.in_ok-len.len c.number_len.result c.in_ok-len.was c.measure.ensures c.number_len.ensures in
    let count = (written_length (length c.args.points.now / 2)).1 in
    let rest = bytes_length 0 0 c.args.points.now in
    omega (arith, c.number_len.ensures, d.rest, c.if-points-gt-COORDINATES.false, count, rest)

pub returns-then-out-total : goal.returns-then-out-total
returns-then-out-total c =
    let points : List Float = c.args.points.now in
    let d = judged c.args.points.now _ c.in_ok-len.len c.number_len.result c.in_ok-len.was c.measure.ensures c.number_len.ensures in
    let out = c.args.out.now in
    let short : length out < length (file_of points) = omega (arith, d.total, c.if-out-total.true) in
    says_refused (write_short _ _ _ c.if-points-ne0.false c.if-points-gt-COORDINATES.false d.good short)
    (ap said c.refused-then-out-total.ensures)

pub put_points-requires : goal.put_points-requires
put_points-requires c =
    let d = judged c.args.points.now _ c.in_ok-len.len c.number_len.result c.in_ok-len.was c.measure.ensures c.number_len.ensures in
    let e = c.put_number-at.ensures in (
      accepted_all 0 _ d.good,
      omega (arith, e.0, ap length e.1, d.rest, d.total, c.if-out-total.false),
    )

pub returns : goal.returns
returns c =
    let points : List Float = c.args.points.now in
    let d = judged c.args.points.now _ c.in_ok-len.len c.number_len.result c.in_ok-len.was c.measure.ensures c.number_len.ensures in
    let out = c.args.out.now in
    let room : length (file_of points) ≤ length out = omega (arith, d.total, c.if-out-total.false) in
    says_whole
    (write_whole _ _ _ c.if-points-ne0.false c.if-points-gt-COORDINATES.false d.good room)
    (ap answers d.total)
    room
    (file_put _ _ _ _ _ c.put_number-at.ensures.0 c.put_number-at.ensures.1 c.put_points.ensures)

pub returns-in_err-len : goal.returns-in_err-len
returns-in_err-len c =
    let p = err_from_is_err_and c.from_residual.result c.from_residual.ensures.1 in
    says_refused
    (write_refused _ _ _ c.if-points-ne0.false c.if-points-gt-COORDINATES.false _ _
    (measure_refuses _ _ _ (ap measured (sym c.in_err-len.was) ∙ c.measure.ensures)))
    (rw (p.1, p.2))
