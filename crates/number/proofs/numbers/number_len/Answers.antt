-- `number::numbers::number_len` meets its contract: a byte for each seven bits up to the top one. Assumes nothing.
use native.Mathlib.Omega.{arith}
use Rattle.number.proofs.Laws.Written.{written_by_bits}
use Rattle.number.proofs.numbers.number_len.Goals as goal

pub returns : goal.returns
returns c =
    let top = c.ilog2.ensures in
    omega (arith, written_by_bits c.args.value c.ilog2.result top.bound (omega arith) (omega arith))
