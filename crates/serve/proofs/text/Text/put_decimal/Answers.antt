-- What `io::decimal` makes is the decimal, of at most 20 bytes.
use Rattle.std.proofs.Common.{arith, ◌∙◌}
use Rattle.serve.specs.Text.{decimal}
use Rattle.serve.proofs.Laws.Decimal.{decimal_digits, digits_most}
use Rattle.serve.proofs.Laws.Text.{puts_as}
use Rattle.serve.proofs.text.Text.put_decimal.Goals as goal

pub returns : goal.returns
returns c =
    let spelled = c.decimal-k.ensures in
    let value = c.args.value in
    let most = digits_most value _ (omega arith) spelled.len in
    puts_as 20 (decimal value) c.put.ensures (omega (arith, spelled.in_bounds, most))
    (spelled.digits ∙ decimal_digits _ _ spelled.len)
