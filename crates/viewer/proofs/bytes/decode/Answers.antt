-- `viewer::bytes::decode` meets its contract. The loop's invariant: the doubles decoded so far are the first of the bytes'. Assumes nothing.
use Rattle.std.proofs.Common.{ℕ, ◌/◌, ◌<◌, length, [], get_or, ap, ◌∙◌, arith}
use Rattle.std.specs.Float.{binary64}
use Rattle.std.specs.Float.Ieee.{of_bits}
use Rattle.viewer.proofs.Laws.Bytes.{pattern_at, pattern_is, decoding_start, decoding_turn, decoding_done}
use Rattle.viewer.proofs.bytes.decode.Goals as goal

pub loop-i-init : goal.loop-i-init
loop-i-init c =
    decoding_start _ c.args.list.now

pub loop-i-preserved : goal.loop-i-preserved
loop-i-preserved c =
    let i = c.loop-i.i in
    let inside : i < length c.args.bytes.now / 8 = omega (arith, c.loop-i-test.true, c.as_chunks.ensures.front_len) in
    let pattern = ap (λ xs. get_or xs i []) c.as_chunks.ensures.front ∙ pattern_at _ _ i inside in
    decoding_turn _ _ _ c.loop-i.invariant (omega (arith, inside, c.requires, c.loop-i.auto.list)) _
    (c.from_pattern.ensures ∙ ap (λ (b : ℕ). of_bits binary64 b) (c.from_le_bytes.ensures ∙ pattern_is _ i inside pattern))

pub returns : goal.returns
returns c =
    decoding_done _ _ _ (omega (arith, c.loop-i-test.false, c.loop-i.auto.i-end, c.as_chunks.ensures.front_len)) c.loop-i.invariant
