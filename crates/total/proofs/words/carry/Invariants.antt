-- `total::words::carry` meets its contract. The loop's invariant: 1 is still to be added, or taken away, at this word. Assumes nothing.
use Rattle.std.proofs.Common.{◌≡◌, ◌+◌, ◌*◌, ◌^◌}
use Rattle.total.specs.Words.{base, value_of}
use Rattle.total.specs.Parts.{one_adds, one_takes}
use Rattle.total.proofs.words.carry.Given as goal

abbrev pub invariant-loop-word : goal.invariant-loop-word
invariant-loop-word l =
    value_of base l.words + one_takes l.takes + base ^ l.word-index * one_adds l.takes
    ≡ value_of base l.initial.words + one_adds l.takes + base ^ l.word-index * one_takes l.takes
