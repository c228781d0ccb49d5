-- `track::put::put_number` meets its contract: what is stored and what is left to store are the number's bytes. Assumes nothing.
use Prim.Native.Nat.{ℕ}
use Rattle.track.proofs.Laws.Put.{Putting}
use Rattle.track.proofs.put.put_number.Given as goal

abbrev pub invariant-loop-byte : goal.invariant-loop-byte
invariant-loop-byte l = (k : ℕ) × Putting l.value l.others l.rest l.byte-index k
