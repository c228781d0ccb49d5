-- What the two public calls promise, at 01's limit. In order: a file is at most 10,242 bytes long, and its first 10,243 bytes decide what
-- reading it answers; what a call leaves as it was; the bytes at which a file is refused; reading after writing; writing after reading. Not
-- here: the same over any limit (Laws.RoundTrip, Laws.First, Laws.Refusals). Assumes nothing.
use Prim.Native.Nat.{ℕ, ◌+◌, ◌*◌, ◌/◌, ◌≤◌}
use mathlib.Core.Path.{◌≡◌, sym, ap, ◌∙◌}
use mathlib.Core.List.{List, ◌++◌}
use native.Mathlib.Omega.{arith}
use lib.ListN.{length, take, drop}
use lib.Seq.{take-append_seam, drop-append_seam}
use lib.Ieee.{Float}
use Rattle.std.specs.Prelude.{Err, Ok, Result}
use Rattle.refusal.specs.declared.Refusal.{Refusal}
use Rattle.refusal.specs.Outcome.{Outcome, answers, refuses, kind_number}
use Rattle.double.specs.Worth.{AllDoubles}
use Rattle.refusal.specs.Judged.{filled}
use Rattle.number.specs.Number.{Bytes}
use Rattle.track.specs.File.{limit, largest, most_bytes}
use Rattle.track.specs.Write.{write_of, WriteSays}
use Rattle.track.specs.Read.{read_of, ReadSays}
use Rattle.refusal.proofs.Laws.Outcome.{outcome_once}
use Rattle.refusal.proofs.Laws.Judged.{also_answers, also_answered, also_refused}
use Rattle.track.proofs.Laws.Refusals.{Faulted, read_faulted}
use Rattle.track.proofs.Laws.Points.{read_held}
use Rattle.track.proofs.Laws.RoundTrip.{read_write, write_read, write_length}
use Rattle.track.proofs.Laws.First.{read_first}
use Rattle.number.proofs.Laws.Written.{written_two}

-- ---- lengths
pub largest_is : largest limit ≡ most_bytes
largest_is = omega (arith, written_two limit (omega arith) (omega arith))

pub written_most : (points : List Float) (room : ℕ) (file : List ℕ) → write_of limit points room ≡ answers file → length file ≤ most_bytes
written_most points room file e = omega (arith, write_length limit points room file e, largest_is)

pub read_most : (file : List ℕ) (room : ℕ) (points : List Float) → Bytes file → read_of limit file room ≡ answers points
    → length file ≤ most_bytes
read_most file room points all e = written_most points (length file) file
    (write_read limit file room points all e (length file) (omega arith))

pub read_enough : (file : List ℕ) (room : ℕ) → Bytes file → read_of limit (take (most_bytes + 1) file) room ≡ read_of limit file room
read_enough file room all =
    ap (λ (n : ℕ). read_of limit (take (n + 1) file) room) (sym largest_is) ∙ read_first limit (omega arith) file room all

-- ---- what each call tells
-- what is answered stands at the start of what was lent
module _ {A : Type 0} (n : ℕ) (vs lent left : List A) (size : length vs ≡ n) (is : left ≡ vs ++ drop (length vs) lent) where
  filled_first : take n left ≡ vs
  filled_first = ap (λ (k : ℕ). take k left) (sym size) ∙ ap (take (length vs)) is ∙ take-append_seam vs (drop (length vs) lent)

  filled_later : drop n left ≡ drop n lent
  filled_later =
      ap (λ (k : ℕ). drop k left) (sym size) ∙ ap (drop (length vs)) is ∙ drop-append_seam vs (drop (length vs) lent)
      ∙ ap (λ (k : ℕ). drop k lent) size

-- an accepted write: its file
written : {points : List Float} {lent : List ℕ} {n : ℕ} {left : List ℕ} → WriteSays points lent (Ok n) left
    → (file : List ℕ) × (write_of limit points (length lent) ≡ answers file) × (length file ≡ n)
    × (left ≡ file ++ drop (length file) lent)
written {points} {lent} w =
    let a = also_answered (write_of limit points (length lent)) _ (sym w.answer) in
    (a.0, a.1, cc a.2, w.bytes ∙ ap (λ (o : Outcome (List ℕ)). filled o lent) a.1)

-- a refused call: its outcome
write_refusal : {points : List Float} {lent : List ℕ} {r : Refusal} {left : List ℕ} → WriteSays points lent (Err r) left
    → write_of limit points (length lent) ≡ refuses (kind_number r.kind) r.place
write_refusal {points} {lent} w = also_refused (write_of limit points (length lent)) length (sym w.answer)

read_refusal : {file : List ℕ} {lent : List Float} {r : Refusal} {left : List Float} → ReadSays file lent (Err r) left
    → read_of limit file (length lent) ≡ refuses (kind_number r.kind) r.place
read_refusal {file} {lent} r = also_refused (read_of limit file (length lent)) (λ points. length points / 2) (sym r.answer)

-- ---- what a call leaves as it was
-- a refusal writes nothing
pub write_refused : {points : List Float} {lent : List ℕ} {r : Refusal} {left : List ℕ} → WriteSays points lent (Err r) left
    → left ≡ lent
write_refused {lent = lent} w = w.bytes ∙ ap (λ (o : Outcome (List ℕ)). filled o lent) (write_refusal w)

pub read_refused : {file : List ℕ} {lent : List Float} {r : Refusal} {left : List Float} → ReadSays file lent (Err r) left
    → left ≡ lent
read_refused {lent = lent} r = r.entries ∙ ap (λ (o : Outcome (List Float)). filled o lent) (read_refusal r)

-- only the file's bytes are written
pub write_later : {points : List Float} {lent : List ℕ} {n : ℕ} {left : List ℕ} → WriteSays points lent (Ok n) left
    → drop n left ≡ drop n lent
write_later {lent = lent} {n} {left} w = let f = written w in filled_later n f.0 lent left f.2 f.3

-- two entries for each point are filled, and later ones stay
pub read_later : {file : List ℕ} {lent : List Float} {n : ℕ} {left : List Float} → ReadSays file lent (Ok n) left
    → drop (2 * n) left ≡ drop (2 * n) lent
read_later {lent = lent} {n} {left} r =
    let h = read_held r in
    filled_later (2 * n) (take (2 * n) left) lent left h.many (r.entries ∙ ap (λ (o : Outcome (List Float)). filled o lent) h.read)

-- ---- the bytes at which a file is refused
-- From the place of a 6 on the bytes end early, and from that of a 7 on they are not shortest, or above 64 bits.
pub read_fault : {file : List ℕ} {lent : List Float} {r : Refusal} {left : List Float} → ReadSays file lent (Err r) left
    → Faulted file (kind_number r.kind) r.place
read_fault {file} {lent} {r} s = read_faulted limit file (length lent) (kind_number r.kind) r.place (read_refusal s)

-- ---- both ways
-- Reading the bytes that a call wrote answers as many points, and fills in the same ones.
pub write_then_read : {points : List Float} {lent left : List ℕ} {n : ℕ} {space entries : List Float} {q : Result ℕ Refusal} → AllDoubles points
    → WriteSays points lent (Ok n) left → length points ≤ length space → ReadSays (take n left) space q entries
    → (q ≡ Ok (length points / 2)) × (entries ≡ points ++ drop (length points) space)
write_then_read {points} {lent} {left} {n} {space = space} {q = q} fit w room r =
    let f = written w in
    let again = ap (λ (z : List ℕ). read_of limit z (length space)) (filled_first n f.0 lent left f.2 f.3)
    ∙ read_write limit (omega arith) points _ f.0 (length space) fit f.1 room in (
      outcome_once _ (λ m n e. e) q (Ok (length points / 2)) (r.answer ∙ also_answers _ again),
      r.entries
          ∙ ap (λ (o : Outcome (List Float)). filled o space) again,
    )

-- Writing the points that a call read answers the file's length, and writes the same bytes.
pub read_then_write : {file : List ℕ} {lent left : List Float} {n : ℕ} {space bytes : List ℕ} {w : Result ℕ Refusal} → Bytes file
    → ReadSays file lent (Ok n) left → length file ≤ length space → WriteSays (take (2 * n) left) space w bytes
    → (w ≡ Ok (length file)) × (bytes ≡ file ++ drop (length file) space)
read_then_write {file} {space = space} {w = w} all r room s =
    let again = write_read limit file _ _ all (read_held r).read (length space) room in (
      outcome_once _ (λ m n e. e) w (Ok (length file)) (s.answer ∙ also_answers _ again),
      s.bytes
          ∙ ap (λ (o : Outcome (List ℕ)). filled o space) again,
    )
