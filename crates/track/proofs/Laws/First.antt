-- The first bytes of a file decide what reading it answers. In order: all coordinates; the whole file, for which 10,243 bytes are enough. Not
-- here: one number (Laws.Taken of crate number), one coordinate (Laws.Taken of crate coordinate). Assumes nothing.
use Prim.Native.Nat.{ℕ, zero, suc, ◌+◌, ◌*◌, ◌≤◌, ◌<◌}
use mathlib.Core.Path.{◌≡◌, refl, sym, ap, ◌∙◌}
use mathlib.Core.Bool.{Bool, true, false}
use mathlib.Core.List.{List, [], ◌∷◌}
use native.Mathlib.Omega.{arith}
use borrow.Author.Tests.{le-leb, lt-leb, leb-true, leb-false}
use lib.Dec.{leb}
use lib.ListN.{length, take, length-take}
use lib.Ieee.{Float}
use Rattle.refusal.specs.Outcome.{Outcome, answers, refuses, too_many, no_room, bytes_after}
use Rattle.refusal.specs.Judged.{require, also}
use Rattle.number.specs.declared.answer.Number.{Number}
use Rattle.number.specs.Number.{Bytes, number_of}
use Rattle.track.specs.File.{largest}
use Rattle.coordinate.specs.declared.answer.Coordinate.{Coordinate}
use Rattle.coordinate.specs.Coordinate.{coordinate_of}
use Rattle.track.specs.Read.{coordinates_of, counted_of, read_of}
use Rattle.number.proofs.Laws.Written.{written_length, written_mono}
use Rattle.track.proofs.Laws.Scan.{coordinates_end, coordinates_turn}
use Rattle.number.proofs.Laws.Taken.{Read, number_read, number_first}
use Rattle.coordinate.proofs.Laws.Taken.{coordinate_near, coordinate_first}

-- ---- all coordinates
-- whether bytes follow an offset below n
end_first : (file : List ℕ) (n start : ℕ) → start < n → leb (length (take n file)) start ≡ leb (length file) start
end_first file n start h = go (leb (length file) start) refl
  where
    go : (t : Bool) → leb (length file) start ≡ t → leb (length (take n file)) start ≡ t
    go true e = let l = leb-true (length file) start e in le-leb (length (take n file)) start (simp length-take (omega arith))
    go false e = let l = leb-false (length file) start e in lt-leb (length (take n file)) start (simp length-take (omega arith))

coordinates_first : (count : ℕ) (file : List ℕ) (n start before other : ℕ) → start + 10 * count < n
    → coordinates_of (take n file) start before other count ≡ coordinates_of file start before other count
coordinates_first zero file n start before other h =
    coordinates_end (take n file) start before other
    ∙ ap (λ (t : Bool). also {B = List Float} (require t bytes_after start) (λ _. answers [])) (end_first file n start (omega arith))
    ∙ sym (coordinates_end file start before other)
coordinates_first (suc count) file n start before other h =
    coordinates_turn (take n file) start before other count
    ∙ ap (λ (o : Outcome Coordinate). also o (onward (take n file))) (coordinate_first file n start before (omega arith))
    ∙ go (coordinate_of file start before) (coordinate_near file start before)
    (λ c l. coordinates_first count file n c.next other c.pattern (omega arith))
    ∙ sym (coordinates_turn file start before other count)
  where
    onward : List ℕ → Coordinate → Outcome (List Float)
    onward bytes c = also (coordinates_of bytes c.next other c.pattern count) (λ rest. answers (c.value ∷ rest))

    go : (o : Outcome Coordinate) → ((c : Coordinate) → o ≡ answers c → c.next ≤ start + 10)
        → ((c : Coordinate) → c.next ≤ start + 10
        → coordinates_of (take n file) c.next other c.pattern count ≡ coordinates_of file c.next other c.pattern count)
        → also o (onward (take n file)) ≡ also o (onward file)
    go (answers c) near ih = ap (λ (z : Outcome (List Float)). also z (λ rest. answers (c.value ∷ rest))) (ih c (near c refl))
    go (refuses number place) near ih = refl

-- ---- the whole file
-- what follows a count of at most `most` points
counted_first : (most : ℕ) (file : List ℕ) (n : ℕ) (m : Number) (room : ℕ) → (m.value ≤ most → m.next + 10 * (2 * m.value) < n)
    → counted_of most (take n file) m room ≡ counted_of most file m room
unfolding counted_of
counted_first most file n m room h = go (leb m.value most) (leb-true m.value most)
  where
    rest : List ℕ → Outcome (List Float)
    rest bytes = also (require (leb (2 * m.value) room) no_room 0) (λ _. coordinates_of bytes m.next 0 0 (2 * m.value))

    go : (t : Bool) → (t ≡ true → m.value ≤ most)
        → also (require t too_many 0) (λ _. rest (take n file)) ≡ also (require t too_many 0) (λ _. rest file)
    go true few =
        ap (λ (z : Outcome (List Float)). also (require (leb (2 * m.value) room) no_room 0) (λ _. z))
        (coordinates_first (2 * m.value) file n m.next 0 0 (h (few refl)))
    go false few = refl

-- Reading one byte more than the largest file answers as reading the whole file.
pub read_first : (most : ℕ) → 0 < most → (file : List ℕ) (room : ℕ) → Bytes file
    → read_of most (take (largest most + 1) file) room ≡ read_of most file room
unfolding read_of
read_first most some file room all =
    let n = largest most + 1 in
    ap (λ (o : Outcome Number). also o (λ m. counted_of most (take n file) m room))
    (number_first file n 0 (omega (arith, (written_length most).0)))
    ∙ go (number_of file 0) (λ m e. number_read file 0 m all e)
  where
    go : (o : Outcome Number) → ((m : Number) → o ≡ answers m → Read file 0 m)
        → also o (λ m. counted_of most (take (largest most + 1) file) m room) ≡ also o (λ m. counted_of most file m room)
    go (answers m) read =
        counted_first most file (largest most + 1) m room
        (λ few. omega (arith, (read m refl).next, written_mono m.value most few))
    go (refuses number place) read = refl
