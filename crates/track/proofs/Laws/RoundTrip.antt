-- Writing and reading undo one another. In order: a list of coordinates reads back; the bytes of coordinates that were read; reading what
-- was written, and writing what was read. Not here: one number (Laws.Number and Laws.Taken of crate number), one coordinate (Laws.Taken of
-- crate coordinate). Assumes nothing.
use Prim.Native.Nat.{ℕ, zero, suc, ◌+◌, ◌-◌, ◌*◌, ◌/◌, ◌%◌, ◌^◌, ◌≤◌, ◌<◌}
use mathlib.Core.Path.{◌≡◌, refl, sym, ap, ◌∙◌, subst}
use mathlib.Core.List.{List, [], ◌∷◌, ◌++◌}
use native.Mathlib.Omega.{arith}
use borrow.Author.Tests.{le-leb, leb-true, eqb-true}
use lib.Dec.{eqb, leb}
use lib.ListN.{length, drop, length-drop, drop_of_length-le}
use lib.Ieee.{Float, binary64, to_bits}
use lib.Ieee.Bits.{to_bits-lt}
use Rattle.refusal.specs.Outcome.{answers, odd_length, too_many, not_accepted, no_room, bytes_after}
use Rattle.refusal.specs.Search.{passing_from}
use Rattle.point.specs.Accepted.{accepted_of}
use Rattle.double.specs.Worth.{AllDoubles}
use Rattle.number.specs.declared.answer.Number.{Number}
use Rattle.number.specs.Number.{written_of, Bytes, number_of}
use Rattle.coordinate.specs.Difference.{stored_of}
use Rattle.track.specs.File.{coordinate_bytes, file_of, largest}
use Rattle.track.specs.Write.{accepted_from, write_of}
use Rattle.coordinate.specs.Coordinate.{coordinate_of}
use Rattle.track.specs.Read.{coordinates_of, counted_of, read_of}
use Rattle.refusal.proofs.Laws.Judged.{also_answers, require_holds, also_answered, require_answered}
use Rattle.number.proofs.Laws.Number.{number_back}
use Rattle.number.proofs.Laws.Taken.{number_read}
use Rattle.coordinate.proofs.Laws.Difference.{stored_below}
use Rattle.coordinate.proofs.Laws.Taken.{coordinate_back, coordinate_taken}
use Rattle.track.proofs.Laws.Scan.{coordinates_end, coordinates_turn}
use Rattle.track.proofs.Laws.File.{file_length}
use Rattle.track.proofs.Laws.Write.{accepted_cons, write_whole}
use Rattle.track.proofs.Laws.Read.{counted_read}

-- ---- written coordinates
coordinates_back : (points : List Float) (file : List ℕ) (start before other k : ℕ) → before < 2 ^ 64 → other < 2 ^ 64 → AllDoubles points
    → accepted_from k points ≡ answers tt → drop start file ≡ coordinate_bytes before other points
    → coordinates_of file start before other (length points) ≡ answers points
unfolding coordinate_bytes passing_from
coordinates_back [] file start before other k hb ho fit good e =
    let none : length file - start ≡ 0 = sym (length-drop start file) ∙ ap length e in
    let over : length file ≤ start = omega arith in
    coordinates_end file start before other ∙ require_holds bytes_after start _ (le-leb _ _ over)
coordinates_back (x ∷ xs) file start before other k hb ho fit good e =
    let p = to_bits binary64 x in
    let z = stored_of p before in
    let hp : p < 2 ^ 64 = to_bits-lt binary64 x (fit 0) in
    let rest = coordinate_bytes other p xs in
    let g = require_answered (accepted_of x) not_accepted k _ (sym (accepted_cons k x xs) ∙ good) in
    let n = number_back file start z rest (stored_below p before hp hb) e in
    coordinates_turn file start before other (length xs)
    ∙ also_answers _ (coordinate_back file start before x rest hb (fit 0) g.0 e)
    ∙ also_answers _ (coordinates_back xs file (start + length (written_of z)) other p (suc k) ho hp (λ i. fit (suc i)) g.1 n.1)

-- ---- coordinates that were read
-- n of them, accepted, and their bytes are the rest of the file
record Decoded (file : List ℕ) (start before other n : ℕ) (points : List Float) : Type 0 where
  many : length points ≡ n
  good : (k : ℕ) → accepted_from k points ≡ answers tt
  same : drop start file ≡ coordinate_bytes before other points

coordinates_taken : (n : ℕ) (file : List ℕ) (start before other : ℕ) (points : List Float) → Bytes file → before < 2 ^ 64 → other < 2 ^ 64
    → coordinates_of file start before other n ≡ answers points → Decoded file start before other n points
unfolding coordinate_bytes passing_from
coordinates_taken zero file start before other points all hb ho e =
    let g = require_answered (leb (length file) start) bytes_after start _ (sym (coordinates_end file start before other) ∙ e) in
    let none : [] ≡ points = cc g.1 in
    subst (Decoded file start before other 0) none
    (record { many = refl; good = λ _. refl; same = drop_of_length-le file (leb-true (length file) start g.0) })
coordinates_taken (suc n) file start before other points all hb ho e =
    let a = also_answered (coordinate_of file start before) _ (sym (coordinates_turn file start before other n) ∙ e) in
    let c = a.0 in
    let one = coordinate_taken file start before c all hb a.1 in
    let b = also_answered (coordinates_of file c.next other c.pattern n) _ a.2 in
    let xs = b.0 in
    let rest = coordinates_taken n file c.next other c.pattern xs all ho one.below b.1 in
    let is : c.value ∷ xs ≡ points = cc b.2 in
    subst (Decoded file start before other (suc n)) is (record {
      many = ap suc rest.many;
      good = λ k. accepted_cons k c.value xs ∙ require_holds not_accepted k _ one.good ∙ rest.good (suc k);
      same = one.same ∙ ap (λ (z : List ℕ). written_of (stored_of c.pattern before) ++ z) rest.same
          ∙ sym (ap (λ (p : ℕ). written_of (stored_of p before) ++ coordinate_bytes other p xs) one.bits);
    })

-- ---- both ways, for at most `most` points
module _ (most : ℕ) where
  -- what an accepted list tells
  record Listed (points : List Float) (file : List ℕ) : Type 0 where
    even : length points % 2 ≡ 0
    few : length points ≤ 2 * most
    good : accepted_from 0 points ≡ answers tt
    same : file_of points ≡ file

  write_listed : (points : List Float) (room : ℕ) (file : List ℕ) → write_of most points room ≡ answers file → Listed points file
  unfolding write_of
  write_listed points room file e =
      let even = require_answered (eqb (length points % 2) 0) odd_length 0 _ e in
      let few = require_answered (leb (length points) (2 * most)) too_many 0 _ even.1 in
      let good = also_answered (accepted_from 0 points) _ few.1 in
      let fill = require_answered (leb (length (file_of points)) room) no_room 0 _ good.2 in
      record {
        even = eqb-true (length points % 2) 0 even.0;
        few = leb-true (length points) (2 * most) few.0;
        good = good.1;
        same = (cc fill.1);
      }

  -- A file is no longer than `largest most`.
  pub write_length : (points : List Float) (room : ℕ) (file : List ℕ) → write_of most points room ≡ answers file → length file ≤ largest most
  write_length points room file e =
      let l = write_listed points room file e in
      omega (arith, file_length most points l.few, ap length l.same)

  -- Reading what was written gives the same points: the same doubles, each known by its pattern (-0 and +0 are two), and as many.
  pub read_write : most < 2 ^ 64 → (points : List Float) (room : ℕ) (file : List ℕ) (space : ℕ) → AllDoubles points
      → write_of most points room ≡ answers file → length points ≤ space → read_of most file space ≡ answers points
  unfolding read_of file_of
  read_write hm points room file space fit e h =
      let l = write_listed points room file e in
      let v = length points / 2 in
      let few : v ≤ most = omega (arith, l.few) in
      let twice : 2 * v ≡ length points = omega (arith, l.even) in
      let start = 0 + length (written_of v) in
      let n = number_back file 0 v (coordinate_bytes 0 0 points) (omega arith) (sym l.same) in
      also_answers (λ (z : Number). counted_of most file z space) (sym n.0)
      ∙ counted_read most file (record { value = v; next = start }) space few (omega arith)
      ∙ ap (coordinates_of file start 0 0) twice
      ∙ coordinates_back points file start 0 0 0 (omega arith) (omega arith) fit l.good n.1

  -- An accepted file is the file of its points, which the writer accepts.
  read_accepted : (file : List ℕ) (room : ℕ) (points : List Float) → Bytes file → read_of most file room ≡ answers points
      → Listed points file
  unfolding read_of counted_of file_of
  read_accepted file room points all e =
      let a = also_answered (number_of file 0) _ e in
      let m = a.0 in
      let few = require_answered (leb m.value most) too_many 0 _ a.2 in
      let fill = require_answered (leb (2 * m.value) room) no_room 0 _ few.1 in
      let n = number_read file 0 m all a.1 in
      let d = coordinates_taken (2 * m.value) file m.next 0 0 points all (omega arith) (omega arith) fill.1 in
      let half : length points / 2 ≡ m.value = omega (arith, d.many) in
      let within : m.value ≤ most = leb-true m.value most few.0 in
      record {
        even = omega (arith, d.many);
        few = omega (arith, d.many);
        good = d.good 0;
        same = ap (λ (v : ℕ). written_of v ++ coordinate_bytes 0 0 points) half
            ∙ ap (λ (z : List ℕ). written_of m.value ++ z) (sym d.same) ∙ sym n.same;
      }

  -- Every accepted file is what the writer writes for the points it holds, where there is room.
  pub write_read : (file : List ℕ) (room : ℕ) (points : List Float) → Bytes file → read_of most file room ≡ answers points
      → (space : ℕ) → length file ≤ space → write_of most points space ≡ answers file
  write_read file room points all e space h =
      let a = read_accepted file room points all e in
      write_whole most points space a.even a.few a.good (omega (arith, ap length a.same)) ∙ ap answers a.same

  -- So no two files hold the same points.
  pub file_once : (a b : List ℕ) (room_a room_b : ℕ) (points : List Float) → Bytes a → Bytes b
      → read_of most a room_a ≡ answers points → read_of most b room_b ≡ answers points → a ≡ b
  file_once a b room_a room_b points all_a all_b p q =
      sym (read_accepted a room_a points all_a p).same ∙ (read_accepted b room_b points all_b q).same
