-- What an accepted read tells of its points, whatever the bytes are. In order: the coordinates, as many as asked for and each accepted; the
-- points of a file; what a call of the reader leaves at the start of the lent list. Not here: that a file is its points' (Laws.RoundTrip).
-- Assumes nothing.
use Prim.Native.Nat.{ℕ, zero, suc, ◌*◌, ◌/◌, ◌%◌, ◌≤◌}
use mathlib.Core.Path.{◌≡◌, refl, sym, ap, ◌∙◌, subst}
use mathlib.Core.Bool.{true}
use mathlib.Core.List.{List, [], ◌∷◌, ◌++◌}
use native.Mathlib.Omega.{arith}
use borrow.Author.Tests.{leb-true}
use lib.Dec.{leb}
use lib.ListN.{length, take, drop}
use lib.Seq.{take-append_seam}
use lib.Ieee.{Float}
use Rattle.std.specs.Prelude.{Ok}
use Rattle.refusal.specs.Outcome.{Outcome, answers, too_many, no_room, bytes_after}
use Rattle.point.specs.Accepted.{accepted_of}
use Rattle.refusal.specs.Judged.{filled}
use Rattle.number.specs.Number.{number_of}
use Rattle.track.specs.File.{limit}
use Rattle.track.specs.Write.{AllAccepted}
use Rattle.coordinate.specs.Coordinate.{coordinate_of}
use Rattle.track.specs.Read.{coordinates_of, counted_of, read_of, ReadSays}
use Rattle.refusal.proofs.Laws.Judged.{also_answered, require_answered}
use Rattle.coordinate.proofs.Laws.Taken.{coordinate_accepted}
use Rattle.track.proofs.Laws.Scan.{coordinates_end, coordinates_turn}

-- ---- coordinates
-- n coordinates, each accepted
record Coordinates (n : ℕ) (points : List Float) : Type 0 where
  many : length points ≡ n
  good : AllAccepted points

accepted_one : (x : Float) (xs : List Float) → accepted_of x ≡ true → AllAccepted xs → AllAccepted (x ∷ xs)
accepted_one x xs h k zero l = h
accepted_one x xs h k (suc i) l = k i (omega arith)

coordinates_accepted : (n : ℕ) (bytes : List ℕ) (start before other : ℕ) (points : List Float)
    → coordinates_of bytes start before other n ≡ answers points → Coordinates n points
coordinates_accepted zero bytes start before other points e =
    let g = require_answered (leb (length bytes) start) bytes_after start _ (sym (coordinates_end bytes start before other) ∙ e) in
    let none : [] ≡ points = cc g.1 in
    subst (Coordinates 0) none (record { many = refl; good = λ i l. let z : ⊥ = omega arith in absurd z })
coordinates_accepted (suc n) bytes start before other points e =
    let a = also_answered (coordinate_of bytes start before) _ (sym (coordinates_turn bytes start before other n) ∙ e) in
    let c = a.0 in
    let b = also_answered (coordinates_of bytes c.next other c.pattern n) _ a.2 in
    let xs = b.0 in
    let rest = coordinates_accepted n bytes c.next other c.pattern xs b.1 in
    let is : c.value ∷ xs ≡ points = cc b.2 in
    subst (Coordinates (suc n)) is (record {
      many = ap suc rest.many;
      good = accepted_one c.value xs (coordinate_accepted bytes start before c a.1) rest.good;
    })

-- ---- points
-- at most `most` points, two accepted coordinates for each
pub record PointList (most : ℕ) (points : List Float) : Type 0 where
  pub even : length points % 2 ≡ 0
  pub few : length points ≤ 2 * most
  pub good : AllAccepted points

pub read_points : (most : ℕ) (bytes : List ℕ) (room : ℕ) (points : List Float) → read_of most bytes room ≡ answers points
    → PointList most points
unfolding read_of counted_of
read_points most bytes room points e =
    let a = also_answered (number_of bytes 0) _ e in
    let m = a.0 in
    let few = require_answered (leb m.value most) too_many 0 _ a.2 in
    let fill = require_answered (leb (2 * m.value) room) no_room 0 _ few.1 in
    let d = coordinates_accepted (2 * m.value) bytes m.next 0 0 points fill.1 in
    let within : m.value ≤ most = leb-true m.value most few.0 in
    record { even = omega (arith, d.many); few = omega (arith, d.many); good = d.good }

-- ---- a call that answers n points
pub record Held (bytes : List ℕ) (room n : ℕ) (left : List Float) : Type 0 where
  pub read : read_of limit bytes room ≡ answers (take (2 * n) left)
  pub many : length (take (2 * n) left) ≡ 2 * n
  pub few : n ≤ limit
  pub good : AllAccepted (take (2 * n) left)

pub read_held : {bytes : List ℕ} {lent : List Float} {n : ℕ} {left : List Float} → ReadSays bytes lent (Ok n) left
    → Held bytes (length lent) n left
read_held {bytes} {lent} {n} {left} r =
    let a = also_answered (read_of limit bytes (length lent)) _ (sym r.answer) in
    let points = a.0 in
    let half : length points / 2 ≡ n = cc a.2 in
    let p = read_points limit bytes (length lent) points a.1 in
    let size : length points ≡ 2 * n = omega (arith, p.even) in
    let is : left ≡ points ++ drop (length points) lent = r.entries ∙ ap (λ (o : Outcome (List Float)). filled o lent) a.1 in
    let first : take (2 * n) left ≡ points = ap (λ (k : ℕ). take k left) (sym size) ∙ ap (take (length points)) is
    ∙ take-append_seam points (drop (length points) lent) in
    record {
      read = a.1 ∙ ap answers (sym first);
      many = ap length first ∙ size;
      few = omega (arith, p.few);
      good = subst AllAccepted (sym first) p.good;
    }
