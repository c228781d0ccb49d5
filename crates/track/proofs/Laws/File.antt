-- The bytes of a list of points. In order: one coordinate more; how long they are, ten bytes for each coordinate; a run of stores that
-- writes them. Not here: one number (Laws.Put). Assumes nothing.
use Prim.Native.Nat.{ℕ, suc, ◌+◌, ◌*◌, ◌/◌, ◌≤◌, ◌<◌}
use mathlib.Core.Path.{◌≡◌, refl, sym, ap, ◌∙◌}
use mathlib.Core.List.{List, [], ◌∷◌, ◌++◌}
use native.Mathlib.Nat.{add-zero, add-suc, suc-add}
use native.Mathlib.Numerals.{add-one}
use native.Mathlib.Omega.{arith}
use lib.ListN.{length, drop, get_or, set, length-append, drop_of_length-le}
use lib.Seq.{drop-cons, sets, length-sets}
use lib.Ieee.{Float, binary64, to_bits}
use Rattle.number.specs.Number.{written_of}
use Rattle.coordinate.specs.Difference.{stored_of}
use Rattle.track.specs.File.{coordinate_bytes, file_of, largest}
use Rattle.number.proofs.Laws.Written.{written_length, written_mono}

-- ---- one coordinate more
module _ (points : List Float) (before other i : ℕ) (z : Float) where
  pub bytes_more : i < length points
      → coordinate_bytes before other (drop i points)
      ≡ written_of (stored_of (to_bits binary64 (get_or points i z)) before) ++ coordinate_bytes other (to_bits binary64 (get_or points i z))
      (drop (i + 1) points)
  unfolding coordinate_bytes
  bytes_more h = rw (add-one, drop-cons points i z)

  pub bytes_end : length points ≤ i → coordinate_bytes before other (drop i points) ≡ []
  unfolding coordinate_bytes
  bytes_end h = ap (coordinate_bytes before other) (drop_of_length-le points h)

-- ---- how long
pub bytes_length : (before other : ℕ) (points : List Float) → length (coordinate_bytes before other points) ≤ 10 * length points
unfolding coordinate_bytes
bytes_length before other [] = omega arith
bytes_length before other (x ∷ xs) =
    let p = to_bits binary64 x in
    let z = stored_of p before in
    omega (arith, length-append (written_of z) (coordinate_bytes other p xs), (written_length z).1, bytes_length other p xs)

-- the count's bytes and the coordinates' bytes are the file's
pub file_total : (points : List Float) (m n : ℕ) → m ≡ length (written_of (length points / 2)) → n ≡ length (coordinate_bytes 0 0 points)
    → m + n ≡ length (file_of points)
unfolding file_of
file_total points m n d e = omega (arith, length-append (written_of (length points / 2)) (coordinate_bytes 0 0 points))

-- the file of at most `most` points is no longer than `largest most`
pub file_length : (most : ℕ) (points : List Float) → length points ≤ 2 * most → length (file_of points) ≤ largest most
unfolding file_of
file_length most points h =
    let half : length points / 2 ≤ most = omega arith in
    omega (
      arith,
      length-append (written_of (length points / 2)) (coordinate_bytes 0 0 points),
      written_mono (length points / 2) most half,
      bytes_length 0 0 points,
    )

-- ---- written by stores
sets_append : {A : Type 0} (l : List A) (i : ℕ) (vs ws : List A) → sets (sets l i vs) (i + length vs) ws ≡ sets l i (vs ++ ws)
sets_append l i [] ws = rw (add-zero i)
sets_append l i (v ∷ vs) ws = rw (add-suc i (length vs), ← suc-add i (length vs)) (sets_append (set l i v) (suc i) vs ws)

-- the count and then the coordinates
pub file_put : (points : List Float) (out counted left : List ℕ) (at : ℕ) → at ≡ 0 + length (written_of (length points / 2))
    → counted ≡ sets out 0 (written_of (length points / 2)) → left ≡ sets counted at (coordinate_bytes 0 0 points)
    → left ≡ sets out 0 (file_of points)
unfolding file_of
file_put points out counted left at a e l = l ∙ rw (a, e) (sets_append out 0 (written_of (length points / 2)) (coordinate_bytes 0 0 points))

-- what is still to be stored: the coordinates from index i on, at offset `at`
pub record Putting (points : List Float) (out₀ : List ℕ) (start : ℕ) (out : List ℕ) (at before other i : ℕ) : Type 0 where
  pub few : i ≤ length points
  pub len : length out ≡ length out₀
  pub all : sets out at (coordinate_bytes before other (drop i points)) ≡ sets out₀ start (coordinate_bytes 0 0 points)
  pub ends : at + length (coordinate_bytes before other (drop i points)) ≡ start + length (coordinate_bytes 0 0 points)

pub putting_start : (points : List Float) (out : List ℕ) (start : ℕ) → Putting points out start out start 0 0 0
putting_start points out start = record { few = omega arith; len = refl; all = refl; ends = refl }

module _ (points : List Float) (out₀ : List ℕ) (start : ℕ) (out : List ℕ) (at before other i : ℕ) (z : Float)
    (p : Putting points out₀ start out at before other i) where
  module _ (h : i < length points) (n : ℕ) (e : n ≡ stored_of (to_bits binary64 (get_or points i z)) before) where
    more : coordinate_bytes before other (drop i points)
        ≡ written_of n ++ coordinate_bytes other (to_bits binary64 (get_or points i z)) (drop (i + 1) points)
    more = rw e (bytes_more points before other i z h)

    -- a number is within the place lent
    pub putting_within : start + length (coordinate_bytes 0 0 points) ≤ length out₀ → at + length (written_of n) ≤ length out
    putting_within room =
        omega (
          arith,
          p.ends,
          p.len,
          ap length more,
          length-append (written_of n) (coordinate_bytes other (to_bits binary64 (get_or points i z)) (drop (i + 1) points)),
        )

    pub putting_turn : (next : ℕ) (stored : List ℕ) → next ≡ at + length (written_of n) → stored ≡ sets out at (written_of n)
        → Putting points out₀ start stored next other (to_bits binary64 (get_or points i z)) (i + 1)
    putting_turn next stored d s =
        let rest = coordinate_bytes other (to_bits binary64 (get_or points i z)) (drop (i + 1) points) in
        record {
          few = omega arith;
          len = ap length s ∙ length-sets out at (written_of n) ∙ p.len;
          all = rw (d, s) (sets_append out at (written_of n) rest ∙ ap (sets out at) (sym more) ∙ p.all);
          ends = omega (arith, d, p.ends, ap length more, length-append (written_of n) rest);
        }

  pub putting_done : length points ≤ i → out ≡ sets out₀ start (coordinate_bytes 0 0 points)
  putting_done h = ap (sets out at) (sym (bytes_end points before other i z h)) ∙ p.all
