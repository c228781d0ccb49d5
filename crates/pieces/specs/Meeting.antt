-- How two pieces meet, in words of the places that they share. A piece is an edge of `ground`: the way from one point to another.
use Rattle.std.specs.Prelude.{◌≡◌, ◌⊎◌, ℤ, pos, ◌+ℤ◌, ◌-ℤ◌, ◌*ℤ◌}
use Rattle.whole.specs.Order.{◌≤ᶻ◌}
use Rattle.ground.specs.Edge.{Edge}
use Rattle.pieces.specs.Place.{Fraction, Place, Same, at}

-- Meeting 3: f is the fraction t of the way from a to b: f = a + (b - a)·t
abbrev pub Way : ℤ → ℤ → Fraction → Fraction → Type 0
Way a b t f = f.top *ℤ t.bottom ≡ (a *ℤ t.bottom +ℤ (b -ℤ a) *ℤ t.top) *ℤ f.bottom

-- Meeting 3: the place lies on the piece: for some fraction t from 0 to 1 it is that much of the way, in x and in y
pub record LiesOn (a : Edge) (s : Place) : Type 0 where
  pub t : Fraction
  pub least : pos 0 ≤ᶻ t.top
  pub most : t.top ≤ᶻ t.bottom
  pub x : Way a.from.x a.to.x t s.x
  pub y : Way a.from.y a.to.y t s.y

-- Meeting 3: it lies on both pieces
pub record Shared (a b : Edge) (s : Place) : Type 0 where
  pub first : LiesOn a s
  pub second : LiesOn b s

-- Meeting 6 and 7: exactly one place is shared, this one
pub record Only (a b : Edge) (s : Place) : Type 0 where
  pub shared : Shared a b s
  pub only : (r : Place) → Shared a b r → Same r s

-- Meeting 1: it is an end of the piece
abbrev pub IsEnd : Edge → Place → Type 0
IsEnd a s = Same s (at a.from) ⊎ Same s (at a.to)

-- Meeting 4: the four answers
pub data Meeting : Type 0 where
  apart : Meeting
  touching : Meeting
  crossing : Meeting
  overlapping : Meeting

-- Meeting 5 to 8: when each is right: no place is shared; exactly one, an end of either; exactly one, an end of neither; two that differ
abbrev pub Holds : Meeting → Edge → Edge → Type 0
Holds apart a b = (s : Place) → ¬ Shared a b s
Holds touching a b = (s : Place) × Only a b s × (IsEnd a s ⊎ IsEnd b s)
Holds crossing a b = (s : Place) × Only a b s × ¬ IsEnd a s × ¬ IsEnd b s
Holds overlapping a b = (r : Place) × (s : Place) × Shared a b r × Shared a b s × ¬ Same r s
