-- What an entry answers. In order: a side; a zone, whose length is judged first; every number that an entry can answer; no two results
-- satisfy a promise. Assumes nothing.
use mathlib.Core.Path.{◌≡◌, refl, sym, ap, ◌∙◌}
use mathlib.Core.Bool.{Bool, true, false}
use mathlib.Core.List.{List}
use Prim.Native.Nat.{ℕ, zero, suc, ◌+◌, ◌*◌, ◌/◌, ◌%◌, ◌≤◌, ◌<◌}
use native.Mathlib.Omega.{arith}
use lib.Dec.{eqb}
use lib.IntN.{ℤ, pos, negsuc}
use lib.ListN.{take, length}
use lib.Ieee.{Float}
use borrow.Author.Tests.{eq-eqb, ne_eqb}
use Rattle.refusal.specs.Outcome.{Outcome, Fixes, too_many, too_few_corners, odd_length, kind_number}
use Rattle.refusal.specs.Judged.{require, also}
use Rattle.refusal.specs.declared.Refusal.{Refusal}
use Rattle.point.specs.declared.Point.{Point}
use Rattle.sum.specs.Total.{sign_number}
use Rattle.geometry.specs.Side.{Turned, side_of, said}
use Rattle.geometry.specs.declared.answer.Turn.{Turn}
use Rattle.geometry.specs.Zone.{fewest, most, place_said, zone_of, zone_said}
use Rattle.ground.specs.Zone.{Lies, outside, border, inside, place_number}
use Rattle.geometry.specs.declared.answer.Place.{Place}
use Rattle.geometry.proofs.Laws.Zone.{zone_small, zone_large}
use Rattle.geometry.proofs.Laws.Outcomes.{side_outcomes, zone_outcomes}
use Rattle.viewer.specs.Bytes.{point_of, doubles_from, doubles_of}
use Rattle.viewer.specs.Entries.{base, entry_of, sign_answer, turn_answer, side_entry, SideEntrySays, zone_of_bytes, zone_entry, ZoneEntrySays}
use Rattle.viewer.specs.Entries.{is_one_of, side_answers, zone_answers}
use Rattle.viewer.proofs.Laws.Bytes.{doubles_length}
use Rattle.std.specs.Prelude.{Err, Ok}

-- ---- the side
module _ (px py qx qy rx ry : ℕ) (p q r : Point) (at_p : p ≡ point_of px py) (at_q : q ≡ point_of qx qy) (at_r : r ≡ point_of rx ry) where
  side_said : (o : Outcome Turned) → o ≡ side_of p q r → entry_of turn_answer o ≡ side_entry px py qx qy rx ry
  unfolding side_entry
  side_said o h =
      let same : side_of p q r ≡ side_of (point_of px py) (point_of qx qy) (point_of rx ry) = cc in
      ap (λ (o : Outcome Turned). entry_of turn_answer o) (h ∙ same)

  pub side_entry_turn : (t : Turn) → said (Ok t) ≡ side_of p q r → sign_answer (sign_number t.sign) ≡ side_entry px py qx qy rx ry
  unfolding said entry_of
  side_entry_turn t h = side_said (said (Ok t)) h

  pub side_entry_refused : (n : Refusal) → said (Err n) ≡ side_of p q r → base + (kind_number n.kind) ≡ side_entry px py qx qy rx ry
  unfolding said entry_of
  side_entry_refused n h = side_said (said (Err n)) h

-- ---- the zone: its length is judged first
module _ (px py : ℕ) (bytes : List ℕ) where
  pub zone_entry_odd : (length bytes % 16 ≡ 0 → ⊥) → base + odd_length ≡ zone_entry px py bytes
  unfolding zone_entry zone_of_bytes entry_of
  zone_entry_odd h = rw (ne_eqb (length bytes % 16) 0 h)

  module _ (whole : length bytes % 16 ≡ 0) where
    abbrev corners : ℕ
    corners = length bytes / 16

    abbrev doubles : List Float
    doubles = doubles_from (2 * corners) bytes

    whole_said : entry_of place_number (zone_of doubles (point_of px py)) ≡ zone_entry px py bytes
    unfolding zone_entry zone_of_bytes doubles_of
    whole_said = let e : 2 * corners ≡ length bytes / 8 = omega arith in rw (eq-eqb (length bytes % 16) 0 whole, e)

    even : length doubles % 2 ≡ 1 → ⊥
    even h = omega (arith, doubles_length (2 * corners) bytes)

    pub zone_entry_few : corners < fewest → base + too_few_corners ≡ zone_entry px py bytes
    unfolding entry_of
    zone_entry_few h =
        ap (λ (o : Outcome Lies). entry_of place_number o)
        (zone_small doubles (point_of px py) even (omega (arith, doubles_length (2 * corners) bytes)))
        ∙ whole_said

    pub zone_entry_many : fewest ≤ corners → most < corners → base + too_many ≡ zone_entry px py bytes
    unfolding entry_of
    zone_entry_many some h =
        ap (λ (o : Outcome Lies). entry_of place_number o)
        (zone_large doubles (point_of px py) even (omega (arith, doubles_length (2 * corners) bytes))
        (omega (arith, doubles_length (2 * corners) bytes)))
        ∙ whole_said

    module _ (p : Point) (list : List Float) (at : p ≡ point_of px py) (decoded : take (length bytes / 8) list ≡ doubles_of bytes) where
      abbrev xs : List Float
      xs = take (2 * corners) list

      decoded_all : xs ≡ doubles
      unfolding doubles_of
      decoded_all = let e : 2 * corners ≡ length bytes / 8 = omega arith in rw e decoded

      zone_said_lem : (o : Outcome Lies) → o ≡ zone_of xs p → entry_of place_number o ≡ zone_entry px py bytes
      zone_said_lem o h =
          let same : zone_of xs p ≡ zone_of doubles (point_of px py) = cc decoded_all in
          ap (λ (o : Outcome Lies). entry_of place_number o) (h ∙ same) ∙ whole_said

      pub zone_entry_place : (place : Place) → zone_said (Ok place) ≡ zone_of xs p → place_number (place_said place) ≡ zone_entry px py bytes
      unfolding zone_said entry_of
      zone_entry_place place h = zone_said_lem (zone_said (Ok place)) h

      pub zone_entry_refused : (n : Refusal) → zone_said (Err n) ≡ zone_of xs p → base + (kind_number n.kind) ≡ zone_entry px py bytes
      unfolding zone_said entry_of
      zone_entry_refused n h = zone_said_lem (zone_said (Err n)) h

-- ---- every number that an entry can answer
sign_answers : (s : ℤ) → is_one_of side_answers (sign_answer s) ≡ true
unfolding sign_answer
sign_answers (negsuc n) = refl
sign_answers (pos zero) = refl
sign_answers (pos (suc n)) = refl

pub side_entry_answers : (px py qx qy rx ry : ℕ) → is_one_of side_answers (side_entry px py qx qy rx ry) ≡ true
unfolding side_entry entry_of
side_entry_answers px py qx qy rx ry =
    side_outcomes (λ (o : Outcome Turned). is_one_of side_answers (entry_of turn_answer o) ≡ true) (λ t. sign_answers t.sign) (λ place. refl)
    (point_of px py) (point_of qx qy) (point_of rx ry)

place_answers : (place : Lies) → is_one_of zone_answers (place_number place) ≡ true
place_answers outside = refl
place_answers (border k) = refl
place_answers inside = refl

abbrev Listed : Outcome Lies → Type 0
Listed o = is_one_of zone_answers (entry_of place_number o) ≡ true

whole_or_odd : (b : Bool) (o : Outcome Lies) → Listed o → Listed (also (require b odd_length 0) (λ _. o))
unfolding entry_of
whole_or_odd true o h = h
whole_or_odd false o h = refl

pub zone_entry_answers : (px py : ℕ) (bytes : List ℕ) → is_one_of zone_answers (zone_entry px py bytes) ≡ true
unfolding zone_entry zone_of_bytes entry_of
zone_entry_answers px py bytes =
    whole_or_odd (eqb (length bytes % 16) 0) (zone_of (doubles_of bytes) (point_of px py))
    (zone_outcomes Listed place_answers refl refl refl (λ place. refl) (doubles_of bytes) (point_of px py))

-- ---- no two results satisfy a promise
pub ghomxarin_side_fixed : (px py qx qy rx ry : ℕ) → Fixes (SideEntrySays px py qx qy rx ry)
ghomxarin_side_fixed px py qx qy rx ry a b h k = h ∙ sym k

pub ghomxarin_zone_fixed : (px py : ℕ) (bytes : List ℕ) → Fixes (ZoneEntrySays px py bytes)
ghomxarin_zone_fixed px py bytes a b h k = h ∙ sym k
