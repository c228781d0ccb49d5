-- The codes of releases. In order: one release's code, which a judged zone always has; the codes of a list; the codes as they are written,
-- one after the other. Not here: what a report says (`Report`). Assumes nothing.
use Prim.Native.Nat.{ℕ, zero, suc, ◌+◌, ◌*◌, ◌/◌, ◌≤◌, ◌<◌}
use mathlib.Core.Path.{◌≡◌, refl, sym, ap, ap₂, ◌∙◌}
use mathlib.Core.List.{List, [], ◌∷◌, ◌++◌}
use native.Mathlib.Numerals.{add-one}
use native.Mathlib.Omega.{arith}
use lib.ListN.{length, take, get_or, set, length-set}
use lib.Seq.{take-suc, take-suc-set, take_all}
use lib.Ieee.{Float}
use Rattle.std.specs.Prelude.{Err, Ok, Result}
use Rattle.std.specs.Result.{IsOk}
use Rattle.refusal.specs.declared.Refusal.{Refusal}
use Rattle.refusal.specs.Outcome.{answers}
use Rattle.refusal.proofs.Laws.Outcome.{no_refusal}
use Rattle.point.specs.declared.Point.{Point}
use Rattle.point.specs.Accepted.{Accepted}
use Rattle.geometry.specs.declared.answer.Place.{Place}
use Rattle.geometry.specs.Zone.{points_of, place_in, corner_at}
use Rattle.ground.specs.Zone.{Lies, outside, border, inside, place_number}
use Rattle.geometry.specs.Zone.{place_said, zone_said, zone_of}
use Rattle.geometry.proofs.Laws.Corners.{corners_count, corners_entry}
use Rattle.geometry.proofs.Laws.Answered.{zoned_answers}
use Rattle.track.specs.Write.{AllAccepted}
use Rattle.report.specs.Report.{code_of, codes_of}
use Rattle.report.specs.Parts.{IsZone}

-- ---- one release
module _ (corners : List Float) (p : Point) (z : Result Place Refusal) (zoned : IsZone corners) (accepted : Accepted p)
    (s : zone_said z ≡ zone_of corners p) where
  placed : zone_said z ≡ answers (place_in corners p)
  placed = s ∙ zoned_answers corners (length corners / 2) p zoned accepted

  pub code_place : (place : Place) → z ≡ Ok place → place_number (place_said place) ≡ code_of corners p
  unfolding zone_said code_of
  code_place place e =
      let at : answers (place_said place) ≡ answers (place_in corners p) = ap zone_said (sym e) ∙ placed in
      let same : place_said place ≡ place_in corners p = cc in
      ap place_number same

  -- a judged zone refuses no accepted point
  pub code_placed : IsOk z
  unfolding zone_said
  code_placed = go z placed
    where
      go : (r : Result Place Refusal) → zone_said r ≡ answers (place_in corners p) → IsOk r
      go (Ok place) e = refl
      go (Err r) e = no_refusal e

-- the code's number is the place's, for whatever the zone answers
pub code_zone : (corners : List Float) (p : Point) (lies : Lies) → IsZone corners → Accepted p
    → zone_of corners p ≡ answers lies → code_of corners p ≡ place_number lies
unfolding code_of
code_zone corners p lies zoned accepted e =
    let at : answers lies ≡ answers (place_in corners p) = sym e
    ∙ zoned_answers corners (length corners / 2) p zoned accepted in
    let same : lies ≡ place_in corners p = cc in
    sym (ap place_number same)

-- 0, 1 or 2
pub number_most : (lies : Lies) → place_number lies ≤ 2
number_most outside = omega arith
number_most (border k) = omega arith
number_most inside = omega arith

-- ---- the codes of a list of points
codes_count : (corners : List Float) (ps : List Point) → length (codes_of corners ps) ≡ length ps
unfolding codes_of
codes_count corners [] = refl
codes_count corners (p ∷ ps) = ap suc (codes_count corners ps)

codes_entry : (corners : List Float) (ps : List Point) (k : ℕ) (other : Point) → k < length ps
    → get_or (codes_of corners ps) k 0 ≡ code_of corners (get_or ps k other)
unfolding codes_of
codes_entry corners [] k other h = let z : ⊥ = omega arith in absurd z
codes_entry corners (p ∷ ps) zero other h = refl
codes_entry corners (p ∷ ps) (suc k) other h = codes_entry corners ps k other (omega arith)

-- a code for each release, which is its own
pub codes_length : (corners points : List Float) → length (codes_of corners (points_of points)) ≡ length points / 2
codes_length corners points = codes_count corners (points_of points) ∙ corners_count points

pub codes_at : (corners points : List Float) (k : ℕ) → k < length points / 2
    → get_or (codes_of corners (points_of points)) k 0 ≡ code_of corners (corner_at points k)
codes_at corners points k h =
    let within : k < length (points_of points) = omega (arith, corners_count points) in
    codes_entry corners (points_of points) k (corner_at points k) within
    ∙ ap (code_of corners) (corners_entry points k (corner_at points k) h)

-- ---- the codes as they are written
pub accepted_at : (points : List Float) (i : ℕ) → AllAccepted points → i < length points / 2 → Accepted (corner_at points i)
accepted_at points i all h = record { x = all (2 * i) (omega arith); y = all (2 * i + 1) (omega arith) }

-- the first i of them stand in the list
pub record Coding (corners points : List Float) (codes : List ℕ) (i : ℕ) : Type 0 where
  pub len : length codes ≡ length points / 2
  pub all : take i codes ≡ take i (codes_of corners (points_of points))

pub coding_start : (corners points : List Float) (codes : List ℕ) → length codes ≡ length points / 2 → Coding corners points codes 0
coding_start corners points codes e = record { len = e; all = refl }

module _ (corners points : List Float) (codes : List ℕ) (i : ℕ) (p : Coding corners points codes i) where
  list : List ℕ
  list = codes_of corners (points_of points)

  pub coding_turn : i < length codes → (v : ℕ) → v ≡ code_of corners (corner_at points i) → Coding corners points (set codes i v) (i + 1)
  unfolding list
  coding_turn l v e =
      let within : i < length list = omega (arith, p.len, codes_length corners points) in
      let own : v ≡ get_or list i 0 = e ∙ sym (codes_at corners points i (omega (arith, p.len))) in
      record {
        len = length-set codes i v ∙ p.len;
        all = rw (add-one i)
            (take-suc-set codes i v l ∙ ap₂ (λ (a : List ℕ) (y : ℕ). a ++ (y ∷ [])) p.all own ∙ sym (take-suc list i 0 within));
      }

  pub coding_done : length codes ≤ i → codes ≡ codes_of corners (points_of points)
  coding_done h =
      let few : length (codes_of corners (points_of points)) ≤ i = omega (arith, p.len, codes_length corners points) in
      sym (take_all i codes h) ∙ p.all ∙ take_all i (codes_of corners (points_of points)) few
