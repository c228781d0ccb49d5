-- The pieces that are printed to say why each release has its place. In order: where there are no places the desk's own text is the one piece;
-- otherwise the header and the lines, one by one, and how many they are; what was found of two good files, for who prints its pieces.
-- Assumes nothing.
use Prim.Native.Nat.{ℕ, zero, suc, ◌+◌, ◌*◌, ◌/◌, ◌<◌}
use mathlib.Core.Path.{◌≡◌, refl, sym, ap, ap₂, ◌∙◌}
use mathlib.Core.Bool.{true, false}
use mathlib.Core.List.{List, [], ◌∷◌}
use native.Mathlib.Numerals.{add-one}
use native.Mathlib.Omega.{arith}
use lib.Dec.{leb}
use lib.Ieee.{Float}
use lib.ListN.{length, get_or}
use Rattle.std.specs.Prelude.{Some, None}
use Rattle.std.specs.Option.{option_copied}
use Rattle.std.specs.declared.option.Option.{Option}
use Rattle.refusal.specs.Outcome.{Outcome, answers, refuses, too_many, too_few_corners}
use Rattle.refusal.proofs.Laws.Judged.{also_answered, require_answered}
use Rattle.refusal.proofs.Laws.Outcome.{never, no_refusal}
use Rattle.point.specs.declared.Point.{Point}
use Rattle.point.specs.Accepted.{Accepted}
use Rattle.geometry.specs.Zone.{fewest, most, Zoned, points_of, corner_at}
use Rattle.geometry.proofs.Laws.Corners.{corners_count, corners_entry}
use Rattle.track.specs.File.{limit}
use Rattle.track.proofs.Laws.Points.{read_points}
use Rattle.report.specs.Zone.{file_holds, zone_file_of}
use Rattle.report.proofs.Laws.Zone.{zone_file_zoned}
use Rattle.report.proofs.Laws.Codes.{accepted_at}
use Rattle.serve.specs.Text.{header_text}
use Rattle.serve.specs.Printed.{printed, is_answer, is_good}
use Rattle.serve.specs.Reasons.{reason_line, reason_lines, explained_as, explained, explained_of}
use Rattle.serve.specs.Parts.{points_found, Explains}
use Rattle.serve.specs.declared.files.TwoFiles.{TwoFiles}

-- ---- no places
-- of a zone that is not good, the desk's text
pub no_zone : (zone file : Option (List ℕ)) → is_good zone ≡ false → explained zone file ≡ printed zone file ∷ []
unfolding explained is_good
no_zone None file e = refl
no_zone (Some zone) None e = refl
no_zone (Some zone) (Some file) e = go (zone_file_of zone) (printed (Some zone) (Some file)) e
  where
    go : (o : Outcome (List Float)) (text : List ℕ) → is_answer o ≡ false → explained_as o (file_holds file) text ≡ text ∷ []
    go (answers corners) text e = never (cc)
    go (refuses number place) text e = refl

-- and of releases that can not be read or are refused
pub no_releases : (zone file : Option (List ℕ)) → is_answer (points_found file) ≡ false → explained zone file ≡ printed zone file ∷ []
unfolding explained
no_releases None file e = refl
no_releases (Some zone) None e = refl
no_releases (Some zone) (Some file) e = go (zone_file_of zone) (file_holds file) (printed (Some zone) (Some file)) e
  where
    go : (o points : Outcome (List Float)) (text : List ℕ) → is_answer points ≡ false → explained_as o points text ≡ text ∷ []
    go (answers corners) (answers points) text e = never (cc)
    go (answers corners) (refuses number place) text e = refl
    go (refuses number place) points text e = refl

-- a zone whose corners can not be had is not good
corners_of_file : (zone : List ℕ) (corners : List Float) → zone_file_of zone ≡ answers corners → file_holds zone ≡ answers corners
unfolding zone_file_of
corners_of_file zone corners e =
    let a = also_answered (file_holds zone) _ e in
    let xs = a.0 in
    let some = require_answered (leb fewest (length xs / 2)) too_few_corners 0 _ a.2 in
    let few = require_answered (leb (length xs / 2) most) too_many 0 _ some.1 in
    a.1 ∙ few.1

pub no_corners : (zone file : Option (List ℕ)) → is_answer (points_found zone) ≡ false → explained zone file ≡ printed zone file ∷ []
unfolding is_good
no_corners zone file e = no_zone zone file (bad zone e)
  where
    by : (zone : List ℕ) (o : Outcome (List Float)) → zone_file_of zone ≡ o → is_answer (file_holds zone) ≡ false → is_answer o ≡ false
    by zone (refuses number place) is e = refl
    by zone (answers corners) is e = sym (ap is_answer (corners_of_file zone corners is)) ∙ e

    bad : (zone : Option (List ℕ)) → is_answer (points_found zone) ≡ false → is_good zone ≡ false
    bad None e = refl
    bad (Some zone) e = by zone (zone_file_of zone) refl e

-- ---- the header and the lines
lines_count : (release : ℕ) (corners : List Float) (ps : List Point) → length (reason_lines release corners ps) ≡ length ps
unfolding reason_lines
lines_count release corners [] = refl
lines_count release corners (p ∷ ps) = ap suc (lines_count (suc release) corners ps)

lines_entry : (release : ℕ) (corners : List Float) (ps : List Point) (i : ℕ) (other : Point) → i < length ps
    → get_or (reason_lines release corners ps) i [] ≡ reason_line (i + release) corners (get_or ps i other)
unfolding reason_lines
lines_entry release corners [] i other h = let z : ⊥ = omega arith in absurd z
lines_entry release corners (p ∷ ps) zero other h = let same : release ≡ 0 + release = omega arith in ap (λ (k : ℕ). reason_line k corners p) same
lines_entry release corners (p ∷ ps) (suc i) other h =
    let later : i + suc release ≡ suc i + release = omega arith in
    lines_entry (suc release) corners ps i other (omega arith) ∙ ap (λ (k : ℕ). reason_line k corners (get_or ps i other)) later

-- of good files
pub good_explained : (zone file : List ℕ) (corners points : List Float) → zone_file_of zone ≡ answers corners → file_holds file ≡ answers points
    → explained (Some zone) (Some file) ≡ header_text (length points / 2) ∷ reason_lines 1 corners (points_of points)
unfolding explained
good_explained zone file corners points z f =
    ap₂ (λ (o q : Outcome (List Float)). explained_as o q (printed (Some zone) (Some file))) z f

-- one piece for the header, and one for each release
pub pieces_count : (zone file : List ℕ) (corners points : List Float) → zone_file_of zone ≡ answers corners → file_holds file ≡ answers points
    → length (explained (Some zone) (Some file)) ≡ suc (length points / 2)
pieces_count zone file corners points z f =
    ap (length {A = List ℕ}) (good_explained zone file corners points z f)
    ∙ ap suc (lines_count 1 corners (points_of points) ∙ corners_count points)

-- ---- the corners and the releases that were found
-- a good zone has the corners of its file
good_corners : (zone : List ℕ) (corners : List Float) → is_good (Some zone) ≡ true → file_holds zone ≡ answers corners
    → zone_file_of zone ≡ answers corners
unfolding is_good
good_corners zone corners good e = go (zone_file_of zone) refl good
  where
    go : (o : Outcome (List Float)) → zone_file_of zone ≡ o → is_answer o ≡ true → o ≡ answers corners
    go (refuses number place) is g = never (cc)
    go (answers xs) is g = sym (corners_of_file zone xs is) ∙ e

record Good (zone file : Option (List ℕ)) (corners points : List Float) : Type 0 where
  zone_bytes : List ℕ
  file_bytes : List ℕ
  zone_is : zone ≡ Some zone_bytes
  file_is : file ≡ Some file_bytes
  zone_good : zone_file_of zone_bytes ≡ answers corners
  file_good : file_holds file_bytes ≡ answers points

good : (zone file : Option (List ℕ)) (corners points : List Float) → is_good zone ≡ true → points_found zone ≡ answers corners
    → points_found file ≡ answers points → Good zone file corners points
good None file corners points g z f = no_refusal z
good (Some zone) None corners points g z f = no_refusal f
good (Some zone) (Some file) corners points g z f = record {
  zone_bytes = zone;
  file_bytes = file;
  zone_is = refl;
  file_is = refl;
  zone_good = good_corners zone corners g z;
  file_good = f;
}

module _ (files : TwoFiles) (corners points : List Float) (x : Explains files corners points) where
  found : Good (option_copied files.zone) (option_copied files.releases) corners points
  found = good (option_copied files.zone) (option_copied files.releases) corners points x.good x.corners_held x.points_held

  all_pieces : explained_of files ≡ header_text (length points / 2) ∷ reason_lines 1 corners (points_of points)
  all_pieces =
      ap₂ explained found.zone_is found.file_is ∙ good_explained found.zone_bytes found.file_bytes corners points found.zone_good found.file_good

  pub explained_zoned : Zoned corners (length corners / 2)
  explained_zoned = zone_file_zoned found.zone_bytes corners found.zone_good

  pub explained_accepted : (i : ℕ) → i < length points / 2 → Accepted (corner_at points i)
  explained_accepted i h = accepted_at points i (read_points limit found.file_bytes (2 * limit) points found.file_good).good h

  pub explained_header : header_text (length points / 2) ≡ get_or (explained_of files) 0 []
  explained_header = sym (ap (λ (l : List (List ℕ)). get_or l 0 []) all_pieces)

  pub explained_line : (i : ℕ) → i < length points / 2 → reason_line (i + 1) corners (corner_at points i) ≡ get_or (explained_of files) (i + 1) []
  explained_line i h =
      let within : i < length (points_of points) = omega (arith, corners_count points) in
      sym (ap (λ (l : List (List ℕ)). get_or l (i + 1) []) all_pieces
      ∙ ap (λ (k : ℕ). get_or (header_text (length points / 2) ∷ reason_lines 1 corners (points_of points)) k []) (add-one i)
      ∙ lines_entry 1 corners (points_of points) i (corner_at points i) within
      ∙ ap (reason_line (i + 1) corners) (corners_entry points i (corner_at points i) h))
