-- What the functions that read the points of a file, and that put the text together, promise: believed by no reader.
use Rattle.std.specs.Prelude.{ℕ, ◌/◌, ◌%◌, ◌≤◌, ◌≡◌, true, false, cond, List, ◌++◌, eqb, Float, length, None, Some}
use Rattle.std.specs.Option.{option_copied}
use Rattle.std.specs.declared.option.Option.{Option}
use Rattle.refusal.specs.Outcome.{Outcome, answers, refuses}
use Rattle.ground.specs.Reason.{Entry, entry, up, down}
use Rattle.report.specs.Zone.{file_holds}
use Rattle.serve.specs.Printed.{is_answer, is_good}
use Rattle.serve.specs.declared.files.TwoFiles.{TwoFiles}

-- the room that a text has: TEXT of src/text.rt
abbrev pub text_room : ℕ
text_room = 16384

-- a text of at most `room` bytes is put behind what stood before
pub record Puts (room : ℕ) (before text after : List ℕ) : Type 0 where
  pub few : length text ≤ room
  pub stands : after ≡ before ++ text

-- an edge that counts, by its byte: `code` of Rattle.reason, taken back
abbrev pub entry_of : ℕ → Entry
entry_of byte = entry (byte / 2) (cond (eqb (byte % 2) 0) up down)

-- the points of what was found of a file; one that can not be read has none, as a refused one
abbrev pub points_found : Option (List ℕ) → Outcome (List Float)
points_found (Some file) = file_holds file
points_found None = refuses 0 0

-- these are they, or there are none
abbrev pub ListedSays : Option (List ℕ) → Option (List Float) → Type 0
ListedSays file (Some points) = points_found file ≡ answers points
ListedSays file None = is_answer (points_found file) ≡ false

-- these are the corners and the releases of what was found, and the zone is good
pub record Explains (files : TwoFiles) (corners points : List Float) : Type 0 where
  pub good : is_good (option_copied files.zone) ≡ true
  pub corners_held : points_found (option_copied files.zone) ≡ answers corners
  pub points_held : points_found (option_copied files.releases) ≡ answers points
