-- Why each release has its place, in words for the telephone: Reason 8 of docs/RULES.md. In order: an edge that counts; the total; a reason; the
-- pieces that are printed one after the other.
use Rattle.std.specs.Prelude.{ℕ, suc, ◌/◌, true, false, List, [], ◌∷◌, ◌++◌, ℤ, pos, negsuc, length, Float, None, Some}
use Rattle.std.specs.Option.{option_copied}
use Rattle.std.specs.declared.option.Option.{Option}
use Rattle.refusal.specs.Outcome.{Outcome, answers, refuses}
use Rattle.ground.specs.Reason.{Turn, up, down, Entry, Reason, on_border, is_inside, is_outside}
use Rattle.point.specs.declared.Point.{Point}
use Rattle.geometry.specs.Zone.{points_of}
use Rattle.reason.specs.Why.{reason_in}
use Rattle.report.specs.Zone.{file_holds, zone_file_of}
use Rattle.serve.specs.Text.{ascii, decimal, header_text}
use Rattle.serve.specs.Printed.{printed}
use Rattle.serve.specs.declared.files.TwoFiles.{TwoFiles}

-- Reason 8: an edge that counts, and its turn
abbrev pub turn_text : Turn → List ℕ
turn_text up = ascii " up, "
turn_text down = ascii " down, "

abbrev pub entry_text : Entry → List ℕ
entry_text x = ascii "edge " ++ decimal x.edge ++ turn_text x.turn

-- all of them, in order
unfoldable pub entries_text : List Entry → List ℕ
unfolding decimal
entries_text [] = []
entries_text (x ∷ xs) = entry_text x ++ entries_text xs

-- Reason 8: the words where none counts
abbrev pub list_text : List Entry → List ℕ
list_text [] = ascii "no edge counts, "
list_text (x ∷ xs) = entries_text (x ∷ xs)

-- Reason 8: a total, with a minus sign where it is below 0
abbrev pub total_text : ℤ → List ℕ
total_text (pos n) = decimal n
total_text (negsuc n) = ascii "-" ++ decimal (suc n)

abbrev pub counted_text : ℤ → List Entry → List ℕ
counted_text total xs = list_text xs ++ ascii "total " ++ total_text total ++ ascii "\n"

-- Reason 8: a reason, after the release's number
unfoldable pub reason_text : Reason (List Entry) → List ℕ
unfolding decimal entries_text
reason_text (on_border k true) = ascii " border: edge " ++ decimal k ++ ascii ", at one of its corners\n"
reason_text (on_border k false) = ascii " border: edge " ++ decimal k ++ ascii ", between its corners\n"
reason_text (is_inside total xs) = ascii " inside: " ++ counted_text total xs
reason_text (is_outside total xs) = ascii " outside: " ++ counted_text total xs

-- the line of a release: its number, and the reason of its place
unfoldable pub reason_line : ℕ → List Float → Point → List ℕ
unfolding decimal reason_in reason_text
reason_line release corners p = decimal release ++ reason_text (reason_in corners p)

-- the lines of releases that are counted on from a number
unfoldable pub reason_lines : ℕ → List Float → List Point → List (List ℕ)
unfolding reason_line
reason_lines release corners [] = []
reason_lines release corners (p ∷ ps) = reason_line release corners p ∷ reason_lines (suc release) corners ps

-- Reason 8: of a good zone and a good release file, the desk's header and a line for each release
abbrev pub explained_as : Outcome (List Float) → Outcome (List Float) → List ℕ → List (List ℕ)
explained_as (answers corners) (answers points) other = header_text (length points / 2) ∷ reason_lines 1 corners (points_of points)
explained_as (answers corners) (refuses number place) other = other ∷ []
explained_as (refuses number place) points other = other ∷ []

-- Reason 8: all that is printed, piece by piece, for what was found of the two files; otherwise the desk's own text
unfoldable pub explained : Option (List ℕ) → Option (List ℕ) → List (List ℕ)
unfolding zone_file_of reason_lines printed
explained (Some zone) (Some file) = explained_as (zone_file_of zone) (file_holds file) (printed (Some zone) (Some file))
explained (Some zone) None = printed (Some zone) None ∷ []
explained None releases = printed None releases ∷ []

-- as the program has them
abbrev pub explained_of : TwoFiles → List (List ℕ)
explained_of files = explained (option_copied files.zone) (option_copied files.releases)
