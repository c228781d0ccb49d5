-- The desk's whole output, from what could be read of its two files: Desk 2 to 6 of docs/RULES.md. That these are the bytes which the system
-- gave, and that the text is what it was handed, no contract can say (docs/GAPS.md).
use Rattle.std.specs.Prelude.{ℕ, Bool, true, false, List, take, Float, None, Some}
use Rattle.std.specs.Option.{option_copied}
use Rattle.std.specs.declared.option.Option.{Option}
use Rattle.refusal.specs.Outcome.{Outcome, answers, refuses}
use Rattle.track.specs.File.{limit}
use Rattle.report.specs.Zone.{zone_file_of}
use Rattle.report.specs.Report.{refused_zone, of_releases, releases_of}
use Rattle.serve.specs.Text.{ascii, text_of}
use Rattle.serve.specs.declared.files.TwoFiles.{TwoFiles}

-- Of a file there is what could be read: some bytes, or none at all where it can not be opened or reading it failed. By the buffer that it was
-- read into, and how many bytes of it were read:
abbrev pub found : Option ℕ → List ℕ → Option (List ℕ)
found (Some n) buffer = Some (take n buffer)
found None buffer = None

-- Desk 4 to 6: of the releases in a good zone
abbrev pub releases_printed : Option (List ℕ) → List Float → List ℕ
releases_printed None corners = ascii "unreadable releases\n"
releases_printed (Some file) corners = text_of (of_releases (releases_of corners file limit))

-- Desk 2 and 3: the zone is judged first, and a refused one is told whatever the releases are
abbrev pub zone_printed : Outcome (List Float) → Option (List ℕ) → List ℕ
zone_printed (answers corners) releases = releases_printed releases corners
zone_printed (refuses number place) releases = text_of (refused_zone number place)

-- Desk 2 to 6: all that is printed, for what was found of the zone's file and of the releases'
unfoldable pub printed : Option (List ℕ) → Option (List ℕ) → List ℕ
unfolding zone_file_of releases_of text_of
printed None releases = ascii "unreadable zone\n"
printed (Some zone) releases = zone_printed (zone_file_of zone) releases

-- as the program has them
abbrev pub printed_of : TwoFiles → List ℕ
printed_of files = printed (option_copied files.zone) (option_copied files.releases)

abbrev pub is_answer : {A : Type 0} → Outcome A → Bool
is_answer (answers a) = true
is_answer (refuses number place) = false

-- Desk 2: the release file is opened only where the zone is good
unfoldable pub is_good : Option (List ℕ) → Bool
unfolding zone_file_of
is_good None = false
is_good (Some zone) = is_answer (zone_file_of zone)
