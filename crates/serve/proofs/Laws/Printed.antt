-- What is printed. In order: texts that are computed, that of Desk 8 and one of each refusal; a zone that is good, and one that is not, by what the
-- judge answers; what is printed where a file can not be read, or the report of both files; a release file that is not opened alters nothing. Assumes
-- nothing.
use Prim.Native.Nat.{ℕ}
use mathlib.Core.Path.{◌≡◌, refl, sym, ap, subst}
use mathlib.Core.Bool.{Bool, false}
use mathlib.Core.List.{List, [], ◌∷◌}
use native.Mathlib.Omega.{arith}
use lib.Ieee.{Float}
use Rattle.std.specs.Prelude.{Some, None, MatchOption, Result, Ok, Err, is_ok}
use Rattle.std.specs.Borrow.{Bor}
use Rattle.std.specs.Option.{option_copied}
use Rattle.std.specs.declared.option.Option.{Option}
use Rattle.refusal.specs.declared.Refusal.{Refusal}
use Rattle.refusal.specs.Outcome.{Outcome, answers, refuses, kind_number}
use Rattle.refusal.proofs.Laws.Judged.{also_answered}
use Rattle.refusal.proofs.Laws.Outcome.{no_refusal}
use Rattle.track.specs.File.{limit}
use Rattle.track.specs.Read.{points_said}
use Rattle.report.specs.Zone.{zone_file_of, judged_said, JudgeSays}
use Rattle.report.specs.Report.{releases, refused_zone, refused_releases, after_zone, releases_of, report_of}
use Rattle.report.proofs.Laws.Zone.{points_refused}
use Rattle.serve.specs.Text.{ascii, decimal_within, decimal, lines_from, refusal_text, text_of}
use Rattle.serve.specs.Printed.{zone_printed, printed, is_answer, is_good}

-- ---- texts
-- of one release inside, one on the border and one outside
pub text_example : text_of (releases (2 ∷ 1 ∷ 0 ∷ [])) ≡ ascii "releases 3\n1 inside\n2 border\n3 outside\n"
unfolding decimal_within decimal lines_from text_of
text_example = refl

pub text_none : text_of (releases []) ≡ ascii "releases 0\n"
unfolding decimal_within decimal lines_from text_of
text_none = refl

pub zone_example : text_of (refused_zone 4 0) ≡ ascii "refused zone 4 0\n"
unfolding decimal_within decimal text_of
zone_example = refl

pub releases_example : text_of (refused_releases 8 10240) ≡ ascii "refused releases 8 10240\n"
unfolding decimal_within decimal text_of
releases_example = refl

-- ---- a zone's file, by what the judge answers
module _ (zone : List ℕ) (r : Result ℕ Refusal) (says : JudgeSays zone r) (n : ℕ) (e : r ≡ Ok n) where
  corners_of_lem : (corners : List Float) × (zone_file_of zone ≡ answers corners)
  corners_of_lem = let a = also_answered (zone_file_of zone) _ (sym (subst (JudgeSays zone) e says)) in (a.0, a.1)

  -- whose releases can not be read
  pub corners_printed : ascii "unreadable releases\n" ≡ printed (Some zone) None
  unfolding printed
  corners_printed = sym (ap (λ (o : Outcome (List Float)). zone_printed o None) corners_of_lem.1)

module _ (zone : List ℕ) (r : Result ℕ Refusal) (says : JudgeSays zone r) (q : Refusal) (e : r ≡ Err q) where
  refusal_of : zone_file_of zone ≡ refuses (kind_number q.kind) q.place
  refusal_of = points_refused (zone_file_of zone) (kind_number q.kind) q.place (subst (JudgeSays zone) e says)

  -- whatever the releases are
  pub refused_printed : (file : Option (List ℕ)) → refusal_text (ascii "refused zone ") (kind_number q.kind) q.place ≡ printed (Some zone) file
  unfolding printed text_of
  refused_printed file = sym (ap (λ (o : Outcome (List Float)). zone_printed o file) refusal_of)

-- it is good where the judge answers
pub judge_good : (zone : List ℕ) (r : Result ℕ Refusal) → JudgeSays zone r → is_ok r ≡ is_good (Some zone)
unfolding is_good
judge_good zone r says = go (zone_file_of zone) r says
  where
    go : (o : Outcome (List Float)) (r : Result ℕ Refusal) → judged_said r ≡ points_said o → is_ok r ≡ is_answer o
    go (answers corners) (Ok n) e = refl
    go (answers corners) (Err q) e = no_refusal e
    go (refuses number place) (Ok n) e = no_refusal (sym e)
    go (refuses number place) (Err q) e = refl

-- one that could be read is as its file
pub good_as : (zone : Option (Bor (List ℕ))) (r : Bool) → MatchOption zone (r ≡ false) (λ z. r ≡ is_good (Some z.now))
    → r ≡ is_good (option_copied zone)
unfolding is_good
good_as None r h = h
good_as (Some z) r h = h

-- ---- what is printed

pub zone_unreadable : (file : Option (List ℕ)) → ascii "unreadable zone\n" ≡ printed None file
unfolding printed
zone_unreadable file = refl

-- of two files that could be read: what the report of both says
pub report_printed : (zone file : List ℕ) → text_of (report_of zone file limit) ≡ printed (Some zone) (Some file)
unfolding printed report_of
report_printed zone file = go (zone_file_of zone)
  where
    go : (o : Outcome (List Float)) → text_of (after_zone o (λ corners. releases_of corners file limit)) ≡ zone_printed o (Some file)
    go (answers corners) = refl
    go (refuses number place) = refl

-- a release file is opened only where what is printed can depend on it
pub unopened_alters_nothing : (zone : Option (List ℕ)) → is_good zone ≡ false → (a b : Option (List ℕ)) → printed zone a ≡ printed zone b
unfolding printed is_good
unopened_alters_nothing None e a b = refl
unopened_alters_nothing (Some zone) e a b = go (zone_file_of zone) e
  where
    go : (o : Outcome (List Float)) → is_answer o ≡ false → zone_printed o a ≡ zone_printed o b
    go (answers corners) e = absurd (let z : ◌≡◌ {A = ℕ} 0 1 = cc in omega arith)
    go (refuses number place) e = refl
