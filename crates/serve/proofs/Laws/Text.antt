-- A text that is put together. In order: one text after another; the lines of releases, one by one; what a report that was told is. Assumes
-- nothing.
use Prim.Native.Nat.{ℕ, suc, ◌+◌, ◌*◌, ◌≤◌, ◌<◌}
use mathlib.Core.Path.{◌≡◌, sym, ap, ap₂, ◌∙◌, subst}
use mathlib.Core.List.{List, [], ◌++◌, append_assoc, append-nil}
use native.Mathlib.Numerals.{add-one}
use native.Mathlib.Omega.{arith}
use lib.ListN.{length, drop, get_or, length-append, drop_of_length-le}
use lib.Seq.{drop-cons}
use Rattle.std.specs.Prelude.{Result, Err}
use Rattle.refusal.specs.declared.Refusal.{Refusal}
use Rattle.refusal.specs.Outcome.{kind_number}
use Rattle.refusal.proofs.Laws.Outcome.{never}
use Rattle.report.specs.declared.answer.ReportRefusal.{ReportRefusal}
use Rattle.report.specs.declared.answer.ReportRefusal.TheVariants.{Zone as RefusedZone, Releases as RefusedReleases}
use Rattle.report.specs.Report.{Told, releases, refused_zone, refused_releases, report_of, Tells, ReportSays}
use Rattle.serve.specs.Text.{ascii, line_text, lines_from, header_text, refusal_text, text_of}
use Rattle.serve.specs.Parts.{Puts}

-- ---- one text after another
pub puts_as : {a : ℕ} {before text after : List ℕ} (b : ℕ) (other : List ℕ) → Puts a before text after → a ≤ b → text ≡ other
    → Puts b before other after
puts_as {before = before} b other p h e = record {
  few = omega (arith, p.few, ap length e);
  stands = p.stands ∙ ap (λ (l : List ℕ). before ++ l) e;
}

module _ {a b : ℕ} {before text middle more after : List ℕ} where
  pub puts_then : Puts a before text middle → Puts b middle more after → Puts (a + b) before (text ++ more) after
  puts_then p q = record {
    few = omega (arith, p.few, q.few, length-append text more);
    stands = q.stands ∙ ap (λ (l : List ℕ). l ++ more) p.stands ∙ append_assoc before text more;
  }

-- ---- the lines of releases
-- the header and i of them stand
pub record Writing (codes out : List ℕ) (i : ℕ) : Type 0 where
  pub short : length out ≤ 30 + 29 * i
  pub all : out ++ lines_from (i + 1) (drop i codes) ≡ text_of (releases codes)

pub writing_start : (codes out : List ℕ) → Puts 30 [] (header_text (length codes)) out → Writing codes out 0
unfolding text_of
writing_start codes out p = record {
  short = omega (arith, p.few, ap length p.stands);
  all = ap (λ (l : List ℕ). l ++ lines_from 1 codes) p.stands;
}

module _ (codes out : List ℕ) (i : ℕ) (w : Writing codes out i) where
  pub writing_turn : i < length codes → (after : List ℕ) → Puts 29 out (line_text (i + 1) (get_or codes i 0)) after → Writing codes after (i + 1)
  unfolding lines_from
  writing_turn l after p =
      let line = line_text (i + 1) (get_or codes i 0) in
      let later = lines_from (suc (i + 1)) (drop (suc i) codes) in
      record {
        short = omega (arith, p.few, w.short, ap length p.stands, length-append out line);
        all = ap₂ (λ (k j : ℕ). after ++ lines_from k (drop j codes)) (add-one (i + 1)) (add-one i)
            ∙ ap (λ (l : List ℕ). l ++ later) p.stands
            ∙ append_assoc out line later
            ∙ ap (λ (l : List ℕ). out ++ lines_from (i + 1) l) (sym (drop-cons codes i 0 l))
            ∙ w.all;
      }

  pub writing_done : length codes ≤ i → out ≡ text_of (releases codes)
  unfolding lines_from
  writing_done l =
      sym (append-nil out) ∙ ap (λ (l : List ℕ). out ++ lines_from (i + 1) l) (sym (drop_of_length-le codes l)) ∙ w.all

-- ---- a report that was told
module _ (lent left : List ℕ) where
  pub told_zone : (told : Told (List ℕ)) (r : Refusal) → Tells told lent (Err (RefusedZone r)) left
      → told ≡ refused_zone (kind_number r.kind) r.place
  told_zone (releases codes) r t = never (cc t.answer)
  told_zone (refused_zone number place) r t = ap₂ refused_zone (cc t.answer) (cc t.answer)
  told_zone (refused_releases number place) r t = never (cc t.answer)

  pub told_unread : (told : Told (List ℕ)) (r : Refusal) → Tells told lent (Err (RefusedReleases r)) left
      → told ≡ refused_releases (kind_number r.kind) r.place
  told_unread (releases codes) r t = never (cc t.answer)
  told_unread (refused_zone number place) r t = never (cc t.answer)
  told_unread (refused_releases number place) r t = ap₂ refused_releases (cc t.answer) (cc t.answer)

-- with 512 lent bytes, by how the answer was taken apart
module _ (zone bytes lent left : List ℕ) (r : Result ℕ ReportRefusal) (room : length lent ≡ 512) (says : ReportSays zone bytes lent r left) where
  tells : (q : Result ℕ ReportRefusal) → r ≡ q → Tells (report_of zone bytes 512) lent q left
  tells q e =
      subst (λ (t : Result ℕ ReportRefusal). Tells (report_of zone bytes 512) lent t left) e
      (subst (λ (k : ℕ). Tells (report_of zone bytes k) lent r left) room says)

  pub report_refused_zone : (q : Refusal) → r ≡ Err (RefusedZone q)
      → refusal_text (ascii "refused zone ") (kind_number q.kind) q.place ≡ text_of (report_of zone bytes 512)
  unfolding text_of
  report_refused_zone q e = sym (ap text_of (told_zone lent left (report_of zone bytes 512) q (tells (Err (RefusedZone q)) e)))

  pub report_refused_releases : (q : Refusal) → r ≡ Err (RefusedReleases q)
      → refusal_text (ascii "refused releases ") (kind_number q.kind) q.place ≡ text_of (report_of zone bytes 512)
  unfolding text_of
  report_refused_releases q e = sym (ap text_of (told_unread lent left (report_of zone bytes 512) q (tells (Err (RefusedReleases q)) e)))
