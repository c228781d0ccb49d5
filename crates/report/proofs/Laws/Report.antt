-- The report of the releases. In order: what is told of the releases in a judged zone, and of both files, for the functions that tell it;
-- the zone's refusal comes first, whatever the release file holds; what the codes are; which refusals there are; the first 10,243 bytes are
-- enough; no two results satisfy the promise. Not here: the zone by itself (`Zone`), the two calls together (`Calls`). Assumes nothing.
use Rattle.std.specs.Prelude.{Err, Ok, Result}
use Prim.Native.Nat.{ℕ, ◌+◌, ◌*◌, ◌/◌, ◌≤◌, ◌<◌}
use mathlib.Core.Path.{◌≡◌, refl, sym, ap, ap₂, ◌∙◌, subst}
use mathlib.Core.Bool.{true}
use mathlib.Core.List.{List, ◌++◌}
use native.Mathlib.Omega.{arith}
use borrow.Author.Tests.{le-leb, lt-leb, leb-true}
use lib.Dec.{T, leb}
use lib.ListN.{length, take, drop, get_or}
use lib.Ieee.{Float}
use Rattle.refusal.specs.declared.Kind.TheVariants.{NoRoom}
use Rattle.refusal.specs.declared.Refusal.{Refusal}
use Rattle.refusal.specs.Outcome.{Outcome, answers, refuses, Fixes, no_room, kind_number}
use Rattle.refusal.proofs.Laws.Outcome.{refusal_once, never}
use Rattle.geometry.specs.Zone.{points_of, place_in, corner_at, zone_of}
use Rattle.ground.specs.Zone.{Lies, place_number}
use Rattle.geometry.proofs.Laws.Answered.{zoned_answers}
use Rattle.number.specs.Number.{Bytes}
use Rattle.track.specs.File.{limit, most_bytes}
use Rattle.refusal.proofs.Laws.Judged.{also_answers, also_refuses, require_holds, require_fails, also_answered, require_answered}
use Rattle.track.proofs.Laws.Refusals.{Only, only_answers, only_also, only_require_held, is_readers, read_only}
use Rattle.track.proofs.Laws.Points.{PointList, read_points, Held}
use Rattle.report.specs.declared.answer.ReportRefusal.TheVariants.{Zone as RefusedZone, Releases as RefusedReleases}
use Rattle.report.specs.declared.answer.ReportRefusal.{ReportRefusal}
use Rattle.report.specs.Zone.{file_holds, zone_file_of}
use Rattle.report.specs.Parts.{JudgedHeld}
use Rattle.report.specs.Report.{codes_of, releases_of, Told, releases, refused_zone, refused_releases, of_releases, report_of}
use Rattle.report.specs.Report.{number_said, lent_after, report_said, Tells, ReportSays}
use Rattle.report.specs.Parts.{CodedSays}
use Rattle.report.proofs.Laws.Zone.{refuses_same, zone_file_zoned, is_zones}
use Rattle.report.proofs.Laws.Zone.{zone_file_only, file_enough, zone_file_enough}
use Rattle.report.proofs.Laws.Codes.{number_most, code_zone, codes_length, codes_at, accepted_at}

-- ---- what is told of the releases
-- a call of an outcome that is known
module _ (told : Told (List ℕ)) (lent : List ℕ) where
  tells_refused : (r : Refusal) → told ≡ refused_releases (kind_number r.kind) r.place → Tells told lent (Err (RefusedReleases r)) lent
  tells_refused r e = record {
    answer = sym (ap number_said e);
    bytes = sym (ap (λ (t : Told (List ℕ)). lent_after t lent) e);
  }

  tells_codes : (codes left : List ℕ) (n : ℕ) → told ≡ releases codes → length codes ≡ n → left ≡ codes ++ drop n lent
      → Tells told lent (Ok n) left
  tells_codes codes left n e size l = record {
    answer = ap releases (sym size) ∙ sym (ap number_said e);
    bytes = l ∙ ap (λ (k : ℕ). codes ++ drop k lent) (sym size) ∙ sym (ap (λ (t : Told (List ℕ)). lent_after t lent) e);
  }

abbrev told_of : List Float → List ℕ → List ℕ → Told (List ℕ)
told_of corners bytes lent = of_releases (releases_of corners bytes (length lent))

module _ (corners : List Float) (bytes lent : List ℕ) where
  pub told_unread : (r : Refusal) → file_holds bytes ≡ refuses (kind_number r.kind) r.place
      → CodedSays corners bytes lent (Err (RefusedReleases r)) lent
  unfolding releases_of
  told_unread r e = tells_refused (told_of corners bytes lent) lent r (ap of_releases (also_refuses _ e))

  module _ (left : List Float) (n : ℕ) (h : Held bytes (2 * limit) n left) where
    half : length (take (2 * n) left) / 2 ≡ n
    half = omega (arith, h.many)

    pub told_short : length lent < n
        → CodedSays corners bytes lent (Err (RefusedReleases (record { kind = NoRoom; place = 0 }))) lent
    unfolding releases_of
    told_short l =
        let short : length lent < length (take (2 * n) left) / 2 = omega (arith, half) in
        tells_refused (told_of corners bytes lent) lent _
        (ap of_releases (also_answers _ h.read ∙ require_fails no_room 0 _ (lt-leb _ _ short)))

    pub told_codes : n ≤ length lent → (codes : List ℕ)
        → codes ≡ codes_of corners (points_of (take (2 * n) left)) → CodedSays corners bytes lent (Ok n) (codes ++ drop n lent)
    unfolding releases_of
    told_codes l codes e =
        let points = take (2 * n) left in
        let enough : length points / 2 ≤ length lent = omega (arith, half) in
        tells_codes (told_of corners bytes lent) lent (codes_of corners (points_of points)) (codes ++ drop n lent) n
        (ap of_releases (also_answers _ h.read ∙ require_holds no_room 0 _ (le-leb _ _ enough)))
        (codes_length corners points ∙ half)
        (ap (λ (z : List ℕ). z ++ drop n lent) e)

-- ---- what is told of both files
-- The zone is judged first: its refusal is told whatever the release file and the room are.
pub report_zone_first : (zone bytes : List ℕ) (room number place : ℕ) → zone_file_of zone ≡ refuses number place
    → report_of zone bytes room ≡ refused_zone number place
unfolding report_of
report_zone_first zone bytes room number place e = rw e

pub report_judged : (zone bytes : List ℕ) (room : ℕ) (corners : List Float) → zone_file_of zone ≡ answers corners
    → report_of zone bytes room ≡ of_releases (releases_of corners bytes room)
unfolding report_of
report_judged zone bytes room corners e = rw e

module _ (zone bytes lent : List ℕ) (list : List Float) where
  pub says_refused : (r : Refusal) → JudgedHeld zone (Err r) list → ReportSays zone bytes lent (Err (RefusedZone r)) lent
  says_refused r h =
      let e = report_zone_first zone bytes (length lent) (kind_number r.kind) r.place (sym h.corners) in
      record { answer = sym (ap number_said e); bytes = sym (ap (λ (t : Told (List ℕ)). lent_after t lent) e) }

  pub says_told : (n : ℕ) → JudgedHeld zone (Ok n) list → (r : Result ℕ ReportRefusal) (left : List ℕ)
      → CodedSays (take (2 * n) list) bytes lent r left → ReportSays zone bytes lent r left
  says_told n h r left t =
      let e = report_judged zone bytes (length lent) (take (2 * n) list) (sym h.corners) in
      subst (λ (told : Told (List ℕ)). Tells told lent r left) (sym e) t

-- and no other is told as the zone's
releases_not_zone : (o : Outcome (List ℕ)) (number place : ℕ) → of_releases o ≡ refused_zone number place → ⊥
releases_not_zone (answers codes) number place e = never (cc)
releases_not_zone (refuses n p) number place e = never (cc)

pub report_zone_refused : (zone bytes : List ℕ) (room number place : ℕ) → report_of zone bytes room ≡ refused_zone number place
    → zone_file_of zone ≡ refuses number place
report_zone_refused zone bytes room number place e = go (zone_file_of zone) refl
  where
    go : (o : Outcome (List Float)) → zone_file_of zone ≡ o → o ≡ refuses number place
    go (answers corners) z =
        absurd (releases_not_zone (releases_of corners bytes room) number place (sym (report_judged zone bytes room corners z) ∙ e))
    go (refuses n p) z =
        let both = sym (report_zone_first zone bytes room n p z) ∙ e in
        let same : n ≡ number = cc in
        let there : p ≡ place = cc in
        refuses_same same there

-- what is told of the releases alone
releases_answered : (o : Outcome (List ℕ)) (codes : List ℕ) → of_releases o ≡ releases codes → o ≡ answers codes
releases_answered (answers list) codes e = let same : list ≡ codes = cc in ap answers same
releases_answered (refuses n p) codes e = never (cc)

releases_refused : (o : Outcome (List ℕ)) (number place : ℕ) → of_releases o ≡ refused_releases number place → o ≡ refuses number place
releases_refused (answers list) number place e = never (cc)
releases_refused (refuses n p) number place e =
    let same : n ≡ number = cc in
    let there : p ≡ place = cc in
    refuses_same same there

-- where the zone is not refused
report_zone : (zone bytes : List ℕ) (room : ℕ) → ((number place : ℕ) → report_of zone bytes room ≡ refused_zone number place → ⊥)
    → (corners : List Float) × (zone_file_of zone ≡ answers corners)
report_zone zone bytes room never = go (zone_file_of zone) refl
  where
    go : (o : Outcome (List Float)) → zone_file_of zone ≡ o → (corners : List Float) × (zone_file_of zone ≡ answers corners)
    go (answers corners) z = (corners, z)
    go (refuses n p) z = absurd (never n p (report_zone_first zone bytes room n p z))

-- ---- what the codes are
-- The corners and the releases that the two files hold, and for each release the number of the place that the zone answers.
pub record Reported (zone bytes codes : List ℕ) : Type 0 where
  pub corners : List Float
  pub points : List Float
  pub judged : zone_file_of zone ≡ answers corners
  pub read : file_holds bytes ≡ answers points
  pub many : length codes ≡ length points / 2
  pub few : length codes ≤ limit
  pub places : (k : ℕ) → k < length codes
      → (lies : Lies) × (zone_of corners (corner_at points k) ≡ answers lies) × (get_or codes k 0 ≡ place_number lies)

reported : (zone bytes codes : List ℕ) (corners points : List Float) → zone_file_of zone ≡ answers corners
    → file_holds bytes ≡ answers points → codes_of corners (points_of points) ≡ codes → Reported zone bytes codes
reported zone bytes codes corners points z r list = record {
  corners = corners;
  points = points;
  judged = z;
  read = r;
  many = many;
  few = omega (arith, many, p.few);
  places = λ k l. place k (omega (arith, many));
}
  where
    p : PointList limit points
    p = read_points limit bytes (2 * limit) points r

    many : length codes ≡ length points / 2
    many = ap length (sym list) ∙ codes_length corners points

    place : (k : ℕ) → k < length points / 2
        → (lies : Lies) × (zone_of corners (corner_at points k) ≡ answers lies) × (get_or codes k 0 ≡ place_number lies)
    place k l =
        let zoned = zone_file_zoned zone corners z in
        let here = accepted_at points k p.good l in
        let lies = place_in corners (corner_at points k) in
        let is = zoned_answers corners (length corners / 2) (corner_at points k) zoned here in (
          lies,
          is,
          ap (λ (c : List ℕ). get_or c k 0) (sym list) ∙ codes_at corners points k l
              ∙ code_zone corners (corner_at points k) lies zoned here is,
        )

report_releases : (zone bytes : List ℕ) (room : ℕ) (codes : List ℕ) → report_of zone bytes room ≡ releases codes
    → (corners : List Float) × (zone_file_of zone ≡ answers corners) × (releases_of corners bytes room ≡ answers codes)
report_releases zone bytes room codes e =
    let z = report_zone zone bytes room (λ n p f. never (cc (sym e ∙ f))) in
    (z.0, z.1, releases_answered (releases_of z.0 bytes room) codes (sym (report_judged zone bytes room z.0 z.1) ∙ e))

releases_list : (corners : List Float) (bytes : List ℕ) (room : ℕ) (codes : List ℕ) → releases_of corners bytes room ≡ answers codes
    → (points : List Float) × (file_holds bytes ≡ answers points) × (codes_of corners (points_of points) ≡ codes)
unfolding releases_of
releases_list corners bytes room codes e =
    let a = also_answered (file_holds bytes) _ e in
    let r = require_answered (leb (length a.0 / 2) room) no_room 0 _ a.2 in
    (a.0, a.1, cc r.1)

releases_room : (corners : List Float) (bytes : List ℕ) (room : ℕ) (codes : List ℕ) → releases_of corners bytes room ≡ answers codes
    → length codes ≤ room
unfolding releases_of
releases_room corners bytes room codes e =
    let a = also_answered (file_holds bytes) _ e in
    let r = require_answered (leb (length a.0 / 2) room) no_room 0 _ a.2 in
    let list : codes_of corners (points_of a.0) ≡ codes = cc r.1 in
    omega (arith, leb-true (length a.0 / 2) room r.0, ap length list, codes_length corners a.0)

-- they have room
pub report_codes_room : (zone bytes : List ℕ) (room : ℕ) (codes : List ℕ) → report_of zone bytes room ≡ releases codes → length codes ≤ room
report_codes_room zone bytes room codes e =
    let r = report_releases zone bytes room codes e in
    releases_room r.0 bytes room codes r.2

pub report_codes : (zone bytes : List ℕ) (room : ℕ) (codes : List ℕ) → report_of zone bytes room ≡ releases codes
    → Reported zone bytes codes
report_codes zone bytes room codes e =
    let r = report_releases zone bytes room codes e in
    let a = releases_list r.0 bytes room codes r.2 in
    reported zone bytes codes r.0 a.0 r.1 a.1 a.2

-- each is 0, 1 or 2
pub report_codes_most : (zone bytes : List ℕ) (room : ℕ) (codes : List ℕ) → report_of zone bytes room ≡ releases codes
    → (k : ℕ) → k < length codes → get_or codes k 0 ≤ 2
report_codes_most zone bytes room codes e k l =
    let p = (report_codes zone bytes room codes e).places k l in
    omega (arith, number_most p.0, p.2)

-- ---- which refusals there are
-- of the release file: the reader's, and 9 where fewer than 512 bytes are lent
pub report_releases_refused : (zone bytes : List ℕ) (room number place : ℕ) → report_of zone bytes room ≡ refused_releases number place
    → (corners : List Float) × (zone_file_of zone ≡ answers corners) × (releases_of corners bytes room ≡ refuses number place)
report_releases_refused zone bytes room number place e =
    let z = report_zone zone bytes room (λ n p f. never (cc (sym e ∙ f))) in (
      z.0,
      z.1,
      releases_refused (releases_of z.0 bytes room) number place (sym (report_judged zone bytes room z.0 z.1) ∙ e),
    )

releases_only : (corners : List Float) (bytes : List ℕ) (room : ℕ) → limit ≤ room → Only is_readers (releases_of corners bytes room)
unfolding releases_of
releases_only corners bytes room h =
    only_also is_readers (file_holds bytes) _ (read_only limit bytes (2 * limit) (omega arith)) (λ points e.
    let few = (read_points limit bytes (2 * limit) points e).few in
    let enough : length points / 2 ≤ room = omega (arith, few) in
    only_require_held is_readers (leb (length points / 2) room) no_room 0 _ (le-leb _ _ enough) (only_answers is_readers _))

pub report_releases_only : (zone bytes : List ℕ) (room : ℕ) → limit ≤ room → (number place : ℕ)
    → report_of zone bytes room ≡ refused_releases number place → is_readers number ≡ true
report_releases_only zone bytes room h number place e =
    let r = report_releases_refused zone bytes room number place e in
    releases_only r.0 bytes room h number place r.2

-- of the zone's: the reader's, 4 and 1
pub report_zone_only : (zone bytes : List ℕ) (room number place : ℕ) → report_of zone bytes room ≡ refused_zone number place
    → is_zones number ≡ true
report_zone_only zone bytes room number place e =
    zone_file_only zone number place (report_zone_refused zone bytes room number place e)

-- so with 512 lent bytes never 9
pub report_room : (zone bytes : List ℕ) (room : ℕ) → limit ≤ room → (place : ℕ)
    → (report_of zone bytes room ≡ refused_releases no_room place → ⊥) × (report_of zone bytes room ≡ refused_zone no_room place → ⊥)
report_room zone bytes room h place = (
  λ e. subst T (sym (report_releases_only zone bytes room h no_room place e)) tt,
  λ e. subst T (sym (report_zone_only zone bytes room no_room place e)) tt,
)

-- ---- the first bytes of each file
pub report_enough : (zone bytes : List ℕ) (room : ℕ) → Bytes zone → Bytes bytes
    → report_of (take (most_bytes + 1) zone) (take (most_bytes + 1) bytes) room ≡ report_of zone bytes room
unfolding report_of releases_of
report_enough zone bytes room all_zone all = rw (zone_file_enough zone all_zone, file_enough bytes all)

-- ---- no two results satisfy the promise
pub said_once : (a b : Result ℕ ReportRefusal) → report_said a ≡ report_said b → a ≡ b
said_once (Ok m) (Ok n) e = let p : m ≡ n = cc in ap Ok p
said_once (Ok m) (Err (RefusedZone q)) e = never (cc)
said_once (Ok m) (Err (RefusedReleases q)) e = never (cc)
said_once (Err (RefusedZone r)) (Ok n) e = never (cc)
said_once (Err (RefusedZone r)) (Err (RefusedZone q)) e = ap (λ (f : Refusal). Err (RefusedZone f)) (refusal_once r q (cc) (cc))
said_once (Err (RefusedZone r)) (Err (RefusedReleases q)) e = never (cc)
said_once (Err (RefusedReleases r)) (Ok n) e = never (cc)
said_once (Err (RefusedReleases r)) (Err (RefusedZone q)) e = never (cc)
said_once (Err (RefusedReleases r)) (Err (RefusedReleases q)) e = ap (λ (f : Refusal). Err (RefusedReleases f)) (refusal_once r q (cc) (cc))

-- neither the answer nor a lent byte is left open
pub report_fixed : (zone bytes lent : List ℕ) → Fixes (λ (w : Result ℕ ReportRefusal × List ℕ). ReportSays zone bytes lent w.0 w.1)
report_fixed zone bytes lent a b p q =
    ap₂ (λ (r : Result ℕ ReportRefusal) (left : List ℕ). (r, left)) (said_once a.0 b.0 (p.answer ∙ sym q.answer)) (p.bytes ∙ sym q.bytes)
