-- The zone, judged from its file. In order: what the reader and the two limits come to, for the function that asks them; the zone of a file
-- is one that geometry does not refuse, and the zone rule refuses as the definition does; which refusals there are; the first 10,243 bytes
-- are enough; no two results satisfy the promise. Not here: the releases (`Report`). Assumes nothing.
use Rattle.std.specs.Prelude.{Err, Ok, Result}
use Prim.Native.Nat.{ℕ, ◌+◌, ◌*◌, ◌/◌, ◌%◌, ◌≤◌, ◌<◌}
use mathlib.Core.Path.{◌≡◌, refl, sym, ap, ap₂, ◌∙◌, subst}
use mathlib.Core.Bool.{Bool, true, false, ◌||◌}
use mathlib.Core.List.{List}
use native.Mathlib.Omega.{arith}
use borrow.Author.Tests.{le-leb, lt-leb, leb-true, leb-false}
use lib.Dec.{eqb, leb}
use lib.ListN.{length, take}
use lib.Ieee.{Float}
use Rattle.std.specs.Result.{MatchResult, IsErrAnd}
use Rattle.std.proofs.lemmas.Result.{err_from_is_err_and}
use Rattle.refusal.specs.declared.Kind.TheVariants.{TooFewCorners, TooMany}
use Rattle.refusal.specs.declared.Refusal.{Refusal}
use Rattle.refusal.specs.Outcome.{Outcome, answers, refuses, Fixes, too_many, too_few_corners, kind_number}
use Rattle.refusal.proofs.Laws.Outcome.{outcome_once, never}
use Rattle.point.specs.declared.Point.{Point}
use Rattle.point.specs.Accepted.{Accepted}
use Rattle.geometry.specs.Zone.{fewest, most, Zoned, zone_of}
use Rattle.geometry.proofs.Laws.Zone.{zone_small, zone_large}
use Rattle.geometry.proofs.Laws.Answered.{zoned_answers}
use Rattle.refusal.specs.Judged.{require, also}
use Rattle.number.specs.Number.{Bytes}
use Rattle.track.specs.File.{limit, most_bytes}
use Rattle.track.specs.Read.{read_of, points_said, said, ReadSays}
use Rattle.refusal.proofs.Laws.Judged.{also_answers, also_refuses, require_holds, require_fails, also_answered, also_refused, require_answered}
use Rattle.track.proofs.Laws.Refusals.{Only, only_answers, only_also, only_require, is_readers, read_only}
use Rattle.track.proofs.Laws.Points.{PointList, read_points, Held, read_held}
use Rattle.track.proofs.Laws.Calls.{read_enough}
use Rattle.report.specs.Zone.{file_holds, zone_file_of, JudgeSays}
use Rattle.report.specs.Parts.{JudgedHeld}

-- ---- what a refusal that is wrapped tells of the call: `r` as it answers, `q` with its refusal wrapped
module _ {A E D : Type 0} (wrapped : E → D → Type 0) {q : Result A D} where
  pub wrapped_ok : (r : Result A E) → MatchResult r (λ x. q ≡ Ok x) (λ e. IsErrAnd q (wrapped e)) → {n : A} → q ≡ Ok n → r ≡ Ok n
  wrapped_ok (Ok x) h {n} k = let same : x ≡ n = cc (sym h ∙ k) in ap Ok same
  wrapped_ok (Err e) h k = let p = err_from_is_err_and q h in never (cc (sym k ∙ p.1))

  pub wrapped_err : (r : Result A E) → MatchResult r (λ x. q ≡ Ok x) (λ e. IsErrAnd q (wrapped e)) → {d : D} → q ≡ Err d
      → (e : E) × (r ≡ Err e) × wrapped e d
  wrapped_err (Ok x) h k = never (cc (sym h ∙ k))
  wrapped_err (Err e) h {d} k =
      let p = err_from_is_err_and q h in
      let same : p.0 ≡ d = cc (sym p.1 ∙ k) in
      (e, refl, subst (wrapped e) same p.2)

-- ---- what a read comes to
pub refuses_same : {A : Type 0} {a b m n : ℕ} → a ≡ m → b ≡ n → ◌≡◌ {A = Outcome A} (refuses a b) (refuses m n)
refuses_same {A} p q = ap₂ (λ (m n : ℕ). let o : Outcome A = refuses m n in o) p q

-- a refused read leaves nothing else to say
pub points_refused : (o : Outcome (List Float)) (number place : ℕ) → refuses number place ≡ points_said o → o ≡ refuses number place
points_refused o number place e = also_refused o (λ points. length points / 2) (sym e)

module _ (bytes : List ℕ) (lent left : List Float) (r : Result ℕ Refusal) (room : length lent ≡ 2 * limit) (s : ReadSays bytes lent r left) where
  pub holds_refused : (q : Refusal) → r ≡ Err q → file_holds bytes ≡ refuses (kind_number q.kind) q.place
  holds_refused q e =
      ap (read_of limit bytes) (sym room)
      ∙ points_refused (read_of limit bytes (length lent)) (kind_number q.kind) q.place (ap said (sym e) ∙ s.answer)

  pub holds_points : (n : ℕ) → r ≡ Ok n → Held bytes (2 * limit) n left
  holds_points n e =
      subst (λ (k : ℕ). Held bytes k n left) room (read_held (subst (λ (r : Result ℕ Refusal). ReadSays bytes lent r left) e s))

-- ---- what the judging function finds
judged_refused : (zone : List ℕ) (left : List Float) (r : Refusal) → zone_file_of zone ≡ refuses (kind_number r.kind) r.place
    → JudgedHeld zone (Err r) left
judged_refused zone left r e = record { answer = sym (also_refuses _ e); corners = sym e }

pub judged_unread : (zone : List ℕ) (left : List Float) (r : Refusal) → file_holds zone ≡ refuses (kind_number r.kind) r.place
    → JudgedHeld zone (Err r) left
unfolding zone_file_of
judged_unread zone left r e = judged_refused zone left r (also_refuses _ e)

module _ (zone : List ℕ) (left : List Float) (n : ℕ) (h : Held zone (2 * limit) n left) where
  half : length (take (2 * n) left) / 2 ≡ n
  half = omega (arith, h.many)

  pub judged_few : n < fewest → JudgedHeld zone (Err (record { kind = TooFewCorners; place = 0 })) left
  unfolding zone_file_of
  judged_few l =
      let small : length (take (2 * n) left) / 2 < fewest = omega (arith, half) in
      judged_refused zone left _ (also_answers _ h.read ∙ require_fails too_few_corners 0 _ (lt-leb _ _ small))

  module _ (some : fewest ≤ n) where
    enough : fewest ≤ length (take (2 * n) left) / 2
    enough = omega (arith, half)

    pub judged_many : most < n → JudgedHeld zone (Err (record { kind = TooMany; place = 0 })) left
    unfolding zone_file_of
    judged_many l =
        let large : most < length (take (2 * n) left) / 2 = omega (arith, half) in
        judged_refused zone left _ (also_answers _ h.read ∙ require_holds too_few_corners 0 _ (le-leb _ _ enough)
        ∙ require_fails too_many 0 _ (lt-leb _ _ large))

    pub judged_corners : n ≤ most → JudgedHeld zone (Ok n) left
    unfolding zone_file_of
    judged_corners l =
        let few : length (take (2 * n) left) / 2 ≤ most = omega (arith, half) in
        let is : zone_file_of zone ≡ answers (take (2 * n) left) = also_answers _ h.read
        ∙ require_holds too_few_corners 0 _ (le-leb _ _ enough) ∙ require_holds too_many 0 _ (le-leb _ _ few) in
        record { answer = ap answers (sym half) ∙ sym (also_answers _ is); corners = sym is }

-- ---- a zone's file
points_zoned : (xs : List Float) → PointList limit xs → fewest ≤ length xs / 2 → length xs / 2 ≤ most → Zoned xs (length xs / 2)
points_zoned xs p some few = record {
  corners = omega (arith, p.even);
  some = some;
  few = few;
  accepted = λ k l. record { x = p.good (2 * k) (omega (arith, p.even)); y = p.good (2 * k + 1) (omega (arith, p.even)) };
}

-- Its corners are a zone that is not refused.
pub zone_file_zoned : (bytes : List ℕ) (corners : List Float) → zone_file_of bytes ≡ answers corners → Zoned corners (length corners / 2)
unfolding zone_file_of
zone_file_zoned bytes corners e =
    let a = also_answered (file_holds bytes) _ e in
    let xs = a.0 in
    let some = require_answered (leb fewest (length xs / 2)) too_few_corners 0 _ a.2 in
    let few = require_answered (leb (length xs / 2) most) too_many 0 _ some.1 in
    let is : xs ≡ corners = cc few.1 in
    let p = read_points limit bytes (2 * limit) xs a.1 in
    subst (λ (z : List Float). Zoned z (length z / 2)) is
    (points_zoned xs p (leb-true fewest (length xs / 2) some.0) (leb-true (length xs / 2) most few.0))

-- for who judged it
pub judged_as : (zone : List ℕ) (list : List Float) (r q : Result ℕ Refusal) → JudgedHeld zone r list → r ≡ q → JudgedHeld zone q list
judged_as zone list r q h e = subst (λ (a : Result ℕ Refusal). JudgedHeld zone a list) e h

module _ (zone : List ℕ) (list : List Float) (n : ℕ) (h : JudgedHeld zone (Ok n) list) where
  pub judged_zoned : Zoned (take (2 * n) list) (length (take (2 * n) list) / 2)
  judged_zoned = zone_file_zoned zone (take (2 * n) list) (sym h.corners)

  pub judged_most : n ≤ most
  judged_most =
      let said : answers n ≡ answers (length (take (2 * n) list) / 2) = h.answer ∙ also_answers _ (sym h.corners) in
      let half : n ≡ length (take (2 * n) list) / 2 = cc in
      omega (arith, judged_zoned.few)

-- what is judged of the corners that were read
abbrev judged : List Float → Outcome (List Float)
judged xs =
    also (require (leb fewest (length xs / 2)) too_few_corners 0) (λ _.
    also (require (leb (length xs / 2) most) too_many 0) (λ _.
    answers xs))

-- A file is refused by the reader, or by geometry's zone rule whatever accepted point is asked for
pub zone_file_rule : (bytes : List ℕ) (p : Point) → Accepted p
    → zone_file_of bytes ≡ also (file_holds bytes) (λ corners. also (zone_of corners p) (λ _. answers corners))
unfolding zone_file_of
zone_file_rule bytes p a = go (file_holds bytes) refl
  where
    ruled : List Float → Outcome (List Float)
    ruled xs = also (zone_of xs p) (λ _. answers xs)

    same : (xs : List Float) → PointList limit xs → judged xs ≡ ruled xs
    same xs l = tested (leb fewest (length xs / 2)) (leb (length xs / 2) most) refl refl
      where
        even : length xs % 2 ≡ 1 → ⊥
        even h = omega (arith, l.even)

        tested : (b c : Bool) → leb fewest (length xs / 2) ≡ b → leb (length xs / 2) most ≡ c → judged xs ≡ ruled xs
        tested false c e f =
            require_fails too_few_corners 0 _ e ∙ sym (also_refuses _ (sym (zone_small xs p even (leb-false fewest (length xs / 2) e))))
        tested true false e f =
            let some : fewest ≤ length xs / 2 = leb-true fewest (length xs / 2) e in
            require_holds too_few_corners 0 _ e ∙ require_fails too_many 0 _ f
            ∙ sym (also_refuses _ (sym (zone_large xs p even some (leb-false (length xs / 2) most f))))
        tested true true e f =
            let some : fewest ≤ length xs / 2 = leb-true fewest (length xs / 2) e in
            let few : length xs / 2 ≤ most = leb-true (length xs / 2) most f in
            require_holds too_few_corners 0 _ e ∙ require_holds too_many 0 _ f
            ∙ sym (also_answers _ (zoned_answers xs (length xs / 2) p (points_zoned xs l some few) a))

    go : (o : Outcome (List Float)) → file_holds bytes ≡ o → also o judged ≡ also o ruled
    go (answers xs) e = same xs (read_points limit bytes (2 * limit) xs e)
    go (refuses n q) e = refl

-- 3 to 64 corners are answered
pub judge_corners : (zone : List ℕ) (n : ℕ) → JudgeSays zone (Ok n) → (fewest ≤ n) × (n ≤ most)
judge_corners zone n h =
    let a = also_answered (zone_file_of zone) _ (sym h) in
    let half : length a.0 / 2 ≡ n = cc a.2 in
    let z = zone_file_zoned zone a.0 a.1 in
    (omega (arith, z.some), omega (arith, z.few))

-- ---- which refusals there are
-- the zone rule refuses 4 or 1
abbrev pub is_rules : ℕ → Bool
is_rules n = eqb n too_few_corners || eqb n too_many

-- the reader's but 9, and those: never 2, 5 or 9
abbrev pub is_zones : ℕ → Bool
is_zones n = is_readers n || is_rules n

judged_only : (xs : List Float) → Only is_rules (judged xs)
judged_only xs =
    only_require is_rules (leb fewest (length xs / 2)) too_few_corners 0 _ refl (λ some.
    only_require is_rules (leb (length xs / 2) most) too_many 0 _ refl (λ few.
    only_answers is_rules xs))

readers_too : (o : Outcome (List Float)) → Only is_readers o → Only is_zones o
readers_too o h number place e = rw (h number place e)

rules_too : (o : Outcome (List Float)) → Only is_rules o → Only is_zones o
rules_too o h number place e = or_right (is_readers number) (is_rules number) (h number place e)
  where
    or_right : (a b : Bool) → b ≡ true → (a || b) ≡ true
    or_right true b e = refl
    or_right false b e = e

pub zone_file_only : (bytes : List ℕ) → Only is_zones (zone_file_of bytes)
unfolding zone_file_of
zone_file_only bytes =
    only_also is_zones (file_holds bytes) _ (readers_too (file_holds bytes) (read_only limit bytes (2 * limit) (omega arith))) (λ xs e.
    rules_too (judged xs) (judged_only xs))

-- ---- the first bytes of a file
-- what follows the first 10,243 bytes does not alter the first refusal
pub file_enough : (bytes : List ℕ) → Bytes bytes → file_holds (take (most_bytes + 1) bytes) ≡ file_holds bytes
file_enough bytes all = read_enough bytes (2 * limit) all

pub zone_file_enough : (bytes : List ℕ) → Bytes bytes → zone_file_of (take (most_bytes + 1) bytes) ≡ zone_file_of bytes
unfolding zone_file_of
zone_file_enough bytes all = rw (file_enough bytes all)

-- ---- no two results satisfy the promise
pub judge_fixed : (zone : List ℕ) → Fixes (JudgeSays zone)
judge_fixed zone a b p q = outcome_once _ (λ m n e. e) a b (p ∙ sym q)
