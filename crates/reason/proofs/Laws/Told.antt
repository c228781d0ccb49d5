-- What an answer and a refusal of `why` tell, by its definition. In order: the edges that count, and how many they are; an answer, whose zone answers and
-- whose entries fit; an answer inside or outside; a refusal. Not here: the demands (`Calls`). Assumes nothing.
use mathlib.Core.Path.{◌≡◌, refl, sym, ap, ap₂, ◌∙◌, subst}
use mathlib.Core.List.{List, ◌++◌, map}
use mathlib.Core.Logic.{inl, inr}
use Prim.Native.Nat.{ℕ, ◌/◌, ◌≤◌, ◌<◌}
use native.Mathlib.Omega.{arith}
use lib.Dec.{leb}
use lib.ListN.{length, drop, length-map}
use lib.Ieee.{Float}
use borrow.Author.Tests.{leb-true}
use Rattle.std.specs.Prelude.{Result}
use Rattle.whole.proofs.Laws.Order.{lt_or_le}
use Rattle.refusal.specs.Outcome.{Outcome, answers, refuses, no_room}
use Rattle.refusal.specs.declared.Refusal.{Refusal}
use Rattle.refusal.proofs.Laws.Judged.{also_answered, require_answered}
use Rattle.refusal.proofs.Laws.Outcome.{never, no_refusal}
use Rattle.ground.specs.Edge.{Edge, edges_of}
use Rattle.ground.specs.Zone.{Lies, outside, border, inside, tally_of, place_of}
use Rattle.ground.specs.Reason.{Entry, list_from, Reason, is_inside, is_outside, reason_at, reason_of, entries_of}
use Rattle.ground.proofs.Laws.Reason.{listed_many}
use Rattle.ground.proofs.Laws.Rule.{off_border_lem}
use Rattle.point.specs.declared.Point.{Point}
use Rattle.point.specs.Accepted.{Accepted}
use Rattle.point.specs.Spot.{spot_of}
use Rattle.geometry.specs.Zone.{corners_of, place_in, zone_of}
use Rattle.geometry.specs.Reasons.{total_in, OffBorder}
use Rattle.geometry.proofs.Laws.Answered.{zoned_answers}
use Rattle.geometry.proofs.Laws.Located.{located}
use Rattle.geometry.proofs.Laws.Calls.{refused_found, found_refused}
use Rattle.reason.specs.Why.{reason_in, code, needed_in, why_of, why_said, numbered, number_said, lent_after, WhySays}
use Rattle.reason.specs.Reasons.{many_in, WhyRefusedAs, as_zone, short, Tells, of_inside, of_outside}
use Rattle.reason.specs.Parts.{IsZone}
use Rattle.reason.specs.declared.answer.Counted.{Counted}
use Rattle.reason.specs.declared.answer.Why.{Why}
use Rattle.reason.proofs.Laws.Why.{answered_zoned, why_refused_zone, why_fits, why_short}

-- the edges that count
abbrev pub list_in : List Float → Point → List Entry
list_in xs p = list_from 0 (edges_of (corners_of xs)) (spot_of p)

-- and how many they are
pub many_listed : (xs : List Float) (p : Point) → length (list_in xs p) ≡ many_in xs p
unfolding tally_of
many_listed xs p = listed_many 0 (edges_of (corners_of xs)) (spot_of p)

-- ---- what an answer tells
module _ (xs : List Float) (p : Point) where
  -- where the call answers, the zone does, and the entries fit
  pub record Answered (room : ℕ) : Type 0 where
    pub whole : why_of xs p room ≡ answers (reason_in xs p)
    pub lies : zone_of xs p ≡ answers (place_in xs p)
    pub zoned : IsZone xs
    pub accepted : Accepted p
    pub fits : needed_in xs p ≤ room

  why_answered : (room : ℕ) (reason : Reason (List Entry)) → why_of xs p room ≡ answers reason → Answered room
  unfolding why_of
  why_answered room reason e =
      let (l, zone, later) = also_answered (zone_of xs p) _ e in
      let (fits, is) = require_answered (leb (needed_in xs p) room) no_room 0 _ later in
      let (zoned, accepted, place) = answered_zoned xs p l zone in
      record {
        whole = e ∙ sym is;
        lies = zone ∙ ap answers place;
        zoned = zoned;
        accepted = accepted;
        fits = leb-true _ _ fits;
      }

-- ---- a call that answers inside or outside
-- what is told of the edges that count, and of the lent bytes
pub record Told (xs : List Float) (p : Point) (lent : List ℕ) (c : Counted) (left : List ℕ) : Type 0 where
  pub total : c.total ≡ total_in xs p
  pub many : c.entries ≡ length (list_in xs p)
  pub stand : left ≡ map code (list_in xs p) ++ drop c.entries lent
  pub answered : Answered xs p (length lent)
  pub fits : c.entries ≤ length lent

module _ (xs : List Float) (p : Point) (lent left : List ℕ) where
  abbrev row : List Edge
  row = edges_of (corners_of xs)

  -- by the place that the zone's rule gives
  told_at : (l : Lies) (c : Counted) (r : Result Why Refusal) → Tells c r → why_said r ≡ answers (numbered (reason_at l row (spot_of p)))
      → (c.total ≡ total_in xs p) × (c.entries ≡ length (list_in xs p)) × (entries_of (reason_at l row (spot_of p)) ≡ list_in xs p)
  unfolding why_said
  told_at inside c r of_inside e = (cc, cc, refl)
  told_at outside c r of_outside e = (cc, cc, refl)
  told_at inside c r of_outside e = never (cc)
  told_at outside c r of_inside e = never (cc)
  told_at (border k) c r of_inside e = never (cc)
  told_at (border k) c r of_outside e = never (cc)

  -- a call that answers: the zone does, the reason is the rule's, and its entries stand
  pub answer_told : (r : Result Why Refusal) (n : Reason ℕ) → WhySays xs p lent r left → why_said r ≡ answers n
      → Answered xs p (length lent) × (n ≡ numbered (reason_in xs p))
      × (left ≡ map code (entries_of (reason_in xs p)) ++ drop (length (map code (entries_of (reason_in xs p)))) lent)
  answer_told r n says e =
      let (reason, whole, _) = also_answered (why_of xs p (length lent)) (λ (q : Reason (List Entry)). answers (numbered q)) (sym says.answer ∙ e) in
      let known = why_answered xs p (length lent) reason whole in
      let same : answers n ≡ answers (numbered (reason_in xs p)) = sym e ∙ says.answer ∙ ap number_said known.whole in
      (known, cc, says.room ∙ ap (λ (o : Outcome (Reason (List Entry))). lent_after o lent) known.whole)

  tells_said : (c : Counted) (r : Result Why Refusal) → Tells c r → (n : Reason ℕ) × (why_said r ≡ answers n)
  unfolding why_said
  tells_said c r of_inside = (is_inside c.total c.entries, refl)
  tells_said c r of_outside = (is_outside c.total c.entries, refl)

  pub why_told : (r : Result Why Refusal) (c : Counted) → WhySays xs p lent r left → Tells c r → Told xs p lent c left
  unfolding reason_in reason_of
  why_told r c says t =
      let (n, said) = tells_said c r t in
      let (known, is, stands) = answer_told r n says said in
      let (total, many, list) = told_at (place_of row (spot_of p)) c r t (said ∙ ap answers is) in
      let length_is : length (map code (list_in xs p)) ≡ c.entries = length-map (list_in xs p) code ∙ sym many in
      record {
        total = total;
        many = many;
        stand = stands ∙ ap (λ (l : List Entry). map code l ++ drop (length (map code l)) lent) list
            ∙ ap (λ (k : ℕ). map code (list_in xs p) ++ drop k lent) length_is;
        answered = known;
        fits = omega (arith, known.fits, ap length list, many);
      }

-- ---- what a refusal tells: the zone's, or 9 where the room is shorter than the edges that count
module _ (xs : List Float) (p : Point) (z : IsZone xs) where
  entries_at : (l : Lies) → (place_in xs p ≡ l) → ((k : ℕ) → l ≡ border k → ⊥) → entries_of (reason_in xs p) ≡ list_in xs p
  unfolding reason_in reason_of place_in
  entries_at inside e off = ap (λ (l : Lies). entries_of (reason_at l (edges_of (corners_of xs)) (spot_of p))) e
  entries_at outside e off = ap (λ (l : Lies). entries_of (reason_at l (edges_of (corners_of xs)) (spot_of p))) e
  entries_at (border k) e off = absurd (off k refl)

  -- off the border as many entries are needed as edges count
  off_many : OffBorder xs p → needed_in xs p ≡ many_in xs p
  off_many off = ap length (entries_at (place_in xs p) refl none) ∙ many_listed xs p
    where
      none : (k : ℕ) → place_in xs p ≡ border k → ⊥
      none k e = elim (located xs p z.corners) [
        | inl (_, tally) ↦ off_border_lem (tally_of (edges_of (corners_of xs)) (spot_of p)) k (sym tally ∙ e)
        | inr (j, f, _) ↦ never (cc (f.on, off j f.inside))
      ]

  -- and on it none
  some_off : 0 < needed_in xs p → OffBorder xs p
  unfolding reason_in reason_of place_in
  some_off h = elim (located xs p z.corners) [
    | inl (off, _) ↦ off
    | inr (j, _, place) ↦
        let none : needed_in xs p ≡ 0 = ap (λ (l : Lies). length (entries_of (reason_at l (edges_of (corners_of xs)) (spot_of p)))) place in
        let no_more : ⊥ = omega arith in absurd no_more
  ]

module _ (xs : List Float) (p : Point) where
  pub refused_found_why : (room n k : ℕ) → why_of xs p room ≡ refuses n k → WhyRefusedAs xs p room n k
  refused_found_why room n k e = go (zone_of xs p) refl
    where
      short_as : (n k : ℕ) → n ≡ no_room → k ≡ 0 → WhyRefusedAs xs p room no_room 0 → WhyRefusedAs xs p room n k
      short_as n k i j w = subst (λ (m : ℕ). WhyRefusedAs xs p room m k) (sym i) (subst (λ (m : ℕ). WhyRefusedAs xs p room no_room m) (sym j) w)

      go : (o : Outcome Lies) → zone_of xs p ≡ o → WhyRefusedAs xs p room n k
      go (refuses m j) h =
          let same : refuses m j ≡ refuses n k = sym (why_refused_zone xs p room m j h) ∙ e in
          as_zone n k (refused_found xs p n k (h ∙ retyped same))
        where
          retyped : {A B : Type 0} {m j n k : ℕ} → ◌≡◌ {A = Outcome A} (refuses m j) (refuses n k) → ◌≡◌ {A = Outcome B} (refuses m j) (refuses n k)
          retyped s = ap₂ (λ (a b : ℕ). refuses a b) (cc) (cc)
      go (answers l) h =
          let (zoned, accepted, _) = answered_zoned xs p l h in
          elim (lt_or_le room (needed_in xs p)) [
            | inr fits ↦ no_refusal (sym e ∙ why_fits xs p room l h fits)
            | inl more ↦
                let same : refuses n k ≡ refuses no_room 0 = sym e ∙ why_short xs p room l h more in
                let off = some_off xs p zoned (omega arith) in
                short_as n k (cc) (cc) (short zoned accepted off (omega (arith, off_many xs p zoned off)))
          ]

  pub found_refused_why : (room n k : ℕ) → WhyRefusedAs xs p room n k → why_of xs p room ≡ refuses n k
  found_refused_why room n k (as_zone m j w) = why_refused_zone xs p room m j (found_refused xs p m j w)
  found_refused_why room n k (short z a off h) =
      why_short xs p room (place_in xs p) (zoned_answers xs (length xs / 2) p z a) (omega (arith, off_many xs p z off))
