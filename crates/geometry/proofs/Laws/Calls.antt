-- The demands, of whatever keeps the promises of `side` and `zone`: nothing here speaks of how they work. In order: which sides are refused,
-- with what place; an answered side: its sign, its steps; which zones are refused, with what number and place; an answered zone: border,
-- inside, outside. A point that is handed in is made of doubles (`OfDoubles`). Assumes nothing.
use mathlib.Core.Path.{◌≡◌, refl, sym, ap, ◌∙◌, subst}
use mathlib.Core.Bool.{Bool, true, false}
use mathlib.Core.List.{List, ◌∷◌}
use mathlib.Core.Logic.Iff
use mathlib.Core.Logic.{◌↔◌, inl, inr}
use Prim.Native.Nat.{ℕ, ◌*◌, ◌/◌, ◌%◌, ◌≤◌, ◌<◌}
use native.Mathlib.Nat.{zero-add, le_antisymm, eq-zero-or-pos}
use native.Mathlib.Omega.{arith}
use lib.Dec.{eqb, leb}
use lib.IntN.{pos}
use lib.ListN.{length}
use lib.Ieee.{Float, nan}
use borrow.Author.Tests.{eqb-true, eqb-false, leb-true, leb-false}
use Rattle.whole.specs.Sign.{sgn}
use Rattle.whole.proofs.Laws.Order.{lt_or_le}
use Rattle.refusal.specs.Outcome.{answers, refuses, too_many, not_accepted, too_few_corners, odd_length, kind_number}
use Rattle.refusal.specs.Search.{AllPass}
use Rattle.refusal.specs.declared.Refusal.{Refusal}
use Rattle.refusal.proofs.Laws.Outcome.{never, no_refusal, outcome_refused}
use Rattle.refusal.proofs.Laws.Judged.{require_refused}
use Rattle.refusal.proofs.Laws.Search.{passing_answered, passing_first, passing_refused, passing_iff}
use Rattle.point.specs.declared.Point.{Point}
use Rattle.point.specs.Accepted.{reach, accepted_of, Accepted, OfDoubles}
use Rattle.point.specs.Spot.{spot_of, determinant}
use Rattle.point.proofs.Laws.Within.{Within, accepted_within_lem}
use Rattle.sum.specs.Total.{sign_number}
use Rattle.geometry.specs.Side.{Turned, turn_of, turn_said, said, six_of, side_of, SideSays, most_steps}
use Rattle.ground.specs.Edge.{edges_of}
use Rattle.ground.specs.Zone.{Tally, tally_of, Lies, place_number, place_of, outside, border, inside, off_border}
use Rattle.ground.proofs.Laws.Rule.{off_inside, off_outside, off_border_lem}
use Rattle.geometry.specs.Zone.{fewest, most, corners_of, place_in, Zoned, place_said, zone_said, zone_of, ZoneSays}
use Rattle.geometry.specs.Reasons.{SideRefusedAs, ZoneRefusedAs, odd, few, many, unaccepted, FirstOn, OffBorder, total_in}
use Rattle.geometry.specs.declared.answer.Turn.{Turn}
use Rattle.geometry.specs.declared.answer.Place.{Place}
use Rattle.geometry.specs.declared.answer.Place.TheVariants.{Outside, Border, Inside}
use Rattle.geometry.proofs.Laws.Side.{turn_sign, turn_steps, turn_steps_early, side_turn}
use Rattle.geometry.proofs.Laws.Zone.{zone_odd, zone_small, zone_large, judged, place_once}
use Rattle.geometry.proofs.Laws.Located.{located}
use Rattle.geometry.proofs.Laws.Answered.{zone_answered, zoned_answers}
use Rattle.std.specs.Prelude.{Err, Ok, Result}

-- ---- which sides are refused: 3, at the first of the six coordinates that is not accepted
pub side_refused : (p q r : Point) (s : Result Turn Refusal) → SideSays p q r s
    → (f : Refusal) → (s ≡ Err f) ↔ SideRefusedAs p q r (kind_number f.kind) f.place
unfolding said side_of
side_refused p q r s h f =
    let at = passing_iff accepted_of not_accepted nan (six_of p q r) (turn_of p q r) (kind_number f.kind) f.place in
    (λ e. at.0 (sym h ∙ ap said e), λ w. outcome_refused turn_said s f (h ∙ at.1 w))

-- accepted points are answered
pub side_answers_lem : (p q r : Point) (s : Result Turn Refusal) → Accepted p → Accepted q → Accepted r → SideSays p q r s → (t : Turn) × (s ≡ Ok t)
unfolding said
side_answers_lem p q r (Ok t) P Q R h = (t, refl)
side_answers_lem p q r (Err f) P Q R h = no_refusal (h ∙ sym (side_turn p q r P Q R))

-- ---- an answered side
module _ (p q r : Point) (t : Turn) (P : OfDoubles p) (Q : OfDoubles q) (R : OfDoubles r) (h : SideSays p q r (Ok t)) where
  passed : AllPass accepted_of nan (six_of p q r) × (turn_of p q r ≡ turn_said t)
  unfolding said side_of
  passed = passing_answered accepted_of not_accepted nan (turn_of p q r) 0 (six_of p q r) (turn_said t) (sym h)

  pub side_accepted : Accepted p × Accepted q × Accepted r
  side_accepted =
      let all = passed.0 in (
        record { x = all 0 (omega arith); y = all 1 (omega arith) },
        record { x = all 2 (omega arith); y = all 3 (omega arith) },
        record { x = all 4 (omega arith); y = all 5 (omega arith) },
      )

  within_p : Within reach p
  within_p = accepted_within_lem p P.x P.y side_accepted.0

  within_q : Within reach q
  within_q = accepted_within_lem q Q.x Q.y side_accepted.1

  within_r : Within reach r
  within_r = accepted_within_lem r R.x R.y side_accepted.2

  -- the sign is that of the exact determinant, whichever stage answered
  pub side_sign : sign_number t.sign ≡ sgn (determinant p q r)
  side_sign = sym (ap (λ (t : Turned). t.sign) passed.1) ∙ turn_sign p q r within_p within_q within_r

  -- no side takes more than 480 steps
  pub side_steps : t.steps ≤ most_steps
  side_steps = subst (λ (t : Turned). t.steps ≤ most_steps) passed.1 (turn_steps p q r within_p within_q within_r)

  -- stages 1 and 2 take none
  pub side_steps_early : t.stage < 3 → t.steps ≡ 0
  side_steps_early l =
      subst (λ (t : Turned). t.stage < 3 → t.steps ≡ 0) passed.1 (turn_steps_early p q r) l

-- ---- which zones are refused: 5, 4, 1, then 3 at the first coordinate that is not accepted, the point's first
module _ (xs : List Float) (p : Point) where
  abbrev placed : Lies
  placed = place_in xs p

  told_as : (m j n k : ℕ) → n ≡ m → k ≡ j → ZoneRefusedAs xs p m j → ZoneRefusedAs xs p n k
  told_as m j n k number place w =
      subst (λ (i : ℕ). ZoneRefusedAs xs p i k) (sym number) (subst (λ (i : ℕ). ZoneRefusedAs xs p m i) (sym place) w)

  pub refused_found : (n k : ℕ) → zone_of xs p ≡ refuses n k → ZoneRefusedAs xs p n k
  unfolding zone_of
  refused_found n k e = elim (require_refused (eqb (length xs % 2) 0) odd_length 0 _ e) [
    | inl (fails, number, place) ↦ told_as odd_length 0 n k number place (odd (uneven (eqb-false (length xs % 2) 0 fails)))
    | inr (holds, e) ↦
        let even = eqb-true (length xs % 2) 0 holds in
        elim (require_refused (leb fewest (length xs / 2)) too_few_corners 0 _ e) [
          | inl (fails, number, place) ↦ told_as too_few_corners 0 n k number place (few even (leb-false fewest (length xs / 2) fails))
          | inr (holds, e) ↦
              let least = leb-true fewest (length xs / 2) holds in
              elim (require_refused (leb (length xs / 2) most) too_many 0 _ e) [
                | inl (fails, number, place) ↦ told_as too_many 0 n k number place (many even (leb-false (length xs / 2) most fails))
                | inr (holds, e) ↦
                    let (number, (j, place, first)) = passing_refused accepted_of not_accepted nan placed 0 (p.x ∷ p.y ∷ xs) n k e in
                    told_as not_accepted j n k number (place ∙ zero-add j) (unaccepted even least (leb-true (length xs / 2) most holds) j first)
              ]
        ]
  ]
    where
      uneven : (length xs % 2 ≡ 0 → ⊥) → length xs % 2 ≡ 1
      uneven h = elim (eq-zero-or-pos (length xs % 2)) [ inl z ↦ absurd (h z) | inr l ↦ omega arith ]

  even_not : length xs % 2 ≡ 0 → length xs % 2 ≡ 1 → ⊥
  even_not h e = omega arith

  pub found_refused : (n k : ℕ) → ZoneRefusedAs xs p n k → zone_of xs p ≡ refuses n k
  found_refused n k (odd h) = sym (zone_odd xs p h)
  found_refused n k (few h l) = sym (zone_small xs p (even_not h) l)
  found_refused n k (many h l) = sym (zone_large xs p (even_not h) (some l) l)
    where
      some : most < length xs / 2 → fewest ≤ length xs / 2
      some l = omega arith
  found_refused n k (unaccepted h least greatest place first) =
      sym (judged xs p (even_not h) least greatest)
      ∙ passing_first accepted_of not_accepted nan placed 0 (p.x ∷ p.y ∷ xs) place first ∙ ap (λ (i : ℕ). refuses not_accepted i) (zero-add place)

pub zone_refused : (xs : List Float) (p : Point) (z : Result Place Refusal) → ZoneSays xs p z
    → (f : Refusal) → (z ≡ Err f) ↔ ZoneRefusedAs xs p (kind_number f.kind) f.place
unfolding zone_said
zone_refused xs p z h f = (
  λ e. refused_found xs p (kind_number f.kind) f.place (sym h ∙ ap zone_said e),
  λ w. outcome_refused place_said z f (h ∙ found_refused xs p (kind_number f.kind) f.place w),
)

-- a zone that breaks no rule is answered for every accepted point
pub zone_answers_lem : (xs : List Float) (n : ℕ) (p : Point) (z : Result Place Refusal) → Zoned xs n → Accepted p → ZoneSays xs p z → (place : Place) × (z ≡ Ok place)
unfolding zone_said
zone_answers_lem xs n p (Ok place) zoned a h = (place, refl)
zone_answers_lem xs n p (Err f) zoned a h = no_refusal (h ∙ zoned_answers xs n p zoned a)

-- a truth is not both
not_both : {A : Type 0} {b : Bool} → b ≡ true → b ≡ false → A
not_both e f = never (cc)

-- the numbers of the places
pub place_inside : place_number (place_said Inside) ≡ 2
unfolding place_said
place_inside = refl

pub place_outside : place_number (place_said Outside) ≡ 0
unfolding place_said
place_outside = refl

pub place_border : (k : ℕ) → place_number (place_said (Border k)) ≡ 1
unfolding place_said
place_border k = refl

-- ---- an answered zone
module _ (xs : List Float) (p : Point) (place : Place) (h : ZoneSays xs p (Ok place)) where
  told : zone_of xs p ≡ answers (place_said place)
  unfolding zone_said
  told = sym h

  at : place_in xs p ≡ place_said place
  at = (zone_answered xs p (place_said place) told).place

  -- the place is the rule's, of what corners and point are worth
  pub zone_lies : place_of (edges_of (corners_of xs)) (spot_of p) ≡ place_said place
  unfolding place_in
  zone_lies = at

  abbrev tallied : Tally
  tallied = tally_of (edges_of (corners_of xs)) (spot_of p)

  halves : length xs ≡ 2 * (length xs / 2)
  halves = omega (arith, (zone_answered xs p (place_said place) told).even)

  answered_as : (m : Place) → (place ≡ m) ↔ (place_in xs p ≡ place_said m)
  answered_as m = (λ e. at ∙ ap place_said e, λ e. place_once place m (sym at ∙ e))

  -- border k: edge k has the point, and no earlier one
  pub zone_border : (k : ℕ) → (place ≡ Border k) ↔ FirstOn xs p k
  unfolding place_said
  zone_border k = Iff.trans (answered_as (Border k)) (first, last)
    where
      first : place_in xs p ≡ border k → FirstOn xs p k
      first e = elim (located xs p halves) [
        | inl (off, tally) ↦ absurd (off_border_lem tallied k (sym tally ∙ e))
        | inr (j, f, g) ↦ let both : border j ≡ border k = sym g ∙ e in let same : j ≡ k = cc in subst (FirstOn xs p) same f
      ]

      last : FirstOn xs p k → place_in xs p ≡ border k
      last f = elim (located xs p halves) [
        | inl (off, tally) ↦ not_both f.on (off k f.inside)
        | inr (j, g, e) ↦ e ∙ ap border (le_antisymm (no_later k j g f) (no_later j k f g))
      ]
        where
          -- the first is no later than any that has the point
          no_later : (i j : ℕ) → FirstOn xs p j → FirstOn xs p i → j ≤ i
          no_later i j g f = elim (lt_or_le i j) [ inl l ↦ not_both f.on (g.before i l) | inr l ↦ l ]

  -- what is answered where no edge has the point
  off_answer : (l : Lies) (Q : Type 0) → ((k : ℕ) → border k ≡ l → ⊥) → (off_border tallied ≡ l) ↔ Q → (place_in xs p ≡ l) ↔ (OffBorder xs p × Q)
  off_answer l Q apart law = (first, λ (off, q). last off q)
    where
      first : place_in xs p ≡ l → OffBorder xs p × Q
      first e = elim (located xs p halves) [
        | inl (off, tally) ↦ (off, law.0 (sym tally ∙ e))
        | inr (j, f, g) ↦ absurd (apart j (sym g ∙ e))
      ]

      last : OffBorder xs p → Q → place_in xs p ≡ l
      last off q = elim (located xs p halves) [
        | inl (_, tally) ↦ tally ∙ law.1 q
        | inr (j, f, g) ↦ not_both f.on (off j f.inside)
      ]

  -- inside: no edge has it, and the total is not 0
  pub zone_inside : (place ≡ Inside) ↔ (OffBorder xs p × (total_in xs p ≡ pos 0 → ⊥))
  unfolding place_said
  zone_inside = Iff.trans (answered_as Inside) (off_answer inside (total_in xs p ≡ pos 0 → ⊥) (λ k e. never (cc)) (off_inside tallied))

  -- outside: no edge has it, and the total is 0
  pub zone_outside : (place ≡ Outside) ↔ (OffBorder xs p × (total_in xs p ≡ pos 0))
  unfolding place_said
  zone_outside = Iff.trans (answered_as Outside) (off_answer outside (total_in xs p ≡ pos 0) (λ k e. never (cc)) (off_outside tallied))
