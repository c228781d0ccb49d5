-- What a judgement of a plan tells, and what tells it. In order: the zones, all answered or up to the first that is refused; the refusals before them.
-- Assumes nothing.
use mathlib.Core.Path.{◌≡◌, refl, sym, ap, ◌∙◌, subst}
use mathlib.Core.Bool.{Bool, true, false}
use mathlib.Core.List.{List, [], ◌∷◌}
use mathlib.Core.Logic.{inl, inr}
use Prim.Native.Nat.{ℕ, zero, suc, ◌+◌, ◌*◌, ◌≤◌, ◌<◌}
use native.Mathlib.Nat.{zero-add, add-zero}
use native.Mathlib.Omega.{arith}
use lib.Dec.{eqb}
use lib.ListN.{length, drop, get_or}
use lib.Ieee.{Float}
use borrow.Author.Tests.{eqb-true, eqb-false, ne_eqb, eq-eqb}
use Rattle.whole.proofs.Laws.Order.{lt_or_le}
use Rattle.ground.specs.Zone.{Lies}
use Rattle.refusal.specs.Outcome.{Outcome, answers, refuses, too_many, not_accepted, odd_length}
use Rattle.refusal.specs.Search.{passing_from}
use Rattle.refusal.proofs.Laws.Outcome.{never}
use Rattle.point.specs.declared.Point.{Point}
use Rattle.point.specs.Accepted.{Accepted}
use Rattle.geometry.specs.Zone.{zone_of}
use Rattle.geometry.proofs.Laws.Accepting.{accepting_refused, accepting_answered}
use Rattle.geometry.proofs.Laws.Calls.{refused_found, found_refused}
use Rattle.crease.specs.Plan.{most_zones, counted_in, zones_of, Verdict, passes, stops, beside, point_judged, zones_judged, judging_of}
use Rattle.crease.specs.Reasons.{zone_at, Counted, Answered, PlanRefusedAs, many, uncounted, point, zone}
use Rattle.crease.proofs.Laws.Plan.{judged_many, judged_uncounted, judged_point, judged_zones}

-- ---- the zones
pub length_zones : (counts : List ℕ) (corners : List Float) → length (zones_of counts corners) ≡ length counts
unfolding zones_of
length_zones [] corners = refl
length_zones (count ∷ counts) corners = ap suc (length_zones counts (drop (2 * count) corners))

-- the first n are answered
abbrev AllAnswered : List (List Float) → ℕ → Point → Type 0
AllAnswered zones n p = (i : ℕ) → i < n → Answered (get_or zones i []) p

module _ (p : Point) where
  zones_pass : (k : ℕ) (zones : List (List Float)) → zones_judged k zones p ≡ passes → AllAnswered zones (length zones) p
  unfolding zones_judged
  zones_pass k [] e = λ i l. let z : ⊥ = omega arith in absurd z
  zones_pass k (z ∷ zones) e = go (zone_of z p) refl (zones_pass (k + 1) zones) e
    where
      go : (o : Outcome Lies) → zone_of z p ≡ o → (zones_judged (k + 1) zones p ≡ passes → AllAnswered zones (length zones) p)
          → beside k o (zones_judged (k + 1) zones p) ≡ passes → (i : ℕ) → i < length (z ∷ zones) → Answered (get_or (z ∷ zones) i []) p
      go (answers place) h later e zero l = (place, h)
      go (answers place) h later e (suc i) l = later e i (omega arith)
      go (refuses number place) h later e i l = never (cc)

  pass_zones : (k : ℕ) (zones : List (List Float)) → AllAnswered zones (length zones) p → zones_judged k zones p ≡ passes
  unfolding zones_judged
  pass_zones k [] a = refl
  pass_zones k (z ∷ zones) a = rw (a 0 (omega arith)).1 (pass_zones (k + 1) zones (λ i l. a (suc i) (omega arith)))

  -- the first that is refused
  record FirstRefused (zones : List (List Float)) (i number place : ℕ) : Type 0 where
    within : i < length zones
    before : AllAnswered zones i p
    refused : zone_of (get_or zones i []) p ≡ refuses number place

  later_refused : (z : List Float) (zones : List (List Float)) (i number place : ℕ) → Answered z p → FirstRefused zones i number place
      → FirstRefused (z ∷ zones) (suc i) number place
  later_refused z zones i number place a f = record {
    within = omega (arith, f.within);
    before = before;
    refused = f.refused;
  }
    where
      before : (j : ℕ) → j < suc i → Answered (get_or (z ∷ zones) j []) p
      before zero l = a
      before (suc j) l = f.before j (omega arith)

  zones_stop : (k : ℕ) (zones : List (List Float)) (number place at : ℕ) → zones_judged k zones p ≡ stops number place at
      → (i : ℕ) × (at ≡ k + i) × FirstRefused zones i number place
  unfolding zones_judged
  zones_stop k [] number place at e = never (cc)
  zones_stop k (z ∷ zones) number place at e = go (zone_of z p) refl (zones_stop (k + 1) zones number place at) e
    where
      go : (o : Outcome Lies) → zone_of z p ≡ o
          → (zones_judged (k + 1) zones p ≡ stops number place at → (i : ℕ) × (at ≡ k + 1 + i) × FirstRefused zones i number place)
          → beside k o (zones_judged (k + 1) zones p) ≡ stops number place at → (i : ℕ) × (at ≡ k + i) × FirstRefused (z ∷ zones) i number place
      go (answers l) h later e =
          let (i, same, first) = later e in
          (suc i, omega arith, later_refused z zones i number place (l, h) first)
      go (refuses m q) h later e =
          let number_is : m ≡ number = cc in
          let place_is : q ≡ place = cc in
          let at_is : k ≡ at = cc in (
            0,
            omega (arith, at_is),
            record {
              within = omega arith;
              before = λ j l. let none : ⊥ = omega arith in absurd none;
              refused = h ∙ (λ t. refuses (number_is t) (place_is t));
            },
          )

  stop_zones : (k : ℕ) (zones : List (List Float)) (i number place : ℕ) → FirstRefused zones i number place
      → zones_judged k zones p ≡ stops number place (k + i)
  unfolding zones_judged
  stop_zones k [] i number place f = let z : ⊥ = omega (arith, f.within) in absurd z
  stop_zones k (z ∷ zones) zero number place f = rw f.refused (ap (stops number place) (sym (add-zero k)))
  stop_zones k (z ∷ zones) (suc i) number place f =
      let next : k + 1 + i ≡ k + suc i = omega arith in
      rw (f.before 0 (omega arith)).1 (stop_zones (k + 1) zones i number place (record {
        within = omega (arith, f.within);
        before = λ j l. f.before (suc j) (omega arith);
        refused = f.refused;
      }) ∙ ap (stops number place) next)

-- ---- the refusals before them
module _ (counts : List ℕ) (corners : List Float) (p : Point) where
  abbrev judgement : Verdict
  judgement = judging_of counts corners p

  module _ (c : Counted counts corners) where
    exact : eqb (length corners) (2 * counted_in counts) ≡ true
    exact = eq-eqb (length corners) (2 * counted_in counts) c.exact

    pub judged_accepted : Accepted p → judgement ≡ zones_judged 0 (zones_of counts corners) p
    unfolding passing_from
    judged_accepted a = judged_zones counts corners p c.few exact (rw (a.x, a.y))

  -- one of them, or the zones'
  split : (C : Type 0) → ((number place : ℕ) → PlanRefusedAs counts corners p number place 0 → judgement ≡ stops number place 0 → C)
      → (Counted counts corners → Accepted p → C) → C
  split C refused zones = elim (lt_or_le most_zones (length counts)) [
    | inl l ↦ refused too_many 0 (many l) (judged_many counts corners p l)
    | inr few ↦ go few (eqb (length corners) (2 * counted_in counts)) refl (point_judged p) refl
  ]
    where
      go : length counts ≤ most_zones → (t : Bool) → eqb (length corners) (2 * counted_in counts) ≡ t
          → (o : Outcome Unit) → point_judged p ≡ o → C
      go few false e o f =
          refused odd_length 0 (uncounted few (eqb-false (length corners) (2 * counted_in counts) e)) (judged_uncounted counts corners p few e)
      go few true e (refuses number place) f =
          let (is, first) = (accepting_refused (p.x ∷ p.y ∷ []) tt number place).0 f in
          let c : Counted counts corners = record { few = few; exact = eqb-true (length corners) (2 * counted_in counts) e } in
          refused number place (subst (λ (n : ℕ). PlanRefusedAs counts corners p n place 0) (sym is) (point c place first))
          (judged_point counts corners p few e f)
      go few true e (answers u) f =
          let all = accepting_answered (p.x ∷ p.y ∷ []) tt f in
          zones (record { few = few; exact = eqb-true (length corners) (2 * counted_in counts) e })
          (record { x = all 0 (omega arith); y = all 1 (omega arith) })

  -- not refused: as long as counted, the point accepted, and every zone answered
  pub judged_passes : judgement ≡ passes
      → Counted counts corners × Accepted p × AllAnswered (zones_of counts corners) (length (zones_of counts corners)) p
  judged_passes e =
      split _ (λ number place w h. let same : stops number place 0 ≡ passes = sym h ∙ e in never (cc))
      (λ c a. (c, a, zones_pass p 0 (zones_of counts corners) (sym (judged_accepted c a) ∙ e)))

  pub passes_judged : Counted counts corners → Accepted p → AllAnswered (zones_of counts corners) (length (zones_of counts corners)) p
      → judgement ≡ passes
  passes_judged c a all = judged_accepted c a ∙ pass_zones p 0 (zones_of counts corners) all

  -- refused
  as_told : (m q i number place at : ℕ) → stops m q i ≡ stops number place at → PlanRefusedAs counts corners p m q i
      → PlanRefusedAs counts corners p number place at
  as_told m q i number place at e w =
      let a : m ≡ number = cc in
      let b : q ≡ place = cc in
      let c : i ≡ at = cc in
      subst (λ (x : ℕ). PlanRefusedAs counts corners p x place at) a
      (subst (λ (x : ℕ). PlanRefusedAs counts corners p m x at) b (subst (PlanRefusedAs counts corners p m q) c w))

  pub refused_found_plan : (number place at : ℕ) → judgement ≡ stops number place at → PlanRefusedAs counts corners p number place at
  refused_found_plan number place at e =
      split _ (λ m q w h. as_told m q 0 number place at (sym h ∙ e) w)
      (λ c a.
      let (i, same, first) = zones_stop p 0 (zones_of counts corners) number place at (sym (judged_accepted c a) ∙ e) in
      let within : i < length counts = omega (arith, first.within, length_zones counts corners) in
      subst (PlanRefusedAs counts corners p number place) (sym (same ∙ zero-add i))
      (zone c a i within first.before number place (refused_found (zone_at counts corners i) p number place first.refused)))

  pub found_refused_plan : (number place at : ℕ) → PlanRefusedAs counts corners p number place at → judgement ≡ stops number place at
  found_refused_plan number place at (many l) = judged_many counts corners p l
  found_refused_plan number place at (uncounted few e) =
      judged_uncounted counts corners p few (ne_eqb (length corners) (2 * counted_in counts) e)
  found_refused_plan number place at (point c k first) =
      judged_point counts corners p c.few (exact c) ((accepting_refused (p.x ∷ p.y ∷ []) tt not_accepted k).1 (refl, first))
  found_refused_plan number place at (zone c a i l before m q w) =
      judged_accepted c a
      ∙ stop_zones p 0 (zones_of counts corners) i m q (record {
        within = omega (arith, length_zones counts corners);
        before = before;
        refused = found_refused (zone_at counts corners i) p m q w;
      })
      ∙ ap (stops m q) (zero-add i)
