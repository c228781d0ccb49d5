-- What keeps the promise of `plan`. In order: the walk over all zones is judged as they are, and claims what holds; each refusal; the answer.
-- Not here: what the promise says (`Calls`). Assumes nothing.
use mathlib.Core.Path.{◌≡◌, refl, sym, ap, ◌∙◌, subst}
use mathlib.Core.Bool.{Bool, true, false}
use mathlib.Core.List.{List, [], ◌∷◌}
use Prim.Native.Nat.{ℕ, ◌+◌, ◌*◌, ◌≤◌, ◌<◌}
use lib.Dec.{eqb, leb}
use lib.ListN.{length}
use lib.Ieee.{Float}
use borrow.Author.Tests.{le-leb, lt-leb, eqb-true}
use Rattle.std.specs.Prelude.{Err, Ok, Result}
use Rattle.ground.specs.Zone.{Lies}
use Rattle.refusal.specs.Outcome.{Outcome, answers, refuses, too_many, odd_length, outcome}
use Rattle.refusal.specs.Judged.{require, also}
use Rattle.refusal.specs.declared.Refusal.{Refusal}
use Rattle.refusal.proofs.Laws.Judged.{require_answered}
use Rattle.refusal.proofs.Laws.Outcome.{never, no_refusal}
use Rattle.point.specs.declared.Point.{Point}
use Rattle.geometry.specs.Zone.{zone_of}
use Rattle.geometry.proofs.Laws.Answered.{zone_answered}
use Rattle.crease.specs.Plan.{most_zones, counted_in, zones_of, places_in, Verdict, passes, stops, beside, point_judged, zones_judged, judging_of, verdict_said, Tells, PlanSays}
use Rattle.crease.specs.Parts.{lists_judged, with_zone, claim_from, Found, claims, halts, found, with_next, goes_on, folded_from}
use Rattle.crease.specs.Claim.{Holds}
use Rattle.crease.specs.declared.answer.Claim.{Claim}
use Rattle.crease.specs.declared.answer.Claim.TheVariants.{None}
use Rattle.crease.specs.declared.answer.ZoneRefusal.{ZoneRefusal}
use Rattle.crease.proofs.Laws.Claims.{claim_holds}

-- ---- the walk over all zones
verdict_found : Found → Verdict
verdict_found (claims claim) = passes
verdict_found (halts number place zone) = stops number place zone

said_found : (r : Result Claim ZoneRefusal) → verdict_said r ≡ verdict_found (found r)
unfolding verdict_found
said_found (Ok claim) = refl
said_found (Err r) = refl

folded_judged : (k : ℕ) (claim : Claim) (zones : List (List Float)) (p : Point) → verdict_found (folded_from k claim zones p) ≡ zones_judged k zones p
unfolding folded_from zones_judged verdict_found
folded_judged k claim [] p = refl
folded_judged k claim (zone ∷ zones) p = go (zone_of zone p) (λ more. folded_judged (k + 1) more zones p)
  where
    go : (o : Outcome Lies) → ((more : Claim) → verdict_found (folded_from (k + 1) more zones p) ≡ zones_judged (k + 1) zones p)
        → verdict_found (goes_on (with_next claim k o) (λ more. folded_from (k + 1) more zones p)) ≡ beside k o (zones_judged (k + 1) zones p)
    go (answers place) ih = ih (with_zone claim k place)
    go (refuses number place) ih = refl

folded_claims : (k : ℕ) (claim : Claim) (zones : List (List Float)) (p : Point) (all : Claim) → folded_from k claim zones p ≡ claims all
    → claim_from k claim (places_in zones p) ≡ all
unfolding folded_from
folded_claims k claim [] p all e = cc
folded_claims k claim (zone ∷ zones) p all e = go (zone_of zone p) refl (λ more. folded_claims (k + 1) more zones p all) e
  where
    go : (o : Outcome Lies) → zone_of zone p ≡ o
        → ((more : Claim) → folded_from (k + 1) more zones p ≡ claims all → claim_from (k + 1) more (places_in zones p) ≡ all)
        → goes_on (with_next claim k o) (λ more. folded_from (k + 1) more zones p) ≡ claims all
        → claim_from k claim (places_in (zone ∷ zones) p) ≡ all
    go (answers place) h ih e =
        ap (λ (l : Lies). claim_from (k + 1) (with_zone claim k l) (places_in zones p)) (zone_answered zone p place h).place
        ∙ ih (with_zone claim k place) e
    go (refuses number place) h ih e = never (cc)

folded_tells : (zones : List (List Float)) (p : Point) (r : Result Claim ZoneRefusal) → found r ≡ folded_from 0 None zones p
    → Tells r (places_in zones p)
folded_tells zones p (Ok claim) e =
    subst (λ (c : Claim). Holds c (places_in zones p)) (folded_claims 0 None zones p claim (sym e)) (claim_holds (places_in zones p))
folded_tells zones p (Err r) e = tt

-- ---- the refusals, one after the other
module _ (counts : List ℕ) (corners : List Float) (p : Point) where
  pub judged_many : most_zones < length counts → judging_of counts corners p ≡ stops too_many 0 0
  unfolding judging_of
  judged_many l = rw (lt-leb (length counts) most_zones l) refl

  module _ (few : length counts ≤ most_zones) where
    pub judged_uncounted : eqb (length corners) (2 * counted_in counts) ≡ false → judging_of counts corners p ≡ stops odd_length 0 0
    unfolding judging_of
    judged_uncounted e = rw (le-leb (length counts) most_zones few, e) refl

    module _ (exact : eqb (length corners) (2 * counted_in counts) ≡ true) where
      pub judged_point : {number place : ℕ} → point_judged p ≡ refuses number place → judging_of counts corners p ≡ stops number place 0
      unfolding judging_of
      judged_point e = rw (le-leb (length counts) most_zones few, exact, e) refl

      pub judged_zones : point_judged p ≡ answers tt → judging_of counts corners p ≡ zones_judged 0 (zones_of counts corners) p
      unfolding judging_of
      judged_zones e = rw (le-leb (length counts) most_zones few, exact, e) refl

  -- ---- what keeps the promise
  abbrev of_zones : Verdict
  of_zones = zones_judged 0 (zones_of counts corners) p

  -- the lists' refusals first, then the point's and the zones'
  after_lists : judging_of counts corners p ≡ beside 0 (lists_judged counts corners) (beside 0 (point_judged p) of_zones)
  unfolding judging_of
  after_lists = go (leb (length counts) most_zones) _ _
    where
      go : (t : Bool) (next : Outcome Unit) (last : Verdict)
          → beside 0 (require t too_many 0) (beside 0 next last) ≡ beside 0 (also (require t too_many 0) (λ _. next)) last
      go true next last = refl
      go false next last = refl

  pub lists_refused : (f : Refusal) → outcome (λ u. u) (Err f) ≡ lists_judged counts corners
      → PlanSays counts corners p (Err (record { refusal = f; zone = 0 }))
  lists_refused f e = record {
    judged = ap (λ (o : Outcome Unit). beside 0 o (beside 0 (point_judged p) of_zones)) e ∙ sym after_lists;
    claim = tt;
  }

  module _ (passed : answers tt ≡ lists_judged counts corners) where
    after_point : judging_of counts corners p ≡ beside 0 (point_judged p) of_zones
    after_point =
        after_lists ∙ ap (λ (o : Outcome Unit). beside 0 o (beside 0 (point_judged p) of_zones)) (sym passed)

    pub lists_counted : length corners ≡ 2 * counted_in counts
    lists_counted =
        let (_, later) = require_answered (leb (length counts) most_zones) too_many 0 _ (sym passed) in
        eqb-true _ _ (go _ later)
      where
        go : (t : Bool) → require t odd_length 0 ≡ answers tt → t ≡ true
        go true e = refl
        go false e = no_refusal e

    pub point_refused : (f : Refusal) → outcome (λ u. u) (Err f) ≡ point_judged p
        → PlanSays counts corners p (Err (record { refusal = f; zone = 0 }))
    point_refused f e = record {
      judged = ap (λ (o : Outcome Unit). beside 0 o of_zones) e ∙ sym after_point;
      claim = tt;
    }

    pub folded_says : (r : Result Claim ZoneRefusal) → answers tt ≡ point_judged p
        → found r ≡ folded_from 0 None (zones_of counts corners) p → PlanSays counts corners p r
    folded_says r accepted e = record {
      judged = said_found r ∙ ap verdict_found e ∙ folded_judged 0 None (zones_of counts corners) p
          ∙ ap (λ (o : Outcome Unit). beside 0 o of_zones) accepted ∙ sym after_point;
      claim = folded_tells (zones_of counts corners) p r e;
    }
