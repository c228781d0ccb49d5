-- The demands, of whatever keeps the promise of `plan`: nothing here speaks of how it works. In order: which calls are refused, with what number, place
-- and zone, and which are answered; an accepted plan, zone by zone; its claim holds, and no other; the lowest zones; no two results satisfy the
-- promise. Assumes nothing.
use mathlib.Core.Path.{◌≡◌, refl, sym, ap, ◌∙◌, subst}
use mathlib.Core.List.{List, [], ◌∷◌}
use mathlib.Core.Logic.{◌⊎◌, inl, inr, ◌↔◌}
use Prim.Native.Nat.{ℕ, zero, suc, ◌≤◌, ◌<◌}
use native.Mathlib.Omega.{arith}
use lib.ListN.{length, get_or, length-map, get_or-eq_default}
use lib.Ieee.{Float}
use Rattle.std.specs.Prelude.{Err, Ok, Result}
use Rattle.whole.proofs.Laws.Order.{lt_or_le}
use Rattle.ground.specs.Zone.{Lies, outside, border, inside, place_number}
use Rattle.refusal.specs.Outcome.{answers, Fixes, kind_number}
use Rattle.refusal.proofs.Laws.Outcome.{never, no_refusal}
use Rattle.refusal.specs.declared.Refusal.{Refusal}
use Rattle.refusal.proofs.Laws.Outcome.{refusal_once}
use Rattle.point.specs.declared.Point.{Point}
use Rattle.point.specs.Accepted.{Accepted}
use Rattle.geometry.specs.Zone.{place_in, place_said, zone_said, zone_of, ZoneSays}
use Rattle.geometry.specs.Reasons.{few}
use Rattle.geometry.specs.declared.answer.Place.TheVariants.{Border as PlaceBorder, Inside as PlaceInside}
use Rattle.geometry.proofs.Laws.Answered.{zone_answered}
use Rattle.geometry.proofs.Laws.Calls.{found_refused}
use Rattle.crease.specs.Claim.{On, In, Holds}
use Rattle.crease.specs.Plan.{zones_of, places_in, passes, stops, verdict_said, FromSays, PlanSays}
use Rattle.crease.specs.Reasons.{zone_at, Counted, Answered, PlanRefusedAs}
use Rattle.crease.specs.declared.answer.Pair.{Pair}
use Rattle.crease.specs.declared.answer.Claim.{Claim}
use Rattle.crease.specs.declared.answer.Claim.TheVariants.{Border, None, Alone, Shared}
use Rattle.crease.specs.declared.answer.ZoneRefusal.{ZoneRefusal}
use Rattle.crease.proofs.Laws.Claims.{within, holds_once}
use Rattle.crease.proofs.Laws.Told.{length_zones, judged_passes, passes_judged, refused_found_plan, found_refused_plan}

-- ---- which plans are refused: 1, 5, the point's 3, then as the first refused zone is, with its number
zone_refusal_once : (f g : ZoneRefusal) → stops (kind_number f.refusal.kind) f.refusal.place f.zone ≡ stops (kind_number g.refusal.kind) g.refusal.place g.zone → f ≡ g
zone_refusal_once f g e =
    let number : kind_number f.refusal.kind ≡ kind_number g.refusal.kind = cc in
    let place : f.refusal.place ≡ g.refusal.place = cc in
    let refusal : f.refusal ≡ g.refusal = refusal_once _ _ number place in
    let zone : f.zone ≡ g.zone = cc in
    λ i. record { refusal = refusal i; zone = zone i }

module _ (counts : List ℕ) (corners : List Float) (p : Point) where
  pub plan_refused : (r : Result Claim ZoneRefusal) → PlanSays counts corners p r
      → (f : ZoneRefusal) → (r ≡ Err f) ↔ PlanRefusedAs counts corners p (kind_number f.refusal.kind) f.refusal.place f.zone
  plan_refused r says f = (
    λ e. refused_found_plan counts corners p (kind_number f.refusal.kind) f.refusal.place f.zone (sym says.judged ∙ ap verdict_said e),
    λ w. only r (says.judged ∙ found_refused_plan counts corners p (kind_number f.refusal.kind) f.refusal.place f.zone w),
  )
    where
      only : (r : Result Claim ZoneRefusal) → verdict_said r ≡ stops (kind_number f.refusal.kind) f.refusal.place f.zone → r ≡ Err f
      only (Ok claim) e = never (cc)
      only (Err g) e = ap Err (zone_refusal_once g f e)

  -- a plan that is as long as counted, of zones that are answered, is answered for every accepted release
  pub plan_answers : (r : Result Claim ZoneRefusal) → Counted counts corners → Accepted p → ((k : ℕ) → k < length counts → Answered (zone_at counts corners k) p)
      → PlanSays counts corners p r → (claim : Claim) × (r ≡ Ok claim)
  plan_answers r c a all says = only r (says.judged ∙ passes_judged counts corners p c a (λ k l. all k (omega (arith, length_zones counts corners))))
    where
      only : (r : Result Claim ZoneRefusal) → verdict_said r ≡ passes → (claim : Claim) × (r ≡ Ok claim)
      only (Ok claim) e = (claim, refl)
      only (Err f) e = never (cc)

-- ---- an accepted plan
module _ (counts : List ℕ) (corners : List Float) (p : Point) (claim : Claim) (says : PlanSays counts corners p (Ok claim)) where
  abbrev pub places : List Lies
  places = places_in (zones_of counts corners) p

  told : Counted counts corners × Accepted p × ((i : ℕ) → i < length (zones_of counts corners) → Answered (zone_at counts corners i) p)
  told = judged_passes counts corners p (sym says.judged)

  pub plan_counted : Counted counts corners
  plan_counted = told.0

  pub plan_accepted : Accepted p
  plan_accepted = told.1

  -- every zone is answered
  pub plan_zone : (k : ℕ) → k < length counts → Answered (zone_at counts corners k) p
  plan_zone k l = told.2 k (omega (arith, length_zones counts corners))

  -- ---- its places are what `zone` answers
  place_at : (zones : List (List Float)) (k : ℕ) → k < length zones → get_or (places_in zones p) k outside ≡ place_in (get_or zones k []) p
  place_at [] k l = let z : ⊥ = omega arith in absurd z
  place_at (zone ∷ zones) zero l = refl
  place_at (zone ∷ zones) (suc k) l = place_at zones k (omega arith)

  -- no zone stands beyond the last: a list of no corners is refused
  answered_within : (k : ℕ) → Answered (zone_at counts corners k) p → k < length (zones_of counts corners)
  answered_within k (l, e) = elim (lt_or_le k (length (zones_of counts corners))) [
    | inl h ↦ h
    | inr h ↦
        let empty : zone_of [] p ≡ answers l = ap (λ (z : List Float). zone_of z p) (sym (get_or-eq_default (zones_of counts corners) [] h)) ∙ e in
        no_refusal (sym (found_refused [] p 4 0 (few refl (omega arith))) ∙ empty)
  ]

  place_told : (k : ℕ) (l : Lies) → zone_of (zone_at counts corners k) p ≡ answers l → get_or places k outside ≡ l
  place_told k l e = place_at (zones_of counts corners) k (answered_within k (l, e)) ∙ (zone_answered (zone_at counts corners k) p l e).place

  told_place : (k m : ℕ) → place_number (get_or places k outside) ≡ m → 0 < m → zone_of (zone_at counts corners k) p ≡ answers (get_or places k outside)
  told_place k m h some =
      let (l, e) = told.2 k (omega (arith, within places k m h some, length-map (zones_of counts corners) (λ zone. place_in zone p))) in
      e ∙ ap answers (sym (place_told k l e))

  is_border : (l : Lies) → place_number l ≡ 1 → (e : ℕ) × (l ≡ border e)
  is_border outside e = never (cc)
  is_border (border k) e = (k, refl)
  is_border inside e = let z : ⊥ = omega arith in absurd z

  is_inside_lem : (l : Lies) → place_number l ≡ 2 → l ≡ inside
  is_inside_lem outside e = let z : ⊥ = omega arith in absurd z
  is_inside_lem (border k) e = let z : ⊥ = omega arith in absurd z
  is_inside_lem inside e = refl

  -- on the border of zone k: `zone` answers border of its corners
  pub plan_on : (k : ℕ) → On places k ↔ ((edge : ℕ) × ZoneSays (zone_at counts corners k) p (Ok (PlaceBorder edge)))
  unfolding zone_said place_said
  plan_on k = (
    λ on. let (edge, e) = is_border (get_or places k outside) on in (edge, ap answers (sym e) ∙ sym (told_place k 1 on (omega arith))),
    λ (edge, zone). ap place_number (place_told k (border edge) (sym zone)),
  )

  -- inside zone k
  pub plan_in : (k : ℕ) → In places k ↔ ZoneSays (zone_at counts corners k) p (Ok PlaceInside)
  unfolding zone_said place_said
  plan_in k = (
    λ has. ap answers (sym (is_inside_lem (get_or places k outside) has)) ∙ sym (told_place k 2 has (omega arith)),
    λ zone. ap place_number (place_told k inside (sym zone)),
  )

  -- ---- the claim holds, and no other
  pub plan_iff : (other : Claim) → (claim ≡ other) ↔ Holds other places
  plan_iff other = (
    λ e. subst (λ (c : Claim). Holds c places) e says.claim,
    λ h. holds_once places claim other says.claim h,
  )

  -- a border comes before all else: on that of some zone, the lowest such zone is answered
  pub plan_border : (k : ℕ) → On places k → (j : ℕ) × (claim ≡ Border j) × (j ≤ k)
  plan_border k on = go claim says.claim
    where
      go : (c : Claim) → Holds c places → (j : ℕ) × (c ≡ Border j) × (j ≤ k)
      go (Border j) (_, first) = (j, refl, elim (lt_or_le k j) [ inl l ↦ absurd (first k l on) | inr l ↦ l ])
      go None (off, _) = absurd (off k on)
      go (Alone j) h = absurd (h.0 k on)
      go (Shared both) h = absurd (h.0 k on)

  -- shared by the two lowest: no zone that has it inside is below the first, and none but that below the second
  pub plan_lowest : (both : Pair) → claim ≡ Shared both → (k : ℕ) → In places k → (k ≡ both.first) ⊎ ((both.second ≤ k) × (both.first < k))
  plan_lowest both e k has =
      let (_, _, _, less, only) = (plan_iff (Shared both)).0 e in
      elim (lt_or_le k both.second) [ inl l ↦ inl (only k has l) | inr l ↦ inr (l, omega arith) ]

-- an empty plan claims nothing
pub plan_empty : (p : Point) (r : Result Claim ZoneRefusal) → Accepted p → PlanSays [] [] p r → r ≡ Ok None
unfolding zones_of
plan_empty p r a says =
    let (claim, e) = plan_answers [] [] p r (record { few = omega arith; exact = refl }) a (λ k l. let z : ⊥ = omega arith in absurd z) says in
    e ∙ ap Ok ((plan_iff [] [] p claim (subst (PlanSays [] [] p) e says) None).1 (λ k on. never (cc), λ k has. never (cc)))

-- ---- no two results satisfy the promise
pub from_fixed : (refusal : Refusal) → Fixes (FromSays refusal)
from_fixed refusal a b p q = p ∙ sym q

pub plan_fixed : (counts : List ℕ) (corners : List Float) (p : Point) → Fixes (PlanSays counts corners p)
plan_fixed counts corners p a b h g = go a b h g (h.judged ∙ sym g.judged)
  where
    go : (a b : Result Claim ZoneRefusal) → PlanSays counts corners p a → PlanSays counts corners p b → verdict_said a ≡ verdict_said b → a ≡ b
    go (Ok c) (Ok d) h g e = ap Ok (holds_once (places_in (zones_of counts corners) p) c d h.claim g.claim)
    go (Ok c) (Err f) h g e = never (cc)
    go (Err f) (Ok d) h g e = never (cc)
    go (Err f) (Err k) h g e = ap Err (zone_refusal_once f k e)
