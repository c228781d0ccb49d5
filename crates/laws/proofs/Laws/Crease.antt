-- What `plan` answers, for the reel: laws of whatever keeps its promise. In order: the zones of an accepted plan in another order; a release on an edge
-- of a zone, and on one that two zones share; a release that is alone. Not here: which plans are refused, and what each claim says (`Calls` of
-- `crease`). Assumes nothing.
use mathlib.Core.Path.{◌≡◌, refl, sym, ap, ap₂, ◌∙◌, subst}
use mathlib.Core.Bool.{true}
use mathlib.Core.List.Permᴰ
use mathlib.Core.List.{List, [], ◌∷◌, ◌++◌, Permᴰ}
use mathlib.Core.Logic.{◌⊎◌, inl, inr}
use Prim.Native.Nat.{ℕ, zero, suc, ◌*◌, ◌/◌, ◌≤◌, ◌<◌}
use native.Mathlib.Omega.{arith}
use lib.ListN.{length, take, drop, get_or, length-append, length-drop, take-append-drop}
use lib.Seq.{take_at, drop_at, length-take-le}
use lib.Ieee.{Float}
use Rattle.ground.specs.Edge.{Edge, on_edge}
use Rattle.ground.specs.Zone.{Lies, outside, border, inside}
use Rattle.ground.specs.Listing.{turned_round}
use Rattle.ground.proofs.Laws.Edges.{on_round}
use Rattle.refusal.specs.Outcome.{answers}
use Rattle.refusal.proofs.Laws.Outcome.{never, no_refusal}
use Rattle.point.specs.declared.Point.{Point}
use Rattle.point.specs.Spot.{spot_of}
use Rattle.geometry.specs.Zone.{place_in, place_said, zone_said, ZoneSays}
use Rattle.geometry.specs.declared.answer.Place.{Place}
use Rattle.geometry.specs.declared.answer.Place.TheVariants.{Outside, Border as PlaceBorder, Inside}
use Rattle.geometry.proofs.Laws.Answered.{zone_answered}
use Rattle.crease.specs.Claim.{Holds}
use Rattle.crease.specs.Plan.{counted_in, zones_of, places_in, PlanSays}
use Rattle.crease.specs.Reasons.{zone_at, Answered, word_of}
use Rattle.crease.specs.declared.answer.Claim.{Claim}
use Rattle.crease.specs.declared.answer.Claim.TheVariants.{Border, Alone}
use Rattle.crease.proofs.Laws.Words.{word_permuted}
use Rattle.crease.proofs.Laws.Told.{length_zones}
use Rattle.crease.proofs.Laws.Calls.{plan_counted, plan_accepted, plan_zone, plan_answers, plan_on, plan_in, plan_iff, plan_border}
use Rattle.laws.specs.Plans.{counts_of, joined_of, EdgeOf, SharedEdge}
use Rattle.laws.proofs.Laws.Zones.{zone_edge, number_border}
use Rattle.crease.specs.declared.answer.ZoneRefusal.{ZoneRefusal}
use Rattle.refusal.specs.declared.Refusal.{Refusal}
use Rattle.std.specs.Prelude.{Err, Ok, Result}

-- ---- zones that are answered, in whatever order
abbrev Every : List (List Float) → Point → Type 0
Every [] p = Unit
Every (zone ∷ zones) p = Answered zone p × Every zones p

module _ (p : Point) where
  every : (zones : List (List Float)) → ((k : ℕ) → k < length zones → Answered (get_or zones k []) p) → Every zones p
  every [] h = tt
  every (zone ∷ zones) h = (h 0 (omega arith), every zones (λ k l. h (suc k) (omega arith)))

  each : (zones : List (List Float)) → Every zones p → (k : ℕ) → k < length zones → Answered (get_or zones k []) p
  each [] h k l = let z : ⊥ = omega arith in absurd z
  each (zone ∷ zones) h zero l = h.0
  each (zone ∷ zones) h (suc k) l = each zones h.1 k (omega arith)

  every_permuted : (zones others : List (List Float)) → Permᴰ zones others → Every zones p → Every others p
  every_permuted zones others Permᴰ.nil h = tt
  every_permuted zones others (Permᴰ.cons e d) h =
      (subst (λ (z : List Float). Answered z p) e h.0, every_permuted _ _ d h.1)
  every_permuted zones others (Permᴰ.swap e f) h =
      (subst (λ (z : List Float). Answered z p) f h.1.0, (subst (λ (z : List Float). Answered z p) e h.0, h.1.1))
  every_permuted zones others (Permᴰ.trans d e) h = every_permuted _ _ e (every_permuted _ _ d h)

  -- an answered zone has two doubles for each corner
  even : (zone : List Float) → Answered zone p → length zone ≡ 2 * (length zone / 2)
  even zone (l, e) = omega (arith, (zone_answered zone p l e).even)

  -- ---- zones put together, and taken apart again
  joined_length : (zones : List (List Float)) → Every zones p → length (joined_of zones) ≡ 2 * counted_in (counts_of zones)
  joined_length [] h = refl
  joined_length (zone ∷ zones) h =
      omega (arith, length-append zone (joined_of zones), joined_length zones h.1, even zone h.0)

  joined_zones : (zones : List (List Float)) → Every zones p → zones_of (counts_of zones) (joined_of zones) ≡ zones
  unfolding zones_of
  joined_zones [] h = refl
  joined_zones (zone ∷ zones) h =
      let size = even zone h.0 in
      ap₂ (λ (z : List Float) (zs : List (List Float)). z ∷ zs) (take_at zone (joined_of zones) (2 * (length zone / 2)) size)
      (ap (zones_of (counts_of zones)) (drop_at zone (joined_of zones) (2 * (length zone / 2)) size) ∙ joined_zones zones h.1)

length_permuted : (zones others : List (List Float)) → Permᴰ zones others → length zones ≡ length others
length_permuted zones others Permᴰ.nil = refl
length_permuted zones others (Permᴰ.cons e d) = ap suc (length_permuted _ _ d)
length_permuted zones others (Permᴰ.swap e f) = refl
length_permuted zones others (Permᴰ.trans d e) = length_permuted _ _ d ∙ length_permuted _ _ e

counts_length : (zones : List (List Float)) → length (counts_of zones) ≡ length zones
counts_length [] = refl
counts_length (zone ∷ zones) = ap suc (counts_length zones)

apart_joined : (counts : List ℕ) (corners : List Float) → length corners ≡ 2 * counted_in counts
    → (counts_of (zones_of counts corners) ≡ counts) × (joined_of (zones_of counts corners) ≡ corners)
unfolding zones_of
apart_joined [] [] e = (refl, refl)
apart_joined [] (x ∷ corners) e = let z : ⊥ = omega arith in absurd z
apart_joined (count ∷ counts) corners e =
    let fits = length-take-le (2 * count) corners (omega arith) in
    let half : length (take (2 * count) corners) / 2 ≡ count = omega arith in
    let (i, j) = apart_joined counts (drop (2 * count) corners) (omega (arith, length-drop (2 * count) corners)) in (
      ap₂ (λ (n : ℕ) (ns : List ℕ). n ∷ ns) half i,
      ap (λ (xs : List Float). take (2 * count) corners ++ xs) j ∙ take-append-drop (2 * count) corners,
    )

-- ---- an accepted plan
module _ (counts : List ℕ) (corners : List Float) (p : Point) (claim : Claim) (says : PlanSays counts corners p (Ok claim)) where
  abbrev zones : List (List Float)
  zones = zones_of counts corners

  all : Every zones p
  all = every p zones (λ k l. plan_zone counts corners p claim says k (omega (arith, length_zones counts corners)))

  -- its zones put together in any other order: answered, with the same of the four
  pub plan_order : (others : List (List Float)) (r : Result Claim ZoneRefusal) → Permᴰ zones others → PlanSays (counts_of others) (joined_of others) p r
      → (other : Claim) × (r ≡ Ok other) × (word_of other ≡ word_of claim)
  plan_order others r perm h =
      let good = every_permuted p zones others perm all in
      let apart = joined_zones p others good in
      let size : length (counts_of others) ≡ length counts = counts_length others ∙ sym (length_permuted zones others perm) ∙ length_zones counts corners in
      let (other, e) = plan_answers (counts_of others) (joined_of others) p r
      (record { few = omega (arith, (plan_counted counts corners p claim says).few); exact = joined_length p others good })
      (plan_accepted counts corners p claim says)
      (λ k l. subst (λ (zs : List (List Float)). Answered (get_or zs k []) p) (sym apart) (each p others good k (omega (arith, counts_length others)))) h in (
        other,
        e,
        word_permuted (λ zone. place_in zone p) others zones (Permᴰ.symm perm) other claim
            (subst (λ (zs : List (List Float)). Holds other (places_in zs p)) apart (subst (PlanSays (counts_of others) (joined_of others) p) e h).claim)
            says.claim,
      )

  -- so the order of its own zones is one of them
  pub plan_joined : (counts_of zones ≡ counts) × (joined_of zones ≡ corners)
  plan_joined = apart_joined counts corners (plan_counted counts corners p claim says).exact

  -- ---- what `zone` answers of zone k
  placed : (l : Lies) → (place : Place) × (l ≡ place_said place)
  unfolding place_said
  placed outside = (Outside, refl)
  placed (border k) = (PlaceBorder k, refl)
  placed inside = (Inside, refl)

  zone_placed : (k : ℕ) → k < length counts → (place : Place) × ZoneSays (zone_at counts corners k) p (Ok place)
  unfolding zone_said
  zone_placed k l =
      let (lies, e) = plan_zone counts corners p claim says k l in
      let (place, f) = placed lies in
      (place, sym (e ∙ ap answers f))

  -- on an edge of zone k: border, with a zone not above k
  pub plan_edge : (k : ℕ) → k < length counts → (e : Edge) → EdgeOf counts corners k e → on_edge e (spot_of p) ≡ true
      → (j : ℕ) × (claim ≡ Border j) × (j ≤ k)
  plan_edge k l e listed on =
      let (place, zone) = zone_placed k l in
      let (edge, b) = number_border place (zone_edge (zone_at counts corners k) p place e listed on zone) in
      plan_border counts corners p claim says k
      ((plan_on counts corners p claim says k).1 (edge, subst (λ (m : Place). ZoneSays (zone_at counts corners k) p (Ok m)) b zone))

  -- on an edge that zones j and k share, whichever way each runs and whichever corner is first: border, with a zone above neither, and never alone
  pub plan_shared_edge : (j k : ℕ) → j < length counts → k < length counts → (e : Edge) → SharedEdge counts corners j k e
      → on_edge e (spot_of p) ≡ true → ((i : ℕ) × (claim ≡ Border i) × (i ≤ j) × (i ≤ k)) × ((i : ℕ) → ¬ (claim ≡ Alone i))
  plan_shared_edge j k l m e (listed, other) on =
      let (i, b, least) = plan_edge j l e listed on in
      let (h, c, less) = second other in
      let same : Border i ≡ Border h = sym b ∙ c in
      let number : i ≡ h = cc in
      ((i, b, least, omega arith), λ n a. let no : Border i ≡ Alone n = sym b ∙ a in never (cc))
    where
      second : EdgeOf counts corners k e ⊎ EdgeOf counts corners k (turned_round e) → (i : ℕ) × (claim ≡ Border i) × (i ≤ k)
      second (inl listed) = plan_edge k m e listed on
      second (inr listed) = plan_edge k m (turned_round e) listed (on_round e (spot_of p) ∙ on)

  -- alone in zone k: `zone` answers inside of it, and outside of every other zone of the plan
  pub plan_alone : (k : ℕ) → claim ≡ Alone k → ZoneSays (zone_at counts corners k) p (Ok Inside)
      × ((i : ℕ) → i < length counts → ¬ (i ≡ k) → (z : Result Place Refusal) → ZoneSays (zone_at counts corners i) p z → z ≡ Ok Outside)
  unfolding zone_said
  plan_alone k e = ((plan_in counts corners p claim says k).0 alone.1, λ i l apart z. go i l apart z)
    where
      alone : Holds (Alone k) (places_in zones p)
      alone = (plan_iff counts corners p claim says (Alone k)).0 e

      go : (i : ℕ) → i < length counts → ¬ (i ≡ k) → (z : Result Place Refusal) → ZoneSays (zone_at counts corners i) p z → z ≡ Ok Outside
      go i l apart (Ok Outside) zone = refl
      go i l apart (Ok (PlaceBorder edge)) zone = absurd (alone.0 i ((plan_on counts corners p claim says i).1 (edge, zone)))
      go i l apart (Ok Inside) zone = absurd (apart (alone.2 i ((plan_in counts corners p claim says i).1 zone)))
      go i l apart (Err f) zone = no_refusal (zone ∙ (plan_zone counts corners p claim says i l).1)
