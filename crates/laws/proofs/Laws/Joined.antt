-- Two zones that share an edge, or a chain of edges, and their joint outline, by what `zone` answers of the three: laws of whatever keeps its
-- promise. The corners count by what they are worth; each list begins anywhere and runs either way (`Joined` of `ground`). In order: on the
-- outline's border; on an edge that the two share; inside the outline, and outside it. Not here: the totals (`Joined` of `ground`). Assumes nothing.
use mathlib.Core.Path.{◌≡◌, sym, ap, ◌∙◌}
use mathlib.Core.List.{List}
use mathlib.Core.Logic.{◌⊎◌, ⊎_map}
use Prim.Native.Nat.{ℕ}
use lib.Ieee.{Float}
use Rattle.ground.specs.Parity.{Agreed, Small}
use Rattle.ground.specs.Listing.{place_in, Met, Joined, shared_edges}
use Rattle.ground.proofs.Laws.Odd.{small_agreed}
use Rattle.ground.proofs.Laws.Joined.{chain_border, joint_border, joined_inside, joined_kept, joined_outside}
use Rattle.point.specs.declared.Point.{Point}
use Rattle.point.specs.Spot.{spot_of}
use Rattle.geometry.specs.Zone.{corners_of, ZoneSays}
use Rattle.geometry.specs.Reasons.{total_in}
use Rattle.geometry.specs.declared.answer.Place.{Place}
use Rattle.geometry.specs.declared.answer.Place.TheVariants.{Outside, Border, Inside}
use Rattle.geometry.proofs.Laws.Calls.{place_inside, place_outside, place_border}
use Rattle.laws.proofs.Laws.Zones.{number, number_inside, number_outside, number_border, OffBorder, off_number, zone_number}
use Rattle.std.specs.Prelude.{Ok}

-- ---- the three zones: one, two, and the outline of both together
module _ (xs ys zs : List Float) (p : Point) (l m o : Place) (j : Joined (corners_of xs) (corners_of ys) (corners_of zs))
    (h : ZoneSays xs p (Ok l)) (k : ZoneSays ys p (Ok m)) (i : ZoneSays zs p (Ok o)) where
  one : number l ≡ place_in (corners_of xs) (spot_of p)
  one = zone_number xs p l h

  two : number m ≡ place_in (corners_of ys) (spot_of p)
  two = zone_number ys p m k

  outline : number o ≡ place_in (corners_of zs) (spot_of p)
  outline = zone_number zs p o i

  -- on the outline's border: on the border of one of the two
  pub zone_joint_border : (e : ℕ) → o ≡ Border e → ((n : ℕ) × (l ≡ Border n)) ⊎ ((n : ℕ) × (m ≡ Border n))
  zone_joint_border e b =
      ⊎_map (λ f. number_border l (one ∙ f)) (λ f. number_border m (two ∙ f))
      (joint_border j (spot_of p) (sym outline ∙ ap number b ∙ place_border e))

  -- on an edge that they share: on the border of both
  pub zone_chain_border : Met (shared_edges j) (spot_of p) → ((n : ℕ) × (l ≡ Border n)) × ((n : ℕ) × (m ≡ Border n))
  zone_chain_border t =
      let (f, g) = chain_border j (spot_of p) t in
      (number_border l (one ∙ f), number_border m (two ∙ g))

  module _ (off_one : OffBorder l) (off_two : OffBorder m) where
    -- inside the outline and on neither border: inside one of the two, or both
    pub zone_joined_inside : o ≡ Inside → (l ≡ Inside) ⊎ (m ≡ Inside)
    zone_joined_inside e =
        ⊎_map (λ f. number_inside l (one ∙ f)) (λ f. number_inside m (two ∙ f))
        (joined_inside j (spot_of p) (λ f. off_number l off_one (one ∙ f)) (λ f. off_number m off_two (two ∙ f))
        (sym outline ∙ ap number e ∙ place_inside))

    -- and where the three totals are odd or 0, so that the rule before said the same of all three: inside exactly one of the two
    pub zone_joined_kept : Agreed (total_in xs p) → Agreed (total_in ys p) → Agreed (total_in zs p)
        → o ≡ Inside → ((l ≡ Inside) × (m ≡ Outside)) ⊎ ((l ≡ Outside) × (m ≡ Inside))
    zone_joined_kept s t u e =
        ⊎_map (λ (f, g). (number_inside l (one ∙ f), number_outside m (two ∙ g)))
        (λ (f, g). (number_outside l (one ∙ f), number_inside m (two ∙ g)))
        (joined_kept j (spot_of p) (λ f. off_number l off_one (one ∙ f)) (λ f. off_number m off_two (two ∙ f)) s t u
        (sym outline ∙ ap number e ∙ place_inside))

    -- so where they are from -1 to 1
    pub zone_joined_once : Small (total_in xs p) → Small (total_in ys p) → Small (total_in zs p)
        → o ≡ Inside → ((l ≡ Inside) × (m ≡ Outside)) ⊎ ((l ≡ Outside) × (m ≡ Inside))
    zone_joined_once s t u =
        zone_joined_kept (small_agreed (total_in xs p) s) (small_agreed (total_in ys p) t) (small_agreed (total_in zs p) u)

    -- outside the outline and on neither border: in both or in neither
    pub zone_joined_outside : o ≡ Outside → ((l ≡ Inside) × (m ≡ Inside)) ⊎ ((l ≡ Outside) × (m ≡ Outside))
    zone_joined_outside e =
        ⊎_map (λ (f, g). (number_inside l (one ∙ f), number_inside m (two ∙ g)))
        (λ (f, g). (number_outside l (one ∙ f), number_outside m (two ∙ g)))
        (joined_outside j (spot_of p) (λ f. off_number l off_one (one ∙ f)) (λ f. off_number m off_two (two ∙ f))
        (sym outline ∙ ap number e ∙ place_outside))
