-- What `zone` answers beside what it answered by odd or even: laws of whatever keeps its promise. In order: the two are the same exactly on the
-- border, and where the total is odd or 0; so where it is from -1 to 1; so everywhere for three corners, and for a strictly convex zone.
-- Assumes nothing.
use mathlib.Core.Path.{◌≡◌, sym, ap, ◌∙◌, subst}
use mathlib.Core.List.{List, [], ◌∷◌}
use mathlib.Core.Logic.{◌⊎◌, ⊎_map, ◌↔◌}
use Prim.Native.Nat.{ℕ}
use lib.Ieee.{Float}
use Rattle.ground.specs.Plane.{Spot}
use Rattle.ground.specs.Edge.{edges_of}
use Rattle.ground.specs.Zone.{place_of}
use Rattle.ground.specs.Parity.{place_by_parity, Agreed, Small}
use Rattle.ground.specs.Convex.{Convex}
use Rattle.ground.proofs.Laws.Tally.{border_met}
use Rattle.ground.proofs.Laws.Parity.{parity_place, small_place, triangle_parity}
use Rattle.ground.proofs.Laws.Convex.{convex_parity}
use Rattle.point.specs.declared.Point.{Point}
use Rattle.point.specs.Spot.{spot_of}
use Rattle.geometry.specs.Zone.{corners_of, place_said, ZoneSays}
use Rattle.geometry.specs.Reasons.{total_in}
use Rattle.geometry.specs.declared.answer.Place.{Place}
use Rattle.geometry.specs.declared.answer.Place.TheVariants.{Border}
use Rattle.geometry.proofs.Laws.Calls.{zone_lies, place_border}
use Rattle.laws.specs.Parity.{odd_or_even}
use Rattle.laws.proofs.Laws.Zones.{number, number_border, zone_number}
use Rattle.std.specs.Prelude.{Ok}

module _ (xs : List Float) (p : Point) (l : Place) (h : ZoneSays xs p (Ok l)) where
  -- the same answer as before exactly on the border, and where the total is odd or 0
  pub zone_parity : (odd_or_even xs p ≡ place_said l) ↔ (((k : ℕ) × (l ≡ Border k)) ⊎ Agreed (total_in xs p))
  zone_parity =
      let law = parity_place (edges_of (corners_of xs)) (spot_of p) in
      let met = border_met (edges_of (corners_of xs)) (spot_of p) in (
        λ e.
            ⊎_map (λ m. number_border l (zone_number xs p l h ∙ met.1 m)) (λ k. k) (law.0 (e ∙ sym (zone_lies xs p l h))),
        λ k.
            law.1 (⊎_map (λ (n, b). met.0 (sym (zone_number xs p l h) ∙ ap number b ∙ place_border n)) (λ t. t) k) ∙ zone_lies xs p l h,
      )

  -- from -1 to 1: the same answer
  pub zone_small_parity : Small (total_in xs p) → odd_or_even xs p ≡ place_said l
  zone_small_parity s = small_place (edges_of (corners_of xs)) (spot_of p) s ∙ zone_lies xs p l h

  -- three corners, on one line too
  pub zone_triangle_parity : (a b c : Spot) → corners_of xs ≡ a ∷ b ∷ c ∷ [] → odd_or_even xs p ≡ place_said l
  zone_triangle_parity a b c e =
      subst (λ (cs : List Spot). place_by_parity (edges_of cs) (spot_of p) ≡ place_of (edges_of cs) (spot_of p)) (sym e)
      (triangle_parity a b c (spot_of p))
      ∙ zone_lies xs p l h

  -- strictly convex, either way round
  pub zone_convex_parity : Convex (corners_of xs) → odd_or_even xs p ≡ place_said l
  zone_convex_parity r = convex_parity (spot_of p) (corners_of xs) r ∙ zone_lies xs p l h
