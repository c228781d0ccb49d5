-- A zone that passes a corner twice, and the two loops of which it is made, by what `zone` answers of the three, each a zone of its own: laws of
-- whatever keeps its promise. Each list begins anywhere and runs either way. In order: the border; inside; inside one of the loops alone; a zone
-- whose corners are listed twice over; four corners whose line crosses itself. Not here: the totals (`Loops` of `ground`). Assumes nothing.
use mathlib.Core.Path.{◌≡◌, sym, ap, ◌∙◌}
use mathlib.Core.List.{List, [], ◌∷◌, ◌++◌}
use mathlib.Core.Logic.{◌⊎◌, ⊎_map, ◌↔◌}
use Prim.Native.Nat.{ℕ}
use lib.Ieee.{Float}
use Rattle.ground.specs.Plane.{Spot}
use Rattle.ground.specs.Edge.{edges_of}
use Rattle.ground.specs.Zone.{place_of}
use Rattle.ground.specs.Listing.{Relisted, place_in}
use Rattle.ground.specs.Convex.{LeftOf, Crossed}
use Rattle.ground.proofs.Laws.Listing.{relisted_place}
use Rattle.ground.proofs.Laws.Loops.{loops_border, loops_inside, loops_one, twice_place}
use Rattle.ground.proofs.Laws.Eight.{eight_inside}
use Rattle.point.specs.declared.Point.{Point}
use Rattle.point.specs.Spot.{spot_of}
use Rattle.geometry.specs.Zone.{corners_of, ZoneSays}
use Rattle.geometry.specs.declared.answer.Place.{Place}
use Rattle.geometry.specs.declared.answer.Place.TheVariants.{Outside, Border, Inside}
use Rattle.geometry.proofs.Laws.Zone.{place_once}
use Rattle.geometry.proofs.Laws.Calls.{zone_lies, place_inside, place_outside, place_border}
use Rattle.laws.proofs.Laws.Zones.{number, number_inside, number_border, OffBorder, off_number, zone_number}
use Rattle.std.specs.Prelude.{Ok}

-- the number of an answer, by another listing
listed_number : (xs : List Float) (p : Point) (l : Place) (cs : List Spot) → Relisted (corners_of xs) cs → ZoneSays xs p (Ok l)
    → number l ≡ place_in cs (spot_of p)
listed_number xs p l cs r h = zone_number xs p l h ∙ relisted_place (spot_of p) (corners_of xs) cs r

-- ---- two loops through a: one, two, and both in one list
module _ (xs ys zs : List Float) (p : Point) (l m o : Place) (a : Spot) (cs ds : List Spot)
    (first : Relisted (corners_of xs) (a ∷ cs)) (second : Relisted (corners_of ys) (a ∷ ds)) (both : Relisted (corners_of zs) (a ∷ cs ++ a ∷ ds))
    (h : ZoneSays xs p (Ok l)) (k : ZoneSays ys p (Ok m)) (i : ZoneSays zs p (Ok o)) where
  one : number l ≡ place_in (a ∷ cs) (spot_of p)
  one = listed_number xs p l (a ∷ cs) first h

  two : number m ≡ place_in (a ∷ ds) (spot_of p)
  two = listed_number ys p m (a ∷ ds) second k

  whole : number o ≡ place_in (a ∷ cs ++ a ∷ ds) (spot_of p)
  whole = listed_number zs p o (a ∷ cs ++ a ∷ ds) both i

  -- on the border: on that of one of the loops
  pub zone_loops_border : ((n : ℕ) × (o ≡ Border n)) ↔ (((n : ℕ) × (l ≡ Border n)) ⊎ ((n : ℕ) × (m ≡ Border n)))
  zone_loops_border =
      let law = loops_border a cs ds (spot_of p) in (
        λ (n, e).
            ⊎_map (λ f. number_border l (one ∙ f)) (λ f. number_border m (two ∙ f)) (law.0 (sym whole ∙ ap number e ∙ place_border n)),
        λ e.
            number_border o (whole
            ∙ law.1 (⊎_map (λ (n, f). sym one ∙ ap number f ∙ place_border n) (λ (n, f). sym two ∙ ap number f ∙ place_border n) e)),
      )

  module _ (off_one : OffBorder l) (off_two : OffBorder m) where
    -- inside: inside one of the loops, or both
    pub zone_loops_inside : o ≡ Inside → (l ≡ Inside) ⊎ (m ≡ Inside)
    zone_loops_inside e =
        ⊎_map (λ f. number_inside l (one ∙ f)) (λ f. number_inside m (two ∙ f))
        (loops_inside a cs ds (spot_of p) (λ f. off_number l off_one (one ∙ f)) (λ f. off_number m off_two (two ∙ f))
        (sym whole ∙ ap number e ∙ place_inside))

    -- inside one of the loops and outside the other: inside
    pub zone_loops_one : ((l ≡ Inside) × (m ≡ Outside)) ⊎ ((l ≡ Outside) × (m ≡ Inside)) → o ≡ Inside
    zone_loops_one e =
        number_inside o (whole
        ∙ loops_one a cs ds (spot_of p) (λ f. off_number l off_one (one ∙ f)) (λ f. off_number m off_two (two ∙ f))
        (⊎_map (λ (f, g). (sym one ∙ ap number f ∙ place_inside, sym two ∙ ap number g ∙ place_outside))
        (λ (f, g). (sym one ∙ ap number f ∙ place_outside, sym two ∙ ap number g ∙ place_inside)) e))

-- ---- corners listed twice over: the same answer, the edge's number too
pub zone_twice : (xs ys : List Float) (p : Point) (l m : Place) → corners_of ys ≡ corners_of xs ++ corners_of xs
    → ZoneSays xs p (Ok l) → ZoneSays ys p (Ok m) → l ≡ m
zone_twice xs ys p l m e h k =
    place_once l m
    (sym (zone_lies xs p l h) ∙ sym (twice_place (corners_of xs) (spot_of p))
    ∙ sym (ap (λ (cs : List Spot). place_of (edges_of cs) (spot_of p)) e) ∙ zone_lies ys p m k)

-- ---- a figure of eight: four corners, of which ab and cd cross each other. Its loop between b and c is what is to the left of ab, bc and cd: it is
-- inside. So is the loop between d and a: it is that of b, a, d, c, which is another listing of the same round
pub zone_eight : (xs : List Float) (p : Point) (l : Place) (a b c d : Spot) → Relisted (corners_of xs) (a ∷ b ∷ c ∷ d ∷ []) → Crossed a b c d
    → LeftOf a b (spot_of p) → LeftOf b c (spot_of p) → LeftOf c d (spot_of p) → ZoneSays xs p (Ok l) → l ≡ Inside
zone_eight xs p l a b c d r x ab bc cd h =
    number_inside l (listed_number xs p l (a ∷ b ∷ c ∷ d ∷ []) r h ∙ eight_inside a b c d (spot_of p) x ab bc cd)
