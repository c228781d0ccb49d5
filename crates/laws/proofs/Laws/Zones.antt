-- What `zone` answers, for a reader: laws of whatever keeps its promise. Corners and points count by what they are worth, so that a corner at -0
-- is the corner at +0. In order: a place by its number; the answer by the rule; equal corners; another list of the same round; a point on an
-- edge, and on an edge that two zones share; two triangles on the two sides of an edge. Not here: joint outlines (`Joined`); zones that pass a corner
-- twice (`Loops`); the rule by odd or even (`Parity`). Assumes nothing.
use mathlib.Core.Path.{◌≡◌, refl, sym, ap, ap₂, ◌∙◌}
use mathlib.Core.Bool.{true}
use mathlib.Core.List.{List, [], ◌∷◌, Memᴰ}
use mathlib.Core.Logic.{◌⊎◌, inl, inr}
use Prim.Native.Nat.{ℕ}
use native.Mathlib.Omega.{arith}
use lib.IntN.{pos}
use lib.Ieee.{Float}
use Rattle.whole.specs.Order.{◌<ᶻ◌}
use Rattle.ground.specs.Plane.{Spot, determinant}
use Rattle.ground.specs.Edge.{Edge, edges_of, on_edge}
use Rattle.ground.specs.Zone.{place_number, place_of}
use Rattle.ground.specs.Listing.{Relisted, turned_round, place_in}
use Rattle.ground.proofs.Laws.Edges.{on_round}
use Rattle.ground.proofs.Laws.Tally.{border_met}
use Rattle.ground.proofs.Laws.Listing.{relisted_place}
use Rattle.ground.proofs.Laws.Triangles.{listed_apart}
use Rattle.point.specs.declared.Point.{Point}
use Rattle.point.specs.Spot.{spot_of}
use Rattle.geometry.specs.Zone.{corners_of, place_said, ZoneSays}
use Rattle.geometry.specs.declared.answer.Place.{Place}
use Rattle.geometry.specs.declared.answer.Place.TheVariants.{Outside, Border, Inside}
use Rattle.geometry.proofs.Laws.Zone.{place_once}
use Rattle.geometry.proofs.Laws.Calls.{zone_lies, place_inside, place_outside, place_border}
use Rattle.std.specs.Prelude.{Ok}

-- ---- a place by its number
abbrev pub number : Place → ℕ
number l = place_number (place_said l)

pub number_inside : (l : Place) → number l ≡ 2 → l ≡ Inside
number_inside Outside e = let z : ⊥ = omega (arith, e, place_outside) in absurd z
number_inside (Border k) e = let z : ⊥ = omega (arith, e, place_border k) in absurd z
number_inside Inside e = refl

pub number_outside : (l : Place) → number l ≡ 0 → l ≡ Outside
number_outside Outside e = refl
number_outside (Border k) e = let z : ⊥ = omega (arith, e, place_border k) in absurd z
number_outside Inside e = let z : ⊥ = omega (arith, e, place_inside) in absurd z

pub number_border : (l : Place) → number l ≡ 1 → (k : ℕ) × (l ≡ Border k)
number_border Outside e = let z : ⊥ = omega (arith, e, place_outside) in absurd z
number_border (Border k) e = (k, refl)
number_border Inside e = let z : ⊥ = omega (arith, e, place_inside) in absurd z

-- on no edge
abbrev pub OffBorder : Place → Type 0
OffBorder l = (k : ℕ) → l ≡ Border k → ⊥

pub off_number : (l : Place) → OffBorder l → number l ≡ 1 → ⊥
off_number l off e = let (k, b) = number_border l e in off k b

-- ---- the answer by the rule: 0, 1, 2 for outside, border, inside
pub zone_number : (xs : List Float) (p : Point) (l : Place) → ZoneSays xs p (Ok l) → number l ≡ place_in (corners_of xs) (spot_of p)
zone_number xs p l h = ap place_number (sym (zone_lies xs p l h))

-- ---- corners and points of the same worth have the same answer, the edge's number too
pub zone_by_value : (xs ys : List Float) (p q : Point) (l m : Place) → corners_of xs ≡ corners_of ys → spot_of p ≡ spot_of q
    → ZoneSays xs p (Ok l) → ZoneSays ys q (Ok m) → l ≡ m
zone_by_value xs ys p q l m e f h k =
    place_once l m (sym (zone_lies xs p l h) ∙ ap₂ (λ (cs : List Spot) (z : Spot). place_of (edges_of cs) z) e f ∙ zone_lies ys q m k)

-- ---- begun at another corner, listed backwards, or both: the same of the three
pub zone_relisted : (xs ys : List Float) (p : Point) (l m : Place) → Relisted (corners_of xs) (corners_of ys)
    → ZoneSays xs p (Ok l) → ZoneSays ys p (Ok m) → place_number (place_said l) ≡ place_number (place_said m)
zone_relisted xs ys p l m r h k =
    zone_number xs p l h ∙ relisted_place (spot_of p) (corners_of xs) (corners_of ys) r ∙ sym (zone_number ys p m k)

-- ---- a point on an edge is on the border
pub zone_edge : (xs : List Float) (p : Point) (l : Place) (e : Edge) → Memᴰ e (edges_of (corners_of xs)) → on_edge e (spot_of p) ≡ true
    → ZoneSays xs p (Ok l) → place_number (place_said l) ≡ 1
zone_edge xs p l e i on h =
    zone_number xs p l h ∙ (border_met (edges_of (corners_of xs)) (spot_of p)).1 (record { at = e; listed = i; on = on })

-- on an edge that two zones share, whichever way each runs and whichever corner is first, it is on the border of both
pub zone_shared_edge : (xs ys : List Float) (p : Point) (l m : Place) (e : Edge) → Memᴰ e (edges_of (corners_of xs))
    → Memᴰ e (edges_of (corners_of ys)) ⊎ Memᴰ (turned_round e) (edges_of (corners_of ys)) → on_edge e (spot_of p) ≡ true
    → ZoneSays xs p (Ok l) → ZoneSays ys p (Ok m) → (place_number (place_said l) ≡ 1) × (place_number (place_said m) ≡ 1)
zone_shared_edge xs ys p l m e i (inl j) on h k = (zone_edge xs p l e i on h, zone_edge ys p m e j on k)
zone_shared_edge xs ys p l m e i (inr j) on h k =
    (zone_edge xs p l e i on h, zone_edge ys p m (turned_round e) j (on_round e (spot_of p) ∙ on) k)

-- ---- no point is inside both of two triangles on the two sides of an edge, listed in any way
pub zone_triangles : (a b c d : Spot) (xs ys : List Float) (p : Point) → Relisted (corners_of xs) (a ∷ b ∷ c ∷ [])
    → Relisted (corners_of ys) (a ∷ b ∷ d ∷ []) → pos 0 <ᶻ determinant a b c → determinant a b d <ᶻ pos 0
    → ZoneSays xs p (Ok Inside) → ZoneSays ys p (Ok Inside) → ⊥
zone_triangles a b c d xs ys p r s left right h k =
    listed_apart a b c d (spot_of p) (corners_of xs) (corners_of ys) r s left right
    (sym (zone_number xs p Inside h) ∙ place_inside) (sym (zone_number ys p Inside k) ∙ place_inside)
