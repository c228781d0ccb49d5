-- A zone listed from another corner, or backwards, of the very same doubles: it is answered where the first is, and with the same of the three
-- places. In order: what a flat list of corners is worth; accepted coordinates of another list; the law. Assumes nothing.
use mathlib.Core.Path.{◌≡◌, refl, sym, ap, ◌∙◌, subst}
use mathlib.Core.List.{List, [], ◌∷◌, ◌++◌, map, map-append, reverse, reverse-cons}
use mathlib.Core.Logic.{inl, inr}
use Prim.Native.Nat.{◌*◌}
use native.Mathlib.Nat.{add_comm}
use native.Mathlib.Omega.{arith}
use lib.ListN.{length, length-append, length-reverse}
use lib.Ieee.{Float}
use Rattle.ground.specs.Plane.{Spot}
use Rattle.ground.specs.Zone.{place_number}
use Rattle.ground.specs.Listing.{Turned, Relisted}
use Rattle.refusal.proofs.Laws.Outcome.{no_refusal}
use Rattle.point.specs.declared.Point.{Point}
use Rattle.point.specs.Spot.{spot_of}
use Rattle.geometry.specs.Zone.{corners_of, place_in, place_said, zone_said, ZoneSays}
use Rattle.geometry.specs.declared.answer.Place.{Place}
use Rattle.geometry.proofs.Laws.Answered.{AllAccepted, zone_answered, answered_zone}
use Rattle.laws.specs.Corners.{flat_of}
use Rattle.laws.proofs.Laws.Zones.{zone_relisted}
use Rattle.refusal.specs.declared.Refusal.{Refusal}
use Rattle.std.specs.Prelude.{Err, Ok, Result}

-- ---- what a flat list of corners is worth
corners_flat : (cs : List Point) → corners_of (flat_of cs) ≡ map spot_of cs
unfolding corners_of
corners_flat [] = refl
corners_flat (c ∷ cs) = ap (λ (ds : List Spot). spot_of c ∷ ds) (corners_flat cs)

spots_reverse : (cs : List Point) → map spot_of (reverse cs) ≡ reverse (map spot_of cs)
spots_reverse [] = refl
spots_reverse (c ∷ cs) =
    ap (map spot_of) (reverse-cons c cs) ∙ map-append spot_of (reverse cs) (c ∷ [])
    ∙ ap (λ (es : List Spot). es ++ spot_of c ∷ []) (spots_reverse cs) ∙ sym (reverse-cons (spot_of c) (map spot_of cs))

turned_spots : (cs ds : List Point) → Turned cs ds → Turned (map spot_of cs) (map spot_of ds)
turned_spots cs ds t = record {
  front = map spot_of t.front;
  back = map spot_of t.back;
  one = ap (map spot_of) t.one ∙ map-append spot_of t.front t.back;
  other = ap (map spot_of) t.other ∙ map-append spot_of t.back t.front;
}

relisted_spots : (cs ds : List Point) → Relisted cs ds → Relisted (map spot_of cs) (map spot_of ds)
relisted_spots cs ds (inl t) = inl (turned_spots cs ds t)
relisted_spots cs ds (inr t) =
    inr (subst (λ (es : List Spot). Turned es (map spot_of ds)) (spots_reverse cs) (turned_spots (reverse cs) ds t))

-- ---- accepted coordinates, and how many
flat_length : (cs : List Point) → length (flat_of cs) ≡ 2 * length cs
flat_length [] = refl
flat_length (c ∷ cs) = omega (arith, flat_length cs)

flat_append : (cs ds : List Point) → flat_of (cs ++ ds) ≡ flat_of cs ++ flat_of ds
flat_append [] ds = refl
flat_append (c ∷ cs) ds = ap (λ (xs : List Float). c.x ∷ c.y ∷ xs) (flat_append cs ds)

accepted_append : (xs ys : List Float) → AllAccepted xs → AllAccepted ys → AllAccepted (xs ++ ys)
accepted_append [] ys h k = k
accepted_append (x ∷ xs) ys h k = (h.0, accepted_append xs ys h.1 k)

accepted_split : (xs ys : List Float) → AllAccepted (xs ++ ys) → AllAccepted xs × AllAccepted ys
accepted_split [] ys h = (tt, h)
accepted_split (x ∷ xs) ys h = let t = accepted_split xs ys h.1 in ((h.0, t.0), t.1)

-- as many corners, all accepted where the others are
record Alike (cs ds : List Point) : Type 0 where
  size : length ds ≡ length cs
  accepts : AllAccepted (flat_of cs) → AllAccepted (flat_of ds)

append_alike : (cs ds : List Point) → Alike (cs ++ ds) (ds ++ cs)
append_alike cs ds = record {
  size = length-append ds cs ∙ add_comm (length ds) (length cs) ∙ sym (length-append cs ds);
  accepts = λ h.
      let t = accepted_split (flat_of cs) (flat_of ds) (subst AllAccepted (flat_append cs ds) h) in
      subst AllAccepted (sym (flat_append ds cs)) (accepted_append (flat_of ds) (flat_of cs) t.1 t.0);
}

turned_alike : (cs ds : List Point) → Turned cs ds → Alike cs ds
turned_alike cs ds t =
    subst (λ (es : List Point). Alike es ds) (sym t.one)
    (subst (λ (es : List Point). Alike (t.front ++ t.back) es) (sym t.other) (append_alike t.front t.back))

reverse_accepts : (cs : List Point) → AllAccepted (flat_of cs) → AllAccepted (flat_of (reverse cs))
reverse_accepts [] h = h
reverse_accepts (c ∷ cs) h =
    subst (λ (ds : List Point). AllAccepted (flat_of ds)) (sym (reverse-cons c cs))
    ((append_alike (c ∷ []) (reverse cs)).accepts (h.0, (h.1.0, reverse_accepts cs h.1.1)))

relisted_alike : (cs ds : List Point) → Relisted cs ds → Alike cs ds
relisted_alike cs ds (inl t) = turned_alike cs ds t
relisted_alike cs ds (inr t) =
    let a = turned_alike (reverse cs) ds t in
    record { size = a.size ∙ length-reverse cs; accepts = λ h. a.accepts (reverse_accepts cs h) }

-- ---- the law
pub relisted_answers : (cs ds : List Point) (p : Point) (l : Place) (z : Result Place Refusal) → Relisted cs ds
    → ZoneSays (flat_of cs) p (Ok l) → ZoneSays (flat_of ds) p z
    → (m : Place) × (z ≡ Ok m) × (place_number (place_said l) ≡ place_number (place_said m))
unfolding zone_said
relisted_answers cs ds p l (Ok m) r h k = (
  m,
  refl,
  zone_relisted (flat_of cs) (flat_of ds) p l m
      (subst (λ (es : List Spot). Relisted es (corners_of (flat_of ds))) (sym (corners_flat cs))
      (subst (λ (es : List Spot). Relisted (map spot_of cs) es) (sym (corners_flat ds)) (relisted_spots cs ds r))) h k,
)
relisted_answers cs ds p l (Err f) r h k =
    let a = zone_answered (flat_of cs) p (place_said l) (sym h) in
    let e = relisted_alike cs ds r in
    let sizes : length (flat_of ds) ≡ length (flat_of cs) = omega (arith, flat_length cs, flat_length ds, e.size) in
    no_refusal (k ∙ answered_zone (flat_of ds) p (place_in (flat_of ds) p) (record {
      even = λ o. a.even (omega arith);
      some = omega (arith, a.some);
      few = omega (arith, a.few);
      accepted = (a.accepted.0, (a.accepted.1.0, e.accepts a.accepted.1.1));
      place = refl;
    }))
