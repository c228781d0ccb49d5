-- The demands, of whatever keeps the promise of `why`: nothing here speaks of how it works. In order: the place is the zone test's; the border, its edge
-- and its corners; inside or outside, the entries are the edges that count, in rising order, and their total, and later bytes stay; which calls are
-- refused, with what number and place, and which are answered; 64 bytes are enough; no two results satisfy the promise. Assumes nothing.
use mathlib.Core.Path.{◌≡◌, refl, sym, ap, ap₂, ◌∙◌, subst}
use mathlib.Core.Bool.{true}
use mathlib.Core.List.{List, [], ◌++◌, map, Memᴰ}
use mathlib.Core.Logic.{◌⊎◌, ◌↔◌}
use Prim.Native.Nat.{ℕ, ◌+◌, ◌*◌, ◌/◌, ◌≤◌, ◌<◌}
use native.Mathlib.Omega.{arith}
use lib.ListN.{length, take, drop, get_or, length-map}
use lib.Seq.{take_at, drop-append_seam}
use lib.Ieee.{Float}
use Rattle.std.specs.Prelude.{Err, Ok, Result}
use Rattle.refusal.specs.Outcome.{Outcome, answers, no_room, Fixes, kind_number}
use Rattle.refusal.specs.declared.Refusal.{Refusal}
use Rattle.refusal.proofs.Laws.Judged.{also_refused}
use Rattle.refusal.proofs.Laws.Outcome.{outcome_refused, outcome_once, never, no_refusal}
use Rattle.ground.specs.Edge.{Edge, edges_of, is_up, is_down}
use Rattle.ground.specs.Zone.{Lies, outside, border, inside, place_of}
use Rattle.ground.specs.Reason.{Turn, up, down, counts, Entry, entry, is_corner, edge_of, Reason, on_border, is_inside, is_outside, reason_at, reason_of, place_said as place_of_reason, entries_of}
use Rattle.ground.proofs.Laws.Reason.{listed_counts, listed_rise, listed_total, corner_says, reason_place}
use Rattle.point.specs.declared.Point.{Point}
use Rattle.point.specs.Accepted.{Accepted}
use Rattle.point.specs.Spot.{spot_of}
use Rattle.geometry.specs.Zone.{most, corners_of, corner_at, next_of, edge_at, place_in, place_said, zone_said, ZoneSays}
use Rattle.geometry.specs.Reasons.{total_in, FirstOn, OffBorder, ZoneRefusedAs, odd as as_odd, few as as_few, many as as_many, unaccepted as as_unaccepted}
use Rattle.geometry.specs.declared.answer.Place.TheVariants.{Outside as PlaceOutside, Border as PlaceBorder, Inside as PlaceInside}
use Rattle.geometry.specs.declared.answer.Place.{Place}
use Rattle.geometry.proofs.Laws.Edges.{edges_length}
use Rattle.geometry.proofs.Laws.Zone.{zone_fixed}
use Rattle.geometry.proofs.Laws.Answered.{zoned_answers}
use Rattle.geometry.proofs.Laws.Calls.{found_refused, zone_border}
use Rattle.reason.specs.Why.{reason_in, code, why_of, why_value, why_said, numbered, number_said, lent_after, WhySays}
use Rattle.reason.specs.Reasons.{many_in, WhyRefusedAs, as_zone, short, Tells, Stands, total_coded}
use Rattle.reason.specs.Parts.{IsZone}
use Rattle.reason.specs.declared.answer.Met.{Met}
use Rattle.reason.specs.declared.answer.Counted.{Counted}
use Rattle.reason.specs.declared.answer.Why.TheVariants.{Border, Inside, Outside}
use Rattle.reason.specs.declared.answer.Why.{Why}
use Rattle.reason.proofs.Laws.Entries.{code_up, code_down, stands_listed, listed_stands, bytes_rise, total_coded_lem}
use Rattle.reason.proofs.Laws.Why.{edge_number, edge_of_lem, few_entries}
use Rattle.reason.proofs.Laws.Told.{list_in, many_listed, answer_told, Answered, Told, why_told, refused_found_why, found_refused_why}

-- ---- the place is the zone test's
module _ (xs : List Float) (p : Point) (lent left : List ℕ) (r : Result Why Refusal) (says : WhySays xs p lent r left) (z : Result Place Refusal) (zone : ZoneSays xs p z) where
  numbered_place : (q : Reason (List Entry)) → place_of_reason (numbered q) ≡ place_of_reason q
  numbered_place (on_border k corner) = refl
  numbered_place (is_inside total l) = refl
  numbered_place (is_outside total l) = refl

  zone_at_lem : (n : Reason ℕ) → why_said r ≡ answers n → zone_said z ≡ answers (place_of_reason n)
  unfolding place_in reason_in
  zone_at_lem n e =
      let (known, is, _) = answer_told xs p lent left r n says e in
      zone ∙ known.lies
      ∙ ap answers (sym (reason_place (edges_of (corners_of xs)) (spot_of p)) ∙ sym (numbered_place (reason_in xs p)) ∙ ap place_of_reason (sym is))

  pub why_border_zone : (m : Met) → r ≡ Ok (Border m) → z ≡ Ok (PlaceBorder m.edge)
  unfolding why_said zone_said place_said
  why_border_zone m e =
      zone_fixed xs p z (Ok (PlaceBorder m.edge)) zone (sym (zone_at_lem (on_border m.edge m.corner) (ap why_said e)) ∙ zone)

  pub why_inside_zone : (c : Counted) → r ≡ Ok (Inside c) → z ≡ Ok PlaceInside
  unfolding why_said zone_said place_said
  why_inside_zone c e =
      zone_fixed xs p z (Ok PlaceInside) zone (sym (zone_at_lem (is_inside c.total c.entries) (ap why_said e)) ∙ zone)

  pub why_outside_zone : (c : Counted) → r ≡ Ok (Outside c) → z ≡ Ok PlaceOutside
  unfolding why_said zone_said place_said
  why_outside_zone c e =
      zone_fixed xs p z (Ok PlaceOutside) zone (sym (zone_at_lem (is_outside c.total c.entries) (ap why_said e)) ∙ zone)

-- ---- on the border: the first edge that has the point, and whether the point is equal in value to one of its ends; no byte is written
module _ (xs : List Float) (p : Point) (lent left : List ℕ) (m : Met) (says : WhySays xs p lent (Ok (Border m)) left) where
  border_at : (l : Lies) → ◌≡◌ {A = Reason ℕ} (on_border m.edge m.corner) (numbered (reason_at l (edges_of (corners_of xs)) (spot_of p)))
      → (l ≡ border m.edge) × (m.corner ≡ is_corner (edge_of (edges_of (corners_of xs)) m.edge (spot_of p)) (spot_of p))
      × (entries_of (reason_at l (edges_of (corners_of xs)) (spot_of p)) ≡ [])
  border_at (border k) e =
      let same : m.edge ≡ k = cc in
      let corner : m.corner ≡ is_corner (edge_of (edges_of (corners_of xs)) k (spot_of p)) (spot_of p) = cc in
      (ap border (sym same), corner ∙ ap (λ (i : ℕ). is_corner (edge_of (edges_of (corners_of xs)) i (spot_of p)) (spot_of p)) (sym same), refl)
  border_at inside e = never (cc)
  border_at outside e = never (cc)

  border_told : Answered xs p (length lent) × (place_in xs p ≡ border m.edge)
      × (m.corner ≡ is_corner (edge_at xs m.edge) (spot_of p)) × (left ≡ lent)
  unfolding why_said reason_in reason_of place_in
  border_told =
      let (known, is, stands) = answer_told xs p lent left (Ok (Border m)) (on_border m.edge m.corner) says refl in
      let (place, corner, none) = border_at (place_of (edges_of (corners_of xs)) (spot_of p)) is in
      let within = edge_number xs p known.zoned known.accepted m.edge (sym place) in (
        known,
        place,
        corner ∙ ap (λ (f : Edge). is_corner f (spot_of p)) (edge_of_lem xs p known.zoned known.accepted m.edge within),
        stands ∙ ap (λ (l : List Entry). map code l ++ drop (length (map code l)) lent) none,
      )

  pub why_border : FirstOn xs p m.edge
  unfolding zone_said place_said
  why_border =
      let (known, place, _, _) = border_told in
      (zone_border xs p (PlaceBorder m.edge) (ap answers (sym place) ∙ sym known.lies) m.edge).0 refl

  pub why_corner : (m.corner ≡ true) ↔ ((spot_of (corner_at xs m.edge) ≡ spot_of p) ⊎ (spot_of (corner_at xs (next_of (length xs / 2) m.edge)) ≡ spot_of p))
  why_corner =
      let (_, _, corner, _) = border_told in
      let law = corner_says (edge_at xs m.edge) (spot_of p) in
      (λ e. law.0 (sym corner ∙ e), λ s. corner ∙ law.1 s)

  pub why_border_leaves : left ≡ lent
  why_border_leaves = let (_, _, _, same) = border_told in same

-- ---- inside or outside: the edges that count
module _ (xs : List Float) (p : Point) (lent left : List ℕ) (r : Result Why Refusal) (c : Counted) (says : WhySays xs p lent r left) (t : Tells c r) where
  told : Told xs p lent c left
  told = why_told xs p lent left r c says t

  standing : (v : ℕ) → Stands left c.entries v ≡ Stands (map code (list_in xs p) ++ drop c.entries lent) (length (list_in xs p)) v
  standing v = ap₂ (λ (l : List ℕ) (n : ℕ). Stands l n v) told.stand told.many

  counted_at : (k : ℕ) (turn : Turn) → Memᴰ (entry k turn) (list_in xs p) ↔ ((k < length xs / 2) × (counts turn (edge_at xs k) (spot_of p) ≡ true))
  counted_at k turn =
      let law = listed_counts (edges_of (corners_of xs)) (spot_of p) k turn in
      let z = told.answered.zoned in
      let size = edges_length xs (length xs / 2) z.corners in
      let at = edge_of_lem xs p z told.answered.accepted k in (
        λ m. let (l, h) = law.0 m in
            let within : k < length xs / 2 = omega (arith, size) in
            (within, subst (λ (e : Edge). counts turn e (spot_of p) ≡ true) (at within) h),
        λ (l, h). law.1 (omega (arith, size), subst (λ (e : Edge). counts turn e (spot_of p) ≡ true) (sym (at l)) h),
      )

  -- edge k stands upward if and only if it counts upward, and downward likewise
  pub why_ups : (k : ℕ) → Stands left c.entries (2 * k) ↔ ((k < length xs / 2) × (is_up (edge_at xs k) (spot_of p) ≡ true))
  why_ups k = (
    λ s. let (x, m, e) = stands_listed (list_in xs p) (drop c.entries lent) (2 * k) (subst (λ (A : Type 0). A) (standing (2 * k)) s) in
        (counted_at k up).0 (subst (λ (y : Entry). Memᴰ y (list_in xs p)) (code_up x k e) m),
    λ h. let s = listed_stands (list_in xs p) (drop c.entries lent) (entry k up) ((counted_at k up).1 h) in
        let same : code (entry k up) ≡ 2 * k = omega arith in
        subst (λ (A : Type 0). A) (sym (standing (2 * k))) (subst (Stands _ _) same s),
  )

  pub why_downs : (k : ℕ) → Stands left c.entries (2 * k + 1) ↔ ((k < length xs / 2) × (is_down (edge_at xs k) (spot_of p) ≡ true))
  why_downs k = (
    λ s. let (x, m, e) = stands_listed (list_in xs p) (drop c.entries lent) (2 * k + 1) (subst (λ (A : Type 0). A) (standing (2 * k + 1)) s) in
        (counted_at k down).0 (subst (λ (y : Entry). Memᴰ y (list_in xs p)) (code_down x k e) m),
    λ h. subst (λ (A : Type 0). A) (sym (standing (2 * k + 1)))
        (listed_stands (list_in xs p) (drop c.entries lent) (entry k down) ((counted_at k down).1 h)),
  )

  -- the numbers of the edges rise: each stands once
  pub why_rises : (i j : ℕ) → i < j → j < c.entries → get_or left i 0 / 2 < get_or left j 0 / 2
  why_rises i j l h =
      let rise = listed_rise 0 (edges_of (corners_of xs)) (spot_of p) in
      rw told.stand (bytes_rise (drop c.entries lent) 0 (list_in xs p) i j rise l (omega (arith, told.many)))

  -- the total is the one that decides, and that of the entries
  pub why_total : c.total ≡ total_in xs p
  why_total = told.total

  pub why_entries_total : total_coded (take c.entries left) ≡ c.total
  why_entries_total =
      let size : length (map code (list_in xs p)) ≡ c.entries = length-map (list_in xs p) code ∙ sym told.many in
      ap total_coded (ap (take c.entries) told.stand ∙ take_at (map code (list_in xs p)) (drop c.entries lent) c.entries size)
      ∙ total_coded_lem (list_in xs p) ∙ listed_total 0 (edges_of (corners_of xs)) (spot_of p) ∙ sym told.total

  -- later bytes stay
  pub why_later : drop c.entries left ≡ drop c.entries lent
  why_later =
      let size : length (map code (list_in xs p)) ≡ c.entries = length-map (list_in xs p) code ∙ sym told.many in
      ap (λ (k : ℕ). drop k left) (sym size) ∙ ap (drop (length (map code (list_in xs p)))) told.stand
      ∙ drop-append_seam (map code (list_in xs p)) (drop c.entries lent)

  -- an entry for each edge that counts, and they fit
  pub why_many : c.entries ≡ many_in xs p
  why_many = told.many ∙ many_listed xs p

  pub why_room : c.entries ≤ length lent
  why_room = told.fits

-- ---- which calls are refused: as the zone is; then with 9 where the room is shorter than the edges that count
pub why_refused : (xs : List Float) (p : Point) (lent left : List ℕ) (r : Result Why Refusal) → WhySays xs p lent r left
    → (f : Refusal) → (r ≡ Err f) ↔ WhyRefusedAs xs p (length lent) (kind_number f.kind) f.place
unfolding why_said
why_refused xs p lent left r says f = (
  λ e. refused_found_why xs p (length lent) (kind_number f.kind) f.place
      (also_refused (why_of xs p (length lent)) numbered (sym says.answer ∙ ap why_said e)),
  λ w. outcome_refused why_value r f (says.answer ∙ ap number_said (found_refused_why xs p (length lent) (kind_number f.kind) f.place w)),
)

-- a good zone answers for every accepted point, where off the border there is room for the edges that count
pub why_answers : (xs : List Float) (p : Point) (lent left : List ℕ) (f : Refusal) → IsZone xs → Accepted p
    → (OffBorder xs p → many_in xs p ≤ length lent) → WhySays xs p lent (Err f) left → ⊥
why_answers xs p lent left f z a fits says = go (kind_number f.kind) f.place ((why_refused xs p lent left (Err f) says f).0 refl)
  where
    go : (n k : ℕ) → WhyRefusedAs xs p (length lent) n k → ⊥
    go n k (as_zone m j w) = no_refusal (sym (found_refused xs p m j w) ∙ zoned_answers xs (length xs / 2) p z a)
    go n k (short _ _ off h) = omega (arith, fits off)

-- a refused call leaves every lent byte
pub why_refused_leaves : (xs : List Float) (p : Point) (lent left : List ℕ) (f : Refusal) → WhySays xs p lent (Err f) left → left ≡ lent
unfolding why_said
why_refused_leaves xs p lent left f says =
    let whole = also_refused (why_of xs p (length lent)) numbered (sym says.answer) in
    says.room ∙ ap (λ (o : Outcome (Reason (List Entry))). lent_after o lent) whole

-- 64 bytes are enough: with so many lent only what refuses the zone is refused, and so never 9
pub why_enough : (xs : List Float) (p : Point) (lent left : List ℕ) (f : Refusal) → most ≤ length lent → WhySays xs p lent (Err f) left
    → ZoneRefusedAs xs p (kind_number f.kind) f.place × (kind_number f.kind ≡ no_room → ⊥)
why_enough xs p lent left f enough says = let w = as_zone_told (kind_number f.kind) f.place ((why_refused xs p lent left (Err f) says f).0 refl) in (w, not_nine _ _ w)
  where
    as_zone_told : (n k : ℕ) → WhyRefusedAs xs p (length lent) n k → ZoneRefusedAs xs p n k
    as_zone_told n k (as_zone m j w) = w
    as_zone_told n k (short z a off h) =
        let none : ⊥ = omega (arith, few_entries xs p z a, many_listed xs p) in absurd none

    not_nine : (n k : ℕ) → ZoneRefusedAs xs p n k → n ≡ no_room → ⊥
    not_nine n k (as_odd h) e = omega arith
    not_nine n k (as_few h l) e = omega arith
    not_nine n k (as_many h l) e = omega arith
    not_nine n k (as_unaccepted h i j place first) e = omega arith

-- ---- no two results satisfy the promise
of_value : Reason ℕ → Why
of_value (on_border k corner) = Border (record { edge = k; corner = corner })
of_value (is_inside total n) = Inside (record { total = total; entries = n })
of_value (is_outside total n) = Outside (record { total = total; entries = n })

value_back : (w : Why) → of_value (why_value w) ≡ w
unfolding of_value
value_back (Border m) = refl
value_back (Inside c) = refl
value_back (Outside c) = refl

value_once : (v w : Why) → why_value v ≡ why_value w → v ≡ w
value_once v w e = sym (value_back v) ∙ ap of_value e ∙ value_back w

pub why_fixed : (xs : List Float) (p : Point) (lent : List ℕ) → Fixes (λ (w : Result Why Refusal × List ℕ). WhySays xs p lent w.0 w.1)
unfolding why_said
why_fixed xs p lent a b h k =
    ap₂ (λ (r : Result Why Refusal) (left : List ℕ). (r, left))
    (outcome_once why_value value_once a.0 b.0 (h.answer ∙ sym k.answer)) (h.room ∙ sym k.room)
