-- The second piece's ends on opposite sides of the first. In order: of the four sides, u less v is z less w; both pieces' lines have one place in common;
-- the first piece's ends against the second tell whether it lies on the first, and whether it is an end; where one of them is enough.
-- Not here: other sides (`Sided`). Assumes nothing.
use mathlib.Core.Path.{◌≡◌, refl, sym, ap, subst}
use mathlib.Core.List.{[], ◌∷◌}
use mathlib.Core.Logic.{inl, inr}
use Prim.Native.Nat.{zero, suc}
use native.Mathlib.Omega.{arith}
use lib.IntN.{ℤ, pos, neg_ℤ, ◌+ℤ◌, ◌-ℤ◌, ◌*ℤ◌, negsuc}
use Rattle.whole.specs.Order.{◌≤ᶻ◌, ◌<ᶻ◌}
use Rattle.whole.proofs.Laws.Parts.{pos-<}
use Rattle.whole.proofs.Laws.Ring.{◌:+◌, ◌:-◌, ◌:*◌, opp, solve}
use Rattle.whole.proofs.Laws.Linear.{ints, int_rules}
use Rattle.ground.specs.Edge.{Edge, side_of_edge}
use Rattle.ground.specs.Listing.{turned_round}
use Rattle.ground.proofs.Laws.Edges.{side_round}
use Rattle.pieces.specs.Place.{Place, Same, at}
use Rattle.pieces.specs.Meeting.{LiesOn, Shared, Only, IsEnd, Meeting, apart, touching, crossing, Holds}
use Rattle.pieces.specs.Parts.{Sides, opposite, sides_of, by_far, through, by_near}
use Rattle.pieces.proofs.Laws.Places.{same_sym, on_same, same_share, at_from, at_to, on_side_lem, balance}
use Rattle.pieces.proofs.Laws.Words.{holds_exchanged, holds_second_turned}
use Rattle.pieces.proofs.Laws.Ranges.{less-≤, less_not}
use Rattle.pieces.proofs.Laws.Along.{det_expr, Uneven}
use Rattle.pieces.proofs.Laws.Sided.{Told, above, under, falls, rises, first, second, both, sides_told, sides_negated, above_apart, under_apart}

-- ---- the second piece's ends on opposite sides of the first: one place of its own lies on the first one's line
module _ (a b : Edge) where
  abbrev u : ℤ
  u = side_of_edge a b.from

  abbrev v : ℤ
  v = side_of_edge a b.to

  abbrev w : ℤ
  w = side_of_edge b a.from

  abbrev z : ℤ
  z = side_of_edge b a.to

  -- of the four sides, u less v is z less w
  gap : u -ℤ v ≡ z -ℤ w
  gap = go a.from.x a.from.y a.to.x a.to.y b.from.x b.from.y b.to.x b.to.y
    where
      go : (ax ay bx by cx cy dx dy : ℤ)
          → ((bx -ℤ ax) *ℤ (cy -ℤ ay) -ℤ (by -ℤ ay) *ℤ (cx -ℤ ax)) -ℤ ((bx -ℤ ax) *ℤ (dy -ℤ ay) -ℤ (by -ℤ ay) *ℤ (dx -ℤ ax))
          ≡ ((dx -ℤ cx) *ℤ (by -ℤ cy) -ℤ (dy -ℤ cy) *ℤ (bx -ℤ cx)) -ℤ ((dx -ℤ cx) *ℤ (ay -ℤ cy) -ℤ (dy -ℤ cy) *ℤ (ax -ℤ cx))
      go =
          solve 8 (λ ax ay bx by cx cy dx dy.
          (det_expr ax ay bx by cx cy :- det_expr ax ay bx by dx dy, det_expr cx cy dx dy bx by :- det_expr cx cy dx dy ax ay)) refl

  -- a coordinate of the place, by both pieces
  cross_x : u *ℤ b.to.x -ℤ v *ℤ b.from.x ≡ z *ℤ a.from.x -ℤ w *ℤ a.to.x
  cross_x = go a.from.x a.from.y a.to.x a.to.y b.from.x b.from.y b.to.x b.to.y
    where
      go : (ax ay bx by cx cy dx dy : ℤ)
          → ((bx -ℤ ax) *ℤ (cy -ℤ ay) -ℤ (by -ℤ ay) *ℤ (cx -ℤ ax)) *ℤ dx -ℤ ((bx -ℤ ax) *ℤ (dy -ℤ ay) -ℤ (by -ℤ ay) *ℤ (dx -ℤ ax)) *ℤ cx
          ≡ ((dx -ℤ cx) *ℤ (by -ℤ cy) -ℤ (dy -ℤ cy) *ℤ (bx -ℤ cx)) *ℤ ax -ℤ ((dx -ℤ cx) *ℤ (ay -ℤ cy) -ℤ (dy -ℤ cy) *ℤ (ax -ℤ cx)) *ℤ bx
      go =
          solve 8 (λ ax ay bx by cx cy dx dy. (
            det_expr ax ay bx by cx cy :* dx :- det_expr ax ay bx by dx dy :* cx,
            det_expr cx cy dx dy bx by :* ax :- det_expr cx cy dx dy ax ay :* bx,
          )) refl

  cross_y : u *ℤ b.to.y -ℤ v *ℤ b.from.y ≡ z *ℤ a.from.y -ℤ w *ℤ a.to.y
  cross_y = go a.from.x a.from.y a.to.x a.to.y b.from.x b.from.y b.to.x b.to.y
    where
      go : (ax ay bx by cx cy dx dy : ℤ)
          → ((bx -ℤ ax) *ℤ (cy -ℤ ay) -ℤ (by -ℤ ay) *ℤ (cx -ℤ ax)) *ℤ dy -ℤ ((bx -ℤ ax) *ℤ (dy -ℤ ay) -ℤ (by -ℤ ay) *ℤ (dx -ℤ ax)) *ℤ cy
          ≡ ((dx -ℤ cx) *ℤ (by -ℤ cy) -ℤ (dy -ℤ cy) *ℤ (bx -ℤ cx)) *ℤ ay -ℤ ((dx -ℤ cx) *ℤ (ay -ℤ cy) -ℤ (dy -ℤ cy) *ℤ (ax -ℤ cx)) *ℤ by
      go =
          solve 8 (λ ax ay bx by cx cy dx dy. (
            det_expr ax ay bx by cx cy :* dy :- det_expr ax ay bx by dx dy :* cy,
            det_expr cx cy dx dy bx by :* ay :- det_expr cx cy dx dy ax ay :* by,
          )) refl

  module _ (h : pos 0 <ᶻ u) (k : v <ᶻ pos 0) where
    open_gap : pos 0 <ᶻ u -ℤ v
    open_gap = go u v h k
      where
        go : (u v : ℤ) → pos 0 <ᶻ u → v <ᶻ pos 0 → pos 0 <ᶻ u -ℤ v
        go u v = ints (u ∷ v ∷ []) (λ ρ v n m. simp (int_rules, n, v 0, v 1) (omega arith))

    less : w <ᶻ z
    less = go w z (subst (λ (g : ℤ). pos 0 <ᶻ g) gap open_gap)
      where
        go : (w z : ℤ) → pos 0 <ᶻ z -ℤ w → w <ᶻ z
        go w z = ints (w ∷ z ∷ []) (λ ρ v n m. simp (int_rules, n, v 0, v 1) (omega arith))

    -- a share of the second piece's way, by the sides of its ends
    abbrev crossing_place : Place
    crossing_place = record {
      x = record { top = u *ℤ b.to.x -ℤ v *ℤ b.from.x; bottom = u -ℤ v; positive = open_gap };
      y = record { top = u *ℤ b.to.y -ℤ v *ℤ b.from.y; bottom = u -ℤ v; positive = open_gap };
    }

    on_b : LiesOn b crossing_place
    on_b = record {
      t = record { top = u; bottom = u -ℤ v; positive = open_gap };
      least = less-≤ (pos 0) u h;
      most = most u v k;
      x = way u v b.from.x b.to.x;
      y = way u v b.from.y b.to.y;
    }
      where
        most : (u v : ℤ) → v <ᶻ pos 0 → u ≤ᶻ u -ℤ v
        most u v = ints (u ∷ v ∷ []) (λ ρ v n m. simp (int_rules, n, v 0, v 1) (omega arith))

        way : (u v c d : ℤ) → (u *ℤ d -ℤ v *ℤ c) *ℤ (u -ℤ v) ≡ (c *ℤ (u -ℤ v) +ℤ (d -ℤ c) *ℤ u) *ℤ (u -ℤ v)
        way = solve 4 (λ u v c d. ((u :* d :- v :* c) :* (u :- v), (c :* (u :- v) :+ (d :- c) :* u) :* (u :- v))) refl

    -- any shared place is that one
    one_crossing : (r : Place) → Shared a b r → Same r crossing_place
    unfolding on_b
    one_crossing r i = same_share b r crossing_place i.second on_b (go i.second.t.top i.second.t.bottom u v (balance a b r i))
      where
        go : (n d u v : ℤ) → (d -ℤ n) *ℤ u +ℤ n *ℤ v ≡ pos 0 → n *ℤ (u -ℤ v) ≡ u *ℤ d
        go n d u v = ints (n ∷ d ∷ u ∷ v ∷ []) (λ ρ v n m. simp (int_rules, n, v 0, v 1, v 2, v 3) (omega arith))

    module _ (i : w ≤ᶻ pos 0) (j : pos 0 ≤ᶻ z) where
      on_a : LiesOn a crossing_place
      on_a = record {
        t = record { top = neg_ℤ w; bottom = z -ℤ w; positive = subst (λ (g : ℤ). pos 0 <ᶻ g) gap open_gap };
        least = least w i;
        most = most w z j;
        x = way (u *ℤ b.to.x -ℤ v *ℤ b.from.x) (u -ℤ v) w z a.from.x a.to.x cross_x gap;
        y = way (u *ℤ b.to.y -ℤ v *ℤ b.from.y) (u -ℤ v) w z a.from.y a.to.y cross_y gap;
      }
        where
          least : (w : ℤ) → w ≤ᶻ pos 0 → pos 0 ≤ᶻ neg_ℤ w
          least w = ints (w ∷ []) (λ ρ v n m. simp (int_rules, n, v 0) (omega arith))

          most : (w z : ℤ) → pos 0 ≤ᶻ z → neg_ℤ w ≤ᶻ z -ℤ w
          most w z = ints (w ∷ z ∷ []) (λ ρ v n m. simp (int_rules, n, v 0, v 1) (omega arith))

          plain : (w z a b : ℤ) → (z *ℤ a -ℤ w *ℤ b) *ℤ (z -ℤ w) ≡ (a *ℤ (z -ℤ w) +ℤ (b -ℤ a) *ℤ neg_ℤ w) *ℤ (z -ℤ w)
          plain =
              solve 4 (λ w z a b. ((z :* a :- w :* b) :* (z :- w), (a :* (z :- w) :+ (b :- a) :* opp w) :* (z :- w))) refl

          way : (f g w z a b : ℤ) → f ≡ z *ℤ a -ℤ w *ℤ b → g ≡ z -ℤ w → f *ℤ (z -ℤ w) ≡ (a *ℤ (z -ℤ w) +ℤ (b -ℤ a) *ℤ neg_ℤ w) *ℤ g
          way f g w z a b e d = rw (e, d) (plain w z a b)

      only_crossing : Only a b crossing_place
      only_crossing = record { shared = record { first = on_a; second = on_b }; only = one_crossing }

      -- an end of the first piece on the second one's line is that place
      from_touching : w ≡ pos 0 → Holds touching a b
      unfolding on_a
      from_touching e = (crossing_place, only_crossing, inl (inl (at_from a crossing_place on_a (ap neg_ℤ e))))

      to_touching : z ≡ pos 0 → Holds touching a b
      unfolding on_a
      to_touching e = (crossing_place, only_crossing, inl (inr (at_to a crossing_place on_a (go w z e))))
        where
          go : (w z : ℤ) → z ≡ pos 0 → neg_ℤ w ≡ z -ℤ w
          go w z = ints (w ∷ z ∷ []) (λ ρ v n m. simp (int_rules, n, v 0, v 1) (omega arith))

    -- an end has side 0
    no_zero : (g : ℤ) → Uneven (pos 0) g → g ≡ pos 0 → ⊥
    no_zero g (inl l) e = less_not (pos 0) (pos 0) (subst (λ (y : ℤ). pos 0 <ᶻ y) e l) (record { le = tt })
    no_zero g (inr l) e = less_not (pos 0) (pos 0) (subst (λ (y : ℤ). y <ᶻ pos 0) e l) (record { le = tt })

    no_end : (c d : Edge) → LiesOn c crossing_place → Uneven (pos 0) (side_of_edge c d.from) → Uneven (pos 0) (side_of_edge c d.to)
        → ¬ IsEnd d crossing_place
    no_end c d o f g (inl e) =
        no_zero (side_of_edge c d.from) f
        (on_side_lem c d.from (on_same c (at d.from) crossing_place (same_sym crossing_place (at d.from) e) o))
    no_end c d o f g (inr e) =
        no_zero (side_of_edge c d.to) g (on_side_lem c d.to (on_same c (at d.to) crossing_place (same_sym crossing_place (at d.to) e) o))

    crosses : w <ᶻ pos 0 → pos 0 <ᶻ z → Holds crossing a b
    crosses i j =
        let one = only_crossing (less-≤ w (pos 0) i) (less-≤ (pos 0) z j) in (
          crossing_place,
          one,
          no_end b a one.shared.second (inr i) (inl j),
          no_end a b one.shared.first (inl h) (inr k),
        )

    through_falls : Holds (through a b) a b
    through_falls = go (sides_of w z) (sides_told w z)
      where
        on_first : w ≡ pos 0 → Holds touching a b
        on_first e =
            from_touching (subst (λ (g : ℤ). g ≤ᶻ pos 0) (sym e) (record { le = tt }))
            (less-≤ (pos 0) z (subst (λ (g : ℤ). g <ᶻ z) e less)) e

        on_second : z ≡ pos 0 → Holds touching a b
        on_second e =
            to_touching (less-≤ w (pos 0) (subst (λ (g : ℤ). w <ᶻ g) e less)) (subst (λ (g : ℤ). pos 0 ≤ᶻ g) (sym e) (record { le = tt })) e

        go : (t : Sides) → Told w z t → Holds (by_far t) a b
        go t (above f g) = holds_exchanged apart b a (above_apart b a f g)
        go t (under f g) = holds_exchanged apart b a (under_apart b a f g)
        go t (falls f g) = absurd (no_way w z f g less)
          where
            no_way : (w z : ℤ) → pos 0 <ᶻ w → z <ᶻ pos 0 → w <ᶻ z → ⊥
            no_way w z = ints (w ∷ z ∷ []) (λ ρ v n m. simp (int_rules, n, v 0, v 1) (omega arith))
        go t (rises f g) = crosses f g
        go t (first e g) = on_first e
        go t (second g e) = on_second e
        go t (both e f) = on_first e

pub through_holds : (a b : Edge) → Told (side_of_edge a b.from) (side_of_edge a b.to) opposite → Holds (through a b) a b
through_holds a b (falls h k) = through_falls a b h k
through_holds a b (rises h k) =
    subst (λ (m : Meeting). Holds m a b) same
    (holds_second_turned (through a (turned_round b)) a (turned_round b) (through_falls a (turned_round b) k h))
  where
    same : through a (turned_round b) ≡ through a b
    same = rw (side_round b a.from, side_round b a.to, sides_negated (side_of_edge b a.from) (side_of_edge b a.to))

-- ---- what is told before the side of the first piece's second end is known
near_falls : (u w z : ℤ) → pos 0 <ᶻ u → w <ᶻ z → by_near (sides_of u w) (by_far (sides_of w z)) ≡ by_far (sides_of w z)
near_falls (pos zero) w z h l = absurd h.lt
near_falls (negsuc n) w z h l = absurd h.lt
near_falls (pos (suc n)) (pos zero) (pos zero) h l = refl
near_falls (pos (suc n)) (pos zero) (pos (suc k)) h l = refl
near_falls (pos (suc n)) (pos zero) (negsuc k) h l = refl
near_falls (pos (suc n)) (pos (suc m)) (pos zero) h l = let no : ⊥ = omega (arith, (pos-< (suc m) 0).0 l) in absurd no
near_falls (pos (suc n)) (pos (suc m)) (pos (suc k)) h l = refl
near_falls (pos (suc n)) (pos (suc m)) (negsuc k) h l = absurd l.lt
near_falls (pos (suc n)) (negsuc m) z h l = refl

near_rises : (u w z : ℤ) → u <ᶻ pos 0 → z <ᶻ w → by_near (sides_of u w) (by_far (sides_of w z)) ≡ by_far (sides_of w z)
near_rises (pos zero) w z h l = absurd h.lt
near_rises (pos (suc n)) w z h l = let no : ⊥ = omega (arith, (pos-< (suc n) 0).0 h) in absurd no
near_rises (negsuc n) (pos zero) (pos zero) h l = refl
near_rises (negsuc n) (pos zero) (pos (suc k)) h l = refl
near_rises (negsuc n) (pos zero) (negsuc k) h l = refl
near_rises (negsuc n) (pos (suc m)) z h l = refl
near_rises (negsuc n) (negsuc m) (pos k) h l = absurd l.lt
near_rises (negsuc n) (negsuc m) (negsuc k) h l = refl

pub near_is : (a b : Edge) → sides_of (side_of_edge a b.from) (side_of_edge a b.to) ≡ opposite
    → by_near (sides_of (side_of_edge a b.from) (side_of_edge b a.from)) (through a b) ≡ through a b
near_is a b e = go (subst (Told (u a b) (v a b)) e (sides_told (u a b) (v a b)))
  where
    turned : (u v w z : ℤ) → u -ℤ v ≡ z -ℤ w → u <ᶻ pos 0 → pos 0 <ᶻ v → z <ᶻ w
    turned u v w z = ints (u ∷ v ∷ w ∷ z ∷ []) (λ ρ v n m. simp (int_rules, n, v 0, v 1, v 2, v 3) (omega arith))

    go : Told (u a b) (v a b) opposite → by_near (sides_of (u a b) (w a b)) (through a b) ≡ through a b
    go (falls h k) = near_falls (u a b) (w a b) (z a b) h (less a b h k)
    go (rises h k) = near_rises (u a b) (w a b) (z a b) h (turned (u a b) (v a b) (w a b) (z a b) (gap a b) h k)
