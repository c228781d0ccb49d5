-- Places of a piece. In order: one place, however it is written; lying on a piece goes by the place; equal shares of the way are one place; the two
-- ends; the piece turned round; a piece of equal ends; a point that lies on a piece has side 0; where a place is shared, the sides of the second
-- piece's ends balance.
-- Assumes nothing.
use mathlib.Core.Path.{◌≡◌, refl, sym, ap, subst}
use mathlib.Core.List.{[], ◌∷◌}
use native.Mathlib.Omega.{arith}
use lib.IntN.{ℤ, pos, ◌+ℤ◌, ◌-ℤ◌, ◌*ℤ◌}
use Rattle.whole.specs.Order.{◌≤ᶻ◌}
use Rattle.whole.proofs.Laws.Linear.{ints, int_rules}
use Rattle.whole.proofs.Laws.Order.{mul_positive, cancel-≡}
use Rattle.ground.specs.Plane.{Spot}
use Rattle.ground.specs.Edge.{Edge, side_of_edge}
use Rattle.ground.specs.Listing.{turned_round}
use Rattle.pieces.specs.Place.{Fraction, Place, ◌≈◌, Same, over1, at}
use Rattle.pieces.specs.Meeting.{Way, LiesOn, Shared}

-- both sides times c
pub times : (c : ℤ) {a b : ℤ} → a ≡ b → c *ℤ a ≡ c *ℤ b
times c e = ap (λ (z : ℤ). c *ℤ z) e

-- ---- one place
≈_trans : (f g h : Fraction) → f ≈ g → g ≈ h → f ≈ h
≈_trans f g h p q =
    cancel-≡ g.bottom (f.top *ℤ h.bottom) (h.top *ℤ f.bottom) g.positive
    (go f.top f.bottom g.top g.bottom h.top h.bottom (times h.bottom p) (times f.bottom q))
  where
    go : (a b c d e f : ℤ) → f *ℤ (a *ℤ d) ≡ f *ℤ (c *ℤ b) → b *ℤ (c *ℤ f) ≡ b *ℤ (e *ℤ d) → d *ℤ (a *ℤ f) ≡ d *ℤ (e *ℤ b)
    go a b c d e f = ints (a ∷ b ∷ c ∷ d ∷ e ∷ f ∷ []) (λ ρ v n m. simp (int_rules, v 0, v 1, v 2, v 3, v 4, v 5) (omega arith))

pub same_trans : (r s t : Place) → Same r s → Same s t → Same r t
same_trans r s t p q = record { x = ≈_trans r.x s.x t.x p.x q.x; y = ≈_trans r.y s.y t.y p.y q.y }

pub same_sym : (r s : Place) → Same r s → Same s r
same_sym r s p = record { x = sym p.x; y = sym p.y }

pub same_refl : (r : Place) → Same r r
same_refl r = record { x = refl; y = refl }

-- two points that are one place have one x
pub same_x : (p q : Spot) → Same (at p) (at q) → p.x ≡ q.x
same_x p q h = go p.x q.x h.x
  where
    go : (a b : ℤ) → a *ℤ pos 1 ≡ b *ℤ pos 1 → a ≡ b
    go a b = ints (a ∷ b ∷ []) (λ ρ v n m. simp (int_rules, n, v 0, v 1) (omega arith))

-- ---- lying on a piece goes by the place
way_same : (a b : ℤ) (t f h : Fraction) → Way a b t f → h ≈ f → Way a b t h
way_same a b t f h w e =
    cancel-≡ f.bottom (h.top *ℤ t.bottom) ((a *ℤ t.bottom +ℤ (b -ℤ a) *ℤ t.top) *ℤ h.bottom) f.positive
    (go t.bottom (a *ℤ t.bottom +ℤ (b -ℤ a) *ℤ t.top) f.top f.bottom h.top h.bottom (times h.bottom w) (times t.bottom e))
  where
    go : (d p f g h k : ℤ) → k *ℤ (f *ℤ d) ≡ k *ℤ (p *ℤ g) → d *ℤ (h *ℤ g) ≡ d *ℤ (f *ℤ k) → g *ℤ (h *ℤ d) ≡ g *ℤ (p *ℤ k)
    go d p f g h k = ints (d ∷ p ∷ f ∷ g ∷ h ∷ k ∷ []) (λ ρ v n m. simp (int_rules, v 0, v 1, v 2, v 3, v 4, v 5) (omega arith))

pub on_same : (a : Edge) (r s : Place) → Same r s → LiesOn a s → LiesOn a r
on_same a r s e o = record {
  t = o.t;
  least = o.least;
  most = o.most;
  x = way_same a.from.x a.to.x o.t s.x r.x o.x e.x;
  y = way_same a.from.y a.to.y o.t s.y r.y o.y e.y;
}

-- ---- equal shares of the way are one place
way_share : (a b : ℤ) (t u f h : Fraction) → Way a b t f → Way a b u h → t ≈ u → f ≈ h
way_share a b t u f h v w e =
    cancel-≡ (t.bottom *ℤ u.bottom) (f.top *ℤ h.bottom) (h.top *ℤ f.bottom) (mul_positive t.bottom u.bottom t.positive u.positive)
    (go a b t.top t.bottom u.top u.bottom f.top f.bottom h.top h.bottom
    (times (u.bottom *ℤ h.bottom) v) (times (t.bottom *ℤ f.bottom) w) (times ((b -ℤ a) *ℤ (f.bottom *ℤ h.bottom)) e))
  where
    go : (a b n d m c f g h k : ℤ)
        → (c *ℤ k) *ℤ (f *ℤ d) ≡ (c *ℤ k) *ℤ ((a *ℤ d +ℤ (b -ℤ a) *ℤ n) *ℤ g)
        → (d *ℤ g) *ℤ (h *ℤ c) ≡ (d *ℤ g) *ℤ ((a *ℤ c +ℤ (b -ℤ a) *ℤ m) *ℤ k)
        → ((b -ℤ a) *ℤ (g *ℤ k)) *ℤ (n *ℤ c) ≡ ((b -ℤ a) *ℤ (g *ℤ k)) *ℤ (m *ℤ d)
        → (d *ℤ c) *ℤ (f *ℤ k) ≡ (d *ℤ c) *ℤ (h *ℤ g)
    go a b n d m c f g h k =
        ints (a ∷ b ∷ n ∷ d ∷ m ∷ c ∷ f ∷ g ∷ h ∷ k ∷ [])
        (λ ρ v n m. simp (int_rules, v 0, v 1, v 2, v 3, v 4, v 5, v 6, v 7, v 8, v 9) (omega arith))

pub same_share : (a : Edge) (r s : Place) (o : LiesOn a r) (p : LiesOn a s) → o.t ≈ p.t → Same r s
same_share a r s o p e = record {
  x = way_share a.from.x a.to.x o.t p.t r.x s.x o.x p.x e;
  y = way_share a.from.y a.to.y o.t p.t r.y s.y o.y p.y e;
}

-- ---- the ends
pub on_from : (a : Edge) → LiesOn a (at a.from)
on_from a = record {
  t = over1 (pos 0);
  least = record { le = tt };
  most = record { le = tt };
  x = go a.from.x a.to.x;
  y = go a.from.y a.to.y;
}
  where
    go : (p q : ℤ) → p *ℤ pos 1 ≡ (p *ℤ pos 1 +ℤ (q -ℤ p) *ℤ pos 0) *ℤ pos 1
    go p q = ints (p ∷ q ∷ []) (λ ρ v n m. simp (int_rules, n, v 0, v 1) (omega arith))

on_to : (a : Edge) → LiesOn a (at a.to)
on_to a = record {
  t = over1 (pos 1);
  least = record { le = tt };
  most = record { le = tt };
  x = go a.from.x a.to.x;
  y = go a.from.y a.to.y;
}
  where
    go : (p q : ℤ) → q *ℤ pos 1 ≡ (p *ℤ pos 1 +ℤ (q -ℤ p) *ℤ pos 1) *ℤ pos 1
    go p q = ints (p ∷ q ∷ []) (λ ρ v n m. simp (int_rules, n, v 0, v 1) (omega arith))

pub at_from : (a : Edge) (s : Place) (o : LiesOn a s) → o.t.top ≡ pos 0 → Same s (at a.from)
unfolding on_from
at_from a s o e = same_share a s (at a.from) o (on_from a) (go o.t.top o.t.bottom e)
  where
    go : (n d : ℤ) → n ≡ pos 0 → n *ℤ pos 1 ≡ pos 0 *ℤ d
    go n d = ints (n ∷ d ∷ []) (λ ρ v n m. simp (int_rules, n, v 0, v 1) (omega arith))

pub at_to : (a : Edge) (s : Place) (o : LiesOn a s) → o.t.top ≡ o.t.bottom → Same s (at a.to)
unfolding on_to
at_to a s o e = same_share a s (at a.to) o (on_to a) (go o.t.top o.t.bottom e)
  where
    go : (n d : ℤ) → n ≡ d → n *ℤ pos 1 ≡ pos 1 *ℤ d
    go n d = ints (n ∷ d ∷ []) (λ ρ v n m. simp (int_rules, n, v 0, v 1) (omega arith))

-- ---- the piece turned round
abbrev pub turned_share : Fraction → Fraction
turned_share t = record { top = t.bottom -ℤ t.top; bottom = t.bottom; positive = t.positive }

pub way_turned : (a b : ℤ) (t f : Fraction) → Way a b t f → Way b a (turned_share t) f
way_turned a b t f = go a b t.top t.bottom f.top f.bottom
  where
    go : (a b n d f g : ℤ) → f *ℤ d ≡ (a *ℤ d +ℤ (b -ℤ a) *ℤ n) *ℤ g → f *ℤ d ≡ (b *ℤ d +ℤ (a -ℤ b) *ℤ (d -ℤ n)) *ℤ g
    go a b n d f g = ints (a ∷ b ∷ n ∷ d ∷ f ∷ g ∷ []) (λ ρ v n m. simp (int_rules, v 0, v 1, v 2, v 3, v 4, v 5) (omega arith))

pub turned_least : (t : Fraction) → t.top ≤ᶻ t.bottom → pos 0 ≤ᶻ (turned_share t).top
turned_least t = go t.top t.bottom
  where
    go : (n d : ℤ) → n ≤ᶻ d → pos 0 ≤ᶻ d -ℤ n
    go n d = ints (n ∷ d ∷ []) (λ ρ v n m. simp (int_rules, n, v 0, v 1) (omega arith))

pub turned_most : (t : Fraction) → pos 0 ≤ᶻ t.top → (turned_share t).top ≤ᶻ t.bottom
turned_most t = go t.top t.bottom
  where
    go : (n d : ℤ) → pos 0 ≤ᶻ n → d -ℤ n ≤ᶻ d
    go n d = ints (n ∷ d ∷ []) (λ ρ v n m. simp (int_rules, n, v 0, v 1) (omega arith))

pub on_turned : (a : Edge) (s : Place) → LiesOn a s → LiesOn (turned_round a) s
on_turned a s o = record {
  t = turned_share o.t;
  least = turned_least o.t o.most;
  most = turned_most o.t o.least;
  x = way_turned a.from.x a.to.x o.t s.x o.x;
  y = way_turned a.from.y a.to.y o.t s.y o.y;
}

-- ---- a piece of equal ends has one place
pub on_dot : (a : Edge) (s : Place) → a.from ≡ a.to → LiesOn a s → Same s (at a.from)
on_dot a s e o = record {
  x = one a.from.x a.to.x o.t s.x (ap (λ (p : Spot). p.x) e) o.x;
  y = one a.from.y a.to.y o.t s.y (ap (λ (p : Spot). p.y) e) o.y;
}
  where
    go : (a n d f g : ℤ) → f *ℤ d ≡ (a *ℤ d +ℤ (a -ℤ a) *ℤ n) *ℤ g → d *ℤ (f *ℤ pos 1) ≡ d *ℤ (a *ℤ g)
    go a n d f g = ints (a ∷ n ∷ d ∷ f ∷ g ∷ []) (λ ρ v n m. simp (int_rules, n, v 0, v 1, v 2, v 3, v 4) (omega arith))

    one : (a b : ℤ) (t f : Fraction) → a ≡ b → Way a b t f → f ≈ over1 a
    one a b t f e w =
        cancel-≡ t.bottom (f.top *ℤ pos 1) (a *ℤ f.bottom) t.positive
        (go a t.top t.bottom f.top f.bottom (subst (λ (z : ℤ). Way a z t f) (sym e) w))

-- ---- a point that lies on a piece has side 0
pub on_side_lem : (a : Edge) (p : Spot) → LiesOn a (at p) → side_of_edge a p ≡ pos 0
on_side_lem a p o =
    cancel-≡ o.t.bottom (side_of_edge a p) (pos 0) o.t.positive
    (go a.from.x a.from.y a.to.x a.to.y p.x p.y o.t.top o.t.bottom
    (times (a.to.y -ℤ a.from.y) o.x) (times (a.to.x -ℤ a.from.x) o.y))
  where
    go : (ax ay bx by px py n d : ℤ)
        → (by -ℤ ay) *ℤ (px *ℤ d) ≡ (by -ℤ ay) *ℤ ((ax *ℤ d +ℤ (bx -ℤ ax) *ℤ n) *ℤ pos 1)
        → (bx -ℤ ax) *ℤ (py *ℤ d) ≡ (bx -ℤ ax) *ℤ ((ay *ℤ d +ℤ (by -ℤ ay) *ℤ n) *ℤ pos 1)
        → d *ℤ ((bx -ℤ ax) *ℤ (py -ℤ ay) -ℤ (by -ℤ ay) *ℤ (px -ℤ ax)) ≡ d *ℤ pos 0
    go ax ay bx by px py n d =
        ints (ax ∷ ay ∷ bx ∷ by ∷ px ∷ py ∷ n ∷ d ∷ [])
        (λ ρ v n m. simp (int_rules, n, v 0, v 1, v 2, v 3, v 4, v 5, v 6, v 7) (omega arith))

-- ---- where a place is shared, the sides of the second piece's ends balance, each weighed by what is left of the way to the other
pub balance : (a b : Edge) (s : Place) (h : Shared a b s)
    → (h.second.t.bottom -ℤ h.second.t.top) *ℤ side_of_edge a b.from +ℤ h.second.t.top *ℤ side_of_edge a b.to ≡ pos 0
balance a b s h =
    cancel-≡ h.first.t.bottom
    ((h.second.t.bottom -ℤ h.second.t.top) *ℤ side_of_edge a b.from +ℤ h.second.t.top *ℤ side_of_edge a b.to) (pos 0)
    h.first.t.positive
    (go a.from.x a.from.y a.to.x a.to.y b.from.x b.from.y b.to.x b.to.y
    h.first.t.top h.first.t.bottom h.second.t.top h.second.t.bottom
    (times (a.to.y -ℤ a.from.y) (both a.from.x a.to.x b.from.x b.to.x h.first.t h.second.t s.x h.first.x h.second.x))
    (times (a.to.x -ℤ a.from.x) (both a.from.y a.to.y b.from.y b.to.y h.first.t h.second.t s.y h.first.y h.second.y)))
  where
    -- what each piece says of one coordinate
    both : (a b c d : ℤ) (t u f : Fraction) → Way a b t f → Way c d u f
        → (a *ℤ t.bottom +ℤ (b -ℤ a) *ℤ t.top) *ℤ u.bottom ≡ (c *ℤ u.bottom +ℤ (d -ℤ c) *ℤ u.top) *ℤ t.bottom
    both a b c d t u f v w =
        let p = a *ℤ t.bottom +ℤ (b -ℤ a) *ℤ t.top in
        let q = c *ℤ u.bottom +ℤ (d -ℤ c) *ℤ u.top in
        cancel-≡ f.bottom (p *ℤ u.bottom) (q *ℤ t.bottom) f.positive
        (step f.top f.bottom p q t.bottom u.bottom (times u.bottom v) (times t.bottom w))
      where
        step : (f g p q d c : ℤ) → c *ℤ (f *ℤ d) ≡ c *ℤ (p *ℤ g) → d *ℤ (f *ℤ c) ≡ d *ℤ (q *ℤ g) → g *ℤ (p *ℤ c) ≡ g *ℤ (q *ℤ d)
        step f g p q d c = ints (f ∷ g ∷ p ∷ q ∷ d ∷ c ∷ []) (λ ρ v n m. simp (int_rules, v 0, v 1, v 2, v 3, v 4, v 5) (omega arith))

    go : (ax ay bx by cx cy dx dy n d m c : ℤ)
        → (by -ℤ ay) *ℤ ((ax *ℤ d +ℤ (bx -ℤ ax) *ℤ n) *ℤ c) ≡ (by -ℤ ay) *ℤ ((cx *ℤ c +ℤ (dx -ℤ cx) *ℤ m) *ℤ d)
        → (bx -ℤ ax) *ℤ ((ay *ℤ d +ℤ (by -ℤ ay) *ℤ n) *ℤ c) ≡ (bx -ℤ ax) *ℤ ((cy *ℤ c +ℤ (dy -ℤ cy) *ℤ m) *ℤ d)
        → d *ℤ ((c -ℤ m) *ℤ ((bx -ℤ ax) *ℤ (cy -ℤ ay) -ℤ (by -ℤ ay) *ℤ (cx -ℤ ax))
        +ℤ m *ℤ ((bx -ℤ ax) *ℤ (dy -ℤ ay) -ℤ (by -ℤ ay) *ℤ (dx -ℤ ax))) ≡ d *ℤ pos 0
    go ax ay bx by cx cy dx dy n d m c =
        ints (ax ∷ ay ∷ bx ∷ by ∷ cx ∷ cy ∷ dx ∷ dy ∷ n ∷ d ∷ m ∷ c ∷ [])
        (λ ρ v n m. simp (int_rules, n, v 0, v 1, v 2, v 3, v 4, v 5, v 6, v 7, v 8, v 9, v 10, v 11) (omega arith))
