-- What two ranges have in common. In order: orders, as they are used here; the lesser and the greater of two numbers, also in another order; a coordinate
-- of a place lies in its piece's range, and that of a shared place in what the two ranges have in common; so pieces whose ranges have nothing in
-- common share nothing. Assumes nothing.
use mathlib.Core.Path.{◌≡◌, refl, sym, ap₂, ◌∙◌}
use mathlib.Core.Bool.{Bool, true, false, cond}
use mathlib.Core.List.{[], ◌∷◌}
use mathlib.Core.Logic.{inl, inr}
use native.Mathlib.Omega.{arith}
use lib.IntN.{ℤ, pos, ◌+ℤ◌, ◌-ℤ◌, ◌*ℤ◌}
use Rattle.whole.specs.Order.{◌≤ᶻ◌, ◌<ᶻ◌}
use Rattle.whole.proofs.Laws.Linear.{ints, int_rules}
use Rattle.whole.proofs.Laws.Order.{<-or-≤, mul_nonneg, mul_positive, cancel-≤}
use Rattle.ground.specs.Compare.{below}
use Rattle.ground.specs.Edge.{Edge}
use Rattle.ground.specs.Listing.{turned_round}
use Rattle.ground.proofs.Laws.Compare.{true_told, below_says}
use Rattle.pieces.specs.Place.{Fraction, Place, over1}
use Rattle.pieces.specs.Meeting.{Way, LiesOn, Shared, Holds, apart}
use Rattle.pieces.specs.Parts.{range, lesser, greater, common, common_x, common_y}
use Rattle.pieces.proofs.Laws.Places.{turned_share, way_turned, turned_least, turned_most}
use Rattle.pieces.proofs.Laws.Words.{flipped_edge, holds_flipped}

-- ---- orders, as they are used here
pub less-≤ : (a b : ℤ) → a <ᶻ b → a ≤ᶻ b
less-≤ a b = ints (a ∷ b ∷ []) (λ ρ v n m. simp (int_rules, v 0, v 1) (omega arith))

pub ≤_refl : (a : ℤ) → a ≤ᶻ a
≤_refl a = ints (a ∷ []) (λ ρ v n m. simp (int_rules, v 0) (omega arith))

pub ≤_trans : (a b c : ℤ) → a ≤ᶻ b → b ≤ᶻ c → a ≤ᶻ c
≤_trans a b c = ints (a ∷ b ∷ c ∷ []) (λ ρ v n m. simp (int_rules, v 0, v 1, v 2) (omega arith))

pub ≤_both : (a b : ℤ) → a ≤ᶻ b → b ≤ᶻ a → a ≡ b
≤_both a b = ints (a ∷ b ∷ []) (λ ρ v n m. simp (int_rules, v 0, v 1) (omega arith))

pub less_not : (a b : ℤ) → a <ᶻ b → b ≤ᶻ a → ⊥
less_not a b = ints (a ∷ b ∷ []) (λ ρ v n m. simp (int_rules, v 0, v 1) (omega arith))

pub gap_nonneg : (a b : ℤ) → a ≤ᶻ b → pos 0 ≤ᶻ b -ℤ a
gap_nonneg a b = ints (a ∷ b ∷ []) (λ ρ v n m. simp (int_rules, n, v 0, v 1) (omega arith))

pub gap_positive : (a b : ℤ) → a <ᶻ b → pos 0 <ᶻ b -ℤ a
gap_positive a b = ints (a ∷ b ∷ []) (λ ρ v n m. simp (int_rules, n, v 0, v 1) (omega arith))

-- ---- the lesser and the greater of two
module _ (a b : ℤ) where
  -- the test of an order, and what is chosen by it
  chosen : {A : Type 0} (P : A → Type 0) (p q : ℤ) (x y : A) → (p <ᶻ q → P x) → (q ≤ᶻ p → P y) → P (cond (below p q) x y)
  chosen P p q x y h k = go (below p q) refl
    where
      go : (t : Bool) → below p q ≡ t → P (cond t x y)
      go true e = h ((below_says p q).0 e)
      go false e = k (elim (<-or-≤ p q) [ inl l ↦ absurd ((true_told false).0 (sym e ∙ (below_says p q).1 l)) | inr l ↦ l ])

  -- what holds of either where it is the lesser holds of the lesser
  pub of_lesser : (P : ℤ → Type 0) → (a ≤ᶻ b → P a) → (b ≤ᶻ a → P b) → P (lesser a b)
  unfolding lesser
  of_lesser P h k = chosen P b a b a (λ l. k (less-≤ b a l)) (λ l. h l)

  pub of_greater : (P : ℤ → Type 0) → (b ≤ᶻ a → P a) → (a ≤ᶻ b → P b) → P (greater a b)
  unfolding greater
  of_greater P h k = chosen P a b b a (λ l. k (less-≤ a b l)) (λ l. h l)

  pub lesser_first : lesser a b ≤ᶻ a
  lesser_first = of_lesser (λ (z : ℤ). z ≤ᶻ a) (λ l. ≤_refl a) (λ l. l)

  pub lesser_second : lesser a b ≤ᶻ b
  lesser_second = of_lesser (λ (z : ℤ). z ≤ᶻ b) (λ l. l) (λ l. ≤_refl b)

  pub greater_first : a ≤ᶻ greater a b
  greater_first = of_greater (λ (z : ℤ). a ≤ᶻ z) (λ l. ≤_refl a) (λ l. l)

  pub greater_second : b ≤ᶻ greater a b
  greater_second = of_greater (λ (z : ℤ). b ≤ᶻ z) (λ l. l) (λ l. ≤_refl b)

  pub lesser_is : a ≤ᶻ b → lesser a b ≡ a
  lesser_is h = of_lesser (λ (z : ℤ). z ≡ a) (λ l. refl) (λ l. ≤_both b a l h)

  pub greater_is : a ≤ᶻ b → greater a b ≡ b
  greater_is h = of_greater (λ (z : ℤ). z ≡ b) (λ l. ≤_both a b h l) (λ l. refl)

  pub lesser_other : b ≤ᶻ a → lesser a b ≡ b
  lesser_other h = of_lesser (λ (z : ℤ). z ≡ b) (λ l. ≤_both a b l h) (λ l. refl)

  pub greater_other : b ≤ᶻ a → greater a b ≡ a
  greater_other h = of_greater (λ (z : ℤ). z ≡ a) (λ l. refl) (λ l. ≤_both b a h l)

-- ---- the same two in another order
lesser_comm : (a b : ℤ) → lesser b a ≡ lesser a b
lesser_comm a b = of_lesser a b (λ (z : ℤ). lesser b a ≡ z) (λ l. lesser_other b a l) (λ l. lesser_is b a l)

greater_comm : (a b : ℤ) → greater b a ≡ greater a b
greater_comm a b = of_greater a b (λ (z : ℤ). greater b a ≡ z) (λ l. greater_is b a l) (λ l. greater_other b a l)

module _ (a b c d : ℤ) where
  common_first : common b a c d ≡ common a b c d
  common_first =
      ap₂ (λ (l m : ℤ). range (greater l (lesser c d)) (lesser m (greater c d))) (lesser_comm a b) (greater_comm a b)

  common_both : common c d a b ≡ common a b c d
  common_both = ap₂ range (greater_comm (lesser a b) (lesser c d)) (lesser_comm (greater a b) (greater c d))

pub common_turned : (a b : Edge) → common_x (turned_round a) b ≡ common_x a b
common_turned a b = common_first a.from.x a.to.x b.from.x b.to.x

pub common_exchanged : (a b : Edge) → common_x b a ≡ common_x a b
common_exchanged a b = common_both a.from.x a.to.x b.from.x b.to.x

pub common_second_turned : (a b : Edge) → common_x a (turned_round b) ≡ common_x a b
common_second_turned a b = common_exchanged (turned_round b) a ∙ common_turned b a ∙ common_exchanged a b

-- ---- a coordinate of a place, between whole numbers
abbrev pub AtLeast : ℤ → Fraction → Type 0
AtLeast l f = l *ℤ f.bottom ≤ᶻ f.top

abbrev pub AtMost : Fraction → ℤ → Type 0
AtMost f m = f.top ≤ᶻ m *ℤ f.bottom

-- a share of the way lies from one end to the other
module _ (a b : ℤ) (t f : Fraction) (least : pos 0 ≤ᶻ t.top) (most : t.top ≤ᶻ t.bottom) (w : Way a b t f) (h : a ≤ᶻ b) where
  weighed : (c : ℤ) → pos 0 ≤ᶻ c → pos 0 ≤ᶻ (b -ℤ a) *ℤ (c *ℤ f.bottom)
  weighed c k =
      mul_nonneg (b -ℤ a) (c *ℤ f.bottom) (gap_nonneg a b h) (mul_nonneg c f.bottom k (less-≤ (pos 0) f.bottom f.positive))

  way_least : AtLeast a f
  way_least =
      cancel-≤ t.bottom (a *ℤ f.bottom) f.top t.positive
      (go a b t.top t.bottom f.top f.bottom w (weighed t.top least))
    where
      go : (a b n d f g : ℤ) → f *ℤ d ≡ (a *ℤ d +ℤ (b -ℤ a) *ℤ n) *ℤ g → pos 0 ≤ᶻ (b -ℤ a) *ℤ (n *ℤ g) → d *ℤ (a *ℤ g) ≤ᶻ d *ℤ f
      go a b n d f g = ints (a ∷ b ∷ n ∷ d ∷ f ∷ g ∷ []) (λ ρ v n m. simp (int_rules, n, v 0, v 1, v 2, v 3, v 4, v 5) (omega arith))

  way_most : AtMost f b
  way_most =
      cancel-≤ t.bottom f.top (b *ℤ f.bottom) t.positive
      (go a b t.top t.bottom f.top f.bottom w (weighed (t.bottom -ℤ t.top) (gap_nonneg t.top t.bottom most)))
    where
      go : (a b n d f g : ℤ) → f *ℤ d ≡ (a *ℤ d +ℤ (b -ℤ a) *ℤ n) *ℤ g → pos 0 ≤ᶻ (b -ℤ a) *ℤ ((d -ℤ n) *ℤ g) → d *ℤ f ≤ᶻ d *ℤ (b *ℤ g)
      go a b n d f g = ints (a ∷ b ∷ n ∷ d ∷ f ∷ g ∷ []) (λ ρ v n m. simp (int_rules, n, v 0, v 1, v 2, v 3, v 4, v 5) (omega arith))

module _ (a b : ℤ) (t f : Fraction) (least : pos 0 ≤ᶻ t.top) (most : t.top ≤ᶻ t.bottom) (w : Way a b t f) where
  way_in_least : AtLeast (lesser a b) f
  way_in_least =
      of_lesser a b (λ (z : ℤ). AtLeast z f) (λ h. way_least a b t f least most w h)
      (λ h. way_least b a (turned_share t) f (turned_least t most) (turned_most t least) (way_turned a b t f w) h)

  way_in_most : AtMost f (greater a b)
  way_in_most =
      of_greater a b (λ (z : ℤ). AtMost f z)
      (λ h. way_most b a (turned_share t) f (turned_least t most) (turned_most t least) (way_turned a b t f w) h)
      (λ h. way_most a b t f least most w h)

-- ---- a place of a piece, and a shared place
pub on_least : (a : Edge) (s : Place) → LiesOn a s → AtLeast (lesser a.from.x a.to.x) s.x
on_least a s o = way_in_least a.from.x a.to.x o.t s.x o.least o.most o.x

pub on_most : (a : Edge) (s : Place) → LiesOn a s → AtMost s.x (greater a.from.x a.to.x)
on_most a s o = way_in_most a.from.x a.to.x o.t s.x o.least o.most o.x

module _ (a b : Edge) (s : Place) (h : Shared a b s) where
  pub shared_least : AtLeast (common_x a b).least s.x
  shared_least = of_greater _ _ (λ (z : ℤ). AtLeast z s.x) (λ l. on_least a s h.first) (λ l. on_least b s h.second)

  pub shared_most : AtMost s.x (common_x a b).most
  shared_most = of_lesser _ _ (λ (z : ℤ). AtMost s.x z) (λ l. on_most a s h.first) (λ l. on_most b s h.second)

-- of a whole number
pub over1_least : (l z : ℤ) → AtLeast l (over1 z) → l ≤ᶻ z
over1_least l z = ints (l ∷ z ∷ []) (λ ρ v n m. simp (int_rules, n, v 0, v 1) (omega arith))

pub over1_most : (z m : ℤ) → AtMost (over1 z) m → z ≤ᶻ m
over1_most z m = ints (z ∷ m ∷ []) (λ ρ v n m. simp (int_rules, n, v 0, v 1) (omega arith))

-- ---- nothing in common along an axis: apart
pub empty_x : (a b : Edge) → (common_x a b).most <ᶻ (common_x a b).least → Holds apart a b
empty_x a b e = λ s h.
    go (common_x a b).least (common_x a b).most s.x.top s.x.bottom (shared_least a b s h) (shared_most a b s h)
    (mul_positive ((common_x a b).least -ℤ (common_x a b).most) s.x.bottom (gap_positive _ _ e) s.x.positive)
  where
    go : (l m f g : ℤ) → l *ℤ g ≤ᶻ f → f ≤ᶻ m *ℤ g → pos 0 <ᶻ (l -ℤ m) *ℤ g → ⊥
    go l m f g = ints (l ∷ m ∷ f ∷ g ∷ []) (λ ρ v n m. simp (int_rules, n, v 0, v 1, v 2, v 3) (omega arith))

pub empty_y : (a b : Edge) → (common_y a b).most <ᶻ (common_y a b).least → Holds apart a b
empty_y a b e = holds_flipped apart (flipped_edge a) (flipped_edge b) (empty_x (flipped_edge a) (flipped_edge b) e)
