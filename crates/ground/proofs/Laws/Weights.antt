-- Whole numbers behind the triangle. A point z has against the edges qr, rp, pq of a triangle the sides A, B, C, the weights of p, q, r:
-- with the heights a, b, c of p, q, r over z they balance, A·a + B·b + C·c = 0. In order: no weight is below 0 where a corner is alone low
-- or alone high and of the two edges at it one counts alone; the same for any three heights; a share of the way from a to b is between them.
-- Not here: points (`Triangles`). Assumes nothing.
use mathlib.Core.Path.{◌≡◌, refl}
use mathlib.Core.List.{[], ◌∷◌}
use mathlib.Core.Bool.{Bool, true, false, not, cond, ◌&&◌}
use mathlib.Core.Logic.{◌⊎◌, inl, inr, ⊎_elim}
use Prim.Native.Nat.{ℕ, ◌+◌}
use native.Mathlib.Omega.{arith}
use lib.IntN.{ℤ, pos, ◌+ℤ◌, ◌-ℤ◌, ◌*ℤ◌}
use Rattle.whole.specs.Order.{◌≤ᶻ◌, ◌<ᶻ◌}
use Rattle.whole.proofs.Laws.Linear.{ints, int_rules}
use Rattle.whole.proofs.Laws.Order.{mul_positive, mul_nonneg, <-or-≤}

-- the sum of the weights is the whole triangle's, listed counter-clockwise
pub record Balance (A B C a b c : ℤ) : Type 0 where
  pub level : A *ℤ a +ℤ B *ℤ b +ℤ C *ℤ c ≡ pos 0
  pub total : pos 0 <ᶻ A +ℤ B +ℤ C

abbrev pub NoneBelow : ℤ → ℤ → ℤ → Type 0
NoneBelow A B C = (pos 0 ≤ᶻ A) × (pos 0 ≤ᶻ B) × (pos 0 ≤ᶻ C)

pub lt_le : (a b : ℤ) → a <ᶻ b → a ≤ᶻ b
lt_le a b = ints (a ∷ b ∷ []) (λ ρ v n m. simp (int_rules, v 0, v 1) (omega arith))

-- 0 is at most z, or z is below it, which is absurd
not_below : (z : ℤ) → (z <ᶻ pos 0 → ⊥) → pos 0 ≤ᶻ z
not_below z h = ⊎_elim (λ p. absurd (h p)) (λ q. q) (<-or-≤ z (pos 0))

-- the opposite of a number below 0
turned_above : (z : ℤ) → z <ᶻ pos 0 → pos 0 <ᶻ pos 0 -ℤ z
turned_above z = ints (z ∷ []) (λ ρ v n m. simp (int_rules, n, v 0) (omega arith))

pub turned_nonneg : (z : ℤ) → z ≤ᶻ pos 0 → pos 0 ≤ᶻ pos 0 -ℤ z
turned_nonneg z = ints (z ∷ []) (λ ρ v n m. simp (int_rules, n, v 0) (omega arith))

-- the difference of two numbers in order
pub difference_nonneg : (x y : ℤ) → x ≤ᶻ y → pos 0 ≤ᶻ y -ℤ x
difference_nonneg x y = ints (x ∷ y ∷ []) (λ ρ v n m. simp (int_rules, n, v 0, v 1) (omega arith))

pub difference_above : (x y : ℤ) → x <ᶻ y → pos 0 <ᶻ y -ℤ x
difference_above x y = ints (x ∷ y ∷ []) (λ ρ v n m. simp (int_rules, n, v 0, v 1) (omega arith))

-- ---- one corner against two
module _ (A B C a b c : ℤ) (e : A *ℤ a +ℤ B *ℤ b +ℤ C *ℤ c ≡ pos 0) where
  -- the corner of weight A is low, the others are above
  low : a ≤ᶻ pos 0 → pos 0 <ᶻ b → pos 0 <ᶻ c → pos 0 ≤ᶻ B → pos 0 ≤ᶻ C → pos 0 <ᶻ B +ℤ C → pos 0 ≤ᶻ A
  low ha hb hc hB hC h =
      not_below A (λ p. no_way e h (mul_nonneg B (b -ℤ pos 1) hB (less b hb)) (mul_nonneg C (c -ℤ pos 1) hC (less c hc))
      (mul_nonneg (pos 0 -ℤ A) (pos 0 -ℤ a) (lt_le (pos 0) (pos 0 -ℤ A) (turned_above A p)) (turned_nonneg a ha)))
    where
      less : (z : ℤ) → pos 0 <ᶻ z → pos 0 ≤ᶻ z -ℤ pos 1
      less z = ints (z ∷ []) (λ ρ v n m. simp (int_rules, n, m, v 0) (omega arith))

      no_way : A *ℤ a +ℤ B *ℤ b +ℤ C *ℤ c ≡ pos 0 → pos 0 <ᶻ B +ℤ C → pos 0 ≤ᶻ B *ℤ (b -ℤ pos 1) → pos 0 ≤ᶻ C *ℤ (c -ℤ pos 1)
          → pos 0 ≤ᶻ (pos 0 -ℤ A) *ℤ (pos 0 -ℤ a) → ⊥
      no_way =
          ints (A ∷ B ∷ C ∷ a ∷ b ∷ c ∷ []) (λ ρ v n m. simp (int_rules, n, m, v 0, v 1, v 2, v 3, v 4, v 5) (omega arith))

  -- it is high, the others are not above
  high : pos 0 <ᶻ a → b ≤ᶻ pos 0 → c ≤ᶻ pos 0 → pos 0 ≤ᶻ B → pos 0 ≤ᶻ C → pos 0 ≤ᶻ A
  high ha hb hc hB hC =
      not_below A (λ p. no_way e (mul_nonneg B (pos 0 -ℤ b) hB (turned_nonneg b hb)) (mul_nonneg C (pos 0 -ℤ c) hC (turned_nonneg c hc))
      (mul_positive (pos 0 -ℤ A) a (turned_above A p) ha))
    where
      no_way : A *ℤ a +ℤ B *ℤ b +ℤ C *ℤ c ≡ pos 0 → pos 0 ≤ᶻ B *ℤ (pos 0 -ℤ b) → pos 0 ≤ᶻ C *ℤ (pos 0 -ℤ c)
          → pos 0 <ᶻ (pos 0 -ℤ A) *ℤ a → ⊥
      no_way =
          ints (A ∷ B ∷ C ∷ a ∷ b ∷ c ∷ []) (λ ρ v n m. simp (int_rules, n, v 0, v 1, v 2, v 3, v 4, v 5) (omega arith))

-- the weights B and C are not both at most 0, one of them below it: turned to their opposites, A would be at most 0 too
module _ (A B C a b c : ℤ) (h : Balance A B C a b c) (hB : B ≤ᶻ pos 0) (hC : C ≤ᶻ pos 0) (below : B +ℤ C <ᶻ pos 0) where
  turned_level : A *ℤ a +ℤ B *ℤ b +ℤ C *ℤ c ≡ pos 0
      → (pos 0 -ℤ A) *ℤ a +ℤ (pos 0 -ℤ B) *ℤ b +ℤ (pos 0 -ℤ C) *ℤ c ≡ pos 0
  turned_level =
      ints (A ∷ B ∷ C ∷ a ∷ b ∷ c ∷ []) (λ ρ v n m. simp (int_rules, n, v 0, v 1, v 2, v 3, v 4, v 5) (omega arith))

  turned_sum : B +ℤ C <ᶻ pos 0 → pos 0 <ᶻ (pos 0 -ℤ B) +ℤ (pos 0 -ℤ C)
  turned_sum = ints (B ∷ C ∷ []) (λ ρ v n m. simp (int_rules, n, v 0, v 1) (omega arith))

  no_total : pos 0 <ᶻ A +ℤ B +ℤ C → B +ℤ C <ᶻ pos 0 → pos 0 ≤ᶻ pos 0 -ℤ A → ⊥
  no_total = ints (A ∷ B ∷ C ∷ []) (λ ρ v n m. simp (int_rules, n, v 0, v 1, v 2) (omega arith))

  low_not : a ≤ᶻ pos 0 → pos 0 <ᶻ b → pos 0 <ᶻ c → ⊥
  low_not ha hb hc =
      no_total h.total below
      (low (pos 0 -ℤ A) (pos 0 -ℤ B) (pos 0 -ℤ C) a b c (turned_level h.level) ha hb hc
      (turned_nonneg B hB) (turned_nonneg C hC) (turned_sum below))

  high_not : pos 0 <ᶻ a → b ≤ᶻ pos 0 → c ≤ᶻ pos 0 → ⊥
  high_not ha hb hc =
      no_total h.total below
      (high (pos 0 -ℤ A) (pos 0 -ℤ B) (pos 0 -ℤ C) a b c (turned_level h.level) ha hb hc (turned_nonneg B hB) (turned_nonneg C hC))

-- ---- tests, and what they say
abbrev Says : Bool → Type 0 → Type 0 → Type 0
Says true P Q = P
Says false P Q = Q

-- at or below the point, or above it
abbrev pub Height : Bool → ℤ → Type 0
Height l a = Says l (a ≤ᶻ pos 0) (pos 0 <ᶻ a)

abbrev pub Left : Bool → ℤ → Type 0
Left s z = Says s (pos 0 <ᶻ z) (z ≤ᶻ pos 0)

abbrev pub Right : Bool → ℤ → Type 0
Right t z = Says t (z <ᶻ pos 0) (pos 0 ≤ᶻ z)

-- an edge's part in the ups or, with its ends exchanged, in the downs, by the heights of its ends and its side
abbrev pub counts : Bool → Bool → Bool → ℕ
counts la lb s = cond ((la && not lb) && s) 1 0

sum_above : (B C : ℤ) → pos 0 ≤ᶻ B → pos 0 <ᶻ C → pos 0 <ᶻ B +ℤ C
sum_above B C = ints (B ∷ C ∷ []) (λ ρ v n m. simp (int_rules, n, v 0, v 1) (omega arith))

first_below : (B C : ℤ) → B <ᶻ pos 0 → C ≤ᶻ pos 0 → B +ℤ C <ᶻ pos 0
first_below B C = ints (B ∷ C ∷ []) (λ ρ v n m. simp (int_rules, n, v 0, v 1) (omega arith))

last_below : (B C : ℤ) → B ≤ᶻ pos 0 → C <ᶻ pos 0 → B +ℤ C <ᶻ pos 0
last_below B C = ints (B ∷ C ∷ []) (λ ρ v n m. simp (int_rules, n, v 0, v 1) (omega arith))

-- p alone is low: edge pq, of side C, goes up and rp, of side B, down
low_alone : (A B C a b c : ℤ) (s t : Bool) → Balance A B C a b c → a ≤ᶻ pos 0 → pos 0 <ᶻ b → pos 0 <ᶻ c → Left s C → Right t B
    → (◌≡◌ {A = ℕ} (cond s 1 0) (cond t 1 0) → ⊥) → NoneBelow A B C
low_alone A B C a b c true true h ha hb hc hC hB o = absurd (o refl)
low_alone A B C a b c true false h ha hb hc hC hB o =
    (low A B C a b c h.level ha hb hc hB (lt_le (pos 0) C hC) (sum_above B C hB hC), hB, lt_le (pos 0) C hC)
low_alone A B C a b c false true h ha hb hc hC hB o =
    absurd (low_not A B C a b c h (lt_le B (pos 0) hB) hC (first_below B C hB hC) ha hb hc)
low_alone A B C a b c false false h ha hb hc hC hB o = absurd (o refl)

-- p alone is high: edge rp, of side B, goes up and pq, of side C, down
high_alone : (A B C a b c : ℤ) (s t : Bool) → Balance A B C a b c → pos 0 <ᶻ a → b ≤ᶻ pos 0 → c ≤ᶻ pos 0 → Left s B → Right t C
    → (◌≡◌ {A = ℕ} (cond s 1 0) (cond t 1 0) → ⊥) → NoneBelow A B C
high_alone A B C a b c true true h ha hb hc hB hC o = absurd (o refl)
high_alone A B C a b c true false h ha hb hc hB hC o =
    (high A B C a b c h.level ha hb hc (lt_le (pos 0) B hB) hC, lt_le (pos 0) B hB, hC)
high_alone A B C a b c false true h ha hb hc hB hC o =
    absurd (high_not A B C a b c h hB (lt_le C (pos 0) hC) (last_below B C hB hC) ha hb hc)
high_alone A B C a b c false false h ha hb hc hB hC o = absurd (o refl)

-- ---- any three heights
-- the same triangle, begun at q
next : (A B C a b c : ℤ) → Balance A B C a b c → Balance B C A b c a
next A B C a b c h = record { level = level h.level; total = total h.total }
  where
    level : A *ℤ a +ℤ B *ℤ b +ℤ C *ℤ c ≡ pos 0 → B *ℤ b +ℤ C *ℤ c +ℤ A *ℤ a ≡ pos 0
    level = ints (A ∷ B ∷ C ∷ a ∷ b ∷ c ∷ []) (λ ρ v n m. simp (int_rules, n, v 0, v 1, v 2, v 3, v 4, v 5) (omega arith))

    total : pos 0 <ᶻ A +ℤ B +ℤ C → pos 0 <ᶻ B +ℤ C +ℤ A
    total = ints (A ∷ B ∷ C ∷ []) (λ ρ v n m. simp (int_rules, n, v 0, v 1, v 2) (omega arith))

from_next : (A B C : ℤ) → NoneBelow B C A → NoneBelow A B C
from_next A B C h = (h.2, h.0, h.1)

from_last : (A B C : ℤ) → NoneBelow C A B → NoneBelow A B C
from_last A B C h = (h.1, h.2, h.0)

-- s and t with a number: whether pq, qr, rp have z on their left, on their right
pub uneven_none_below : (A B C a b c : ℤ) (la lb lc s1 t1 s2 t2 s3 t3 : Bool) → Balance A B C a b c
    → Height la a → Height lb b → Height lc c → Left s1 C → Right t1 C → Left s2 A → Right t2 A → Left s3 B → Right t3 B
    → (counts la lb s1 + counts lb lc s2 + counts lc la s3 ≡ counts lb la t1 + counts lc lb t2 + counts la lc t3 → ⊥) → NoneBelow A B C
uneven_none_below A B C a b c true true true s1 t1 s2 t2 s3 t3 h ha hb hc lC rC lA rA lB rB o = absurd (o refl)
uneven_none_below A B C a b c false false false s1 t1 s2 t2 s3 t3 h ha hb hc lC rC lA rA lB rB o = absurd (o refl)
uneven_none_below A B C a b c true false false s1 t1 s2 t2 s3 t3 h ha hb hc lC rC lA rA lB rB o =
    low_alone A B C a b c s1 t3 h ha hb hc lC rB (λ e. o (omega arith))
uneven_none_below A B C a b c false true false s1 t1 s2 t2 s3 t3 h ha hb hc lC rC lA rA lB rB o =
    from_next A B C (low_alone B C A b c a s2 t1 (next A B C a b c h) hb hc ha lA rC (λ e. o (omega arith)))
uneven_none_below A B C a b c false false true s1 t1 s2 t2 s3 t3 h ha hb hc lC rC lA rA lB rB o =
    from_last A B C (low_alone C A B c a b s3 t2 (next B C A b c a (next A B C a b c h)) hc ha hb lB rA (λ e. o (omega arith)))
uneven_none_below A B C a b c false true true s1 t1 s2 t2 s3 t3 h ha hb hc lC rC lA rA lB rB o =
    high_alone A B C a b c s3 t1 h ha hb hc lB rC (λ e. o (omega arith))
uneven_none_below A B C a b c true false true s1 t1 s2 t2 s3 t3 h ha hb hc lC rC lA rA lB rB o =
    from_next A B C (high_alone B C A b c a s1 t2 (next A B C a b c h) hb hc ha lC rA (λ e. o (omega arith)))
uneven_none_below A B C a b c true true false s1 t1 s2 t2 s3 t3 h ha hb hc lC rC lA rA lB rB o =
    from_last A B C (high_alone C A B c a b s2 t3 (next B C A b c a (next A B C a b c h)) hc ha hb lA rB (λ e. o (omega arith)))

-- ---- a share of a way
module _ (D B w u : ℤ) (hD : pos 0 <ᶻ D) (hB : pos 0 ≤ᶻ B) (e : D *ℤ w ≡ B *ℤ u) where
  share_up : pos 0 ≤ᶻ u → pos 0 ≤ᶻ w
  share_up h = not_below w (λ p. no_way e (mul_nonneg B u hB h) (mul_positive D (pos 0 -ℤ w) hD (turned_above w p)))
    where
      no_way : D *ℤ w ≡ B *ℤ u → pos 0 ≤ᶻ B *ℤ u → pos 0 <ᶻ D *ℤ (pos 0 -ℤ w) → ⊥
      no_way = ints (D ∷ B ∷ w ∷ u ∷ []) (λ ρ v n m. simp (int_rules, n, v 0, v 1, v 2, v 3) (omega arith))

opposite_share : (D B w u : ℤ) → D *ℤ w ≡ B *ℤ u → D *ℤ (pos 0 -ℤ w) ≡ B *ℤ (pos 0 -ℤ u)
opposite_share D B w u = ints (D ∷ B ∷ w ∷ u ∷ []) (λ ρ v n m. simp (int_rules, n, v 0, v 1, v 2, v 3) (omega arith))

-- v is B of D parts of the way after a, and A of D parts before b
pub share_between : (D A B a b v : ℤ) → pos 0 <ᶻ D → pos 0 ≤ᶻ A → pos 0 ≤ᶻ B
    → D *ℤ (v -ℤ a) ≡ B *ℤ (b -ℤ a) → D *ℤ (b -ℤ v) ≡ A *ℤ (b -ℤ a)
    → ((a ≤ᶻ v) × (v ≤ᶻ b)) ⊎ ((b ≤ᶻ v) × (v ≤ᶻ a))
share_between D A B a b v hD hA hB e f = ⊎_elim (λ p. inl (rising (lt_le a b p))) (λ q. inr (falling q)) (<-or-≤ a b)
  where
    from_difference : (x y : ℤ) → pos 0 ≤ᶻ y -ℤ x → x ≤ᶻ y
    from_difference x y = ints (x ∷ y ∷ []) (λ ρ v n m. simp (int_rules, n, v 0, v 1) (omega arith))

    from_opposite : (x y : ℤ) → pos 0 ≤ᶻ pos 0 -ℤ (y -ℤ x) → y ≤ᶻ x
    from_opposite x y = ints (x ∷ y ∷ []) (λ ρ v n m. simp (int_rules, n, v 0, v 1) (omega arith))

    opposite : (x y : ℤ) → y ≤ᶻ x → pos 0 ≤ᶻ pos 0 -ℤ (y -ℤ x)
    opposite x y = ints (x ∷ y ∷ []) (λ ρ v n m. simp (int_rules, n, v 0, v 1) (omega arith))

    rising : a ≤ᶻ b → (a ≤ᶻ v) × (v ≤ᶻ b)
    rising h = (
      from_difference a v (share_up D B (v -ℤ a) (b -ℤ a) hD hB e (difference_nonneg a b h)),
      from_difference v b (share_up D A (b -ℤ v) (b -ℤ a) hD hA f (difference_nonneg a b h)),
    )

    falling : b ≤ᶻ a → (b ≤ᶻ v) × (v ≤ᶻ a)
    falling h = (
      from_opposite v b
          (share_up D A (pos 0 -ℤ (b -ℤ v)) (pos 0 -ℤ (b -ℤ a)) hD hA (opposite_share D A (b -ℤ v) (b -ℤ a) f) (opposite a b h)),
      from_opposite a v
          (share_up D B (pos 0 -ℤ (v -ℤ a)) (pos 0 -ℤ (b -ℤ a)) hD hB (opposite_share D B (v -ℤ a) (b -ℤ a) e) (opposite a b h)),
    )
