-- Comparisons of finite values, in units: x < y is plus x + minus y < plus y + minus x, and so for equal and at most.
-- In order: fractions of one denominator as numbers of units; less; equal; at most; +infinity against a finite value.
-- Not here: NaN. Assumes nothing.
use mathlib.Core.Path.{◌≡◌, refl, sym, ap, ap₂, ◌∙◌}
use mathlib.Core.Logic.{inl, inr}
use mathlib.Core.Bool.{Bool, true, false, ◌&&◌, ◌||◌, beq, cond}
use Prim.Native.Nat.{ℕ, ◌+◌, ◌*◌, ◌^◌, ◌≤◌, ◌<◌}
use native.Mathlib.Nat.{le_of_eq, le_of_lt, lt_of_lt_of_le, lt_of_le_of_lt, eq-or-lt_of_le, zero-mul, add-mul, mul_comm, mul_assoc}
use native.Mathlib.Nat.{mul_right_comm, mul-pos, mul-lt-mul_of_pos_right, lt_of_mul-lt-mul_right, eq_of_mul-eq-mul_right}
use native.Mathlib.Omega.{arith}
use lib.IntN.{ℤ}
use lib.Dec.{T, leb, ltb, eqb, leb→le, le→leb, ltb→lt, lt→ltb, eqb→eq}
use lib.Pow.{pow_pos}
use lib.Ieee.{Float, nan, inf, fin, Format, low, up, down, fits, below, level, lt, le, eq}
use lib.Ieee.Fits.{down_pos, and_i, and_l, and_r, eq→eqb}
use lib.Ieee.Scale.{finite}
use Rattle.double.specs.Worth.{mag, plus, minus}
use Rattle.double.proofs.Laws.Units.{Real, mag_exact}

-- ---- tests with the same outcome
same_test : (a b : Bool) → (T a → T b) → (T b → T a) → a ≡ b
same_test true true p q = refl
same_test true false p q = absurd (p tt)
same_test false true p q = absurd (q tt)
same_test false false p q = refl

ltb_same : (a b c d : ℕ) → (a < b → c < d) → (c < d → a < b) → ltb a b ≡ ltb c d
ltb_same a b c d h k = same_test (ltb a b) (ltb c d) (λ t. lt→ltb c d (h (ltb→lt a b t))) (λ t. lt→ltb a b (k (ltb→lt c d t)))

eqb_same : (a b c d : ℕ) → (a ≡ b → c ≡ d) → (c ≡ d → a ≡ b) → eqb a b ≡ eqb c d
eqb_same a b c d h k = same_test (eqb a b) (eqb c d) (λ t. eq→eqb (h (eqb→eq a b t))) (λ t. eq→eqb (k (eqb→eq c d t)))

-- ---- fractions a / c and b / c that are x / l and y / l
scaled_lt : (a b x y l c : ℕ) → 0 < c → a * l ≡ x * c → b * l ≡ y * c → a < b → 0 < l → x < y
scaled_lt a b x y l c C p q h L =
    lt_of_mul-lt-mul_right c (lt_of_le_of_lt (le_of_eq (sym p)) (lt_of_lt_of_le (mul-lt-mul_of_pos_right h L) (le_of_eq q)))

module _ (a b x y l c : ℕ) (C : 0 < c) (L : 0 < l) (p : a * l ≡ x * c) (q : b * l ≡ y * c) where
  pub scaled_ltb : ltb a b ≡ ltb x y
  scaled_ltb = ltb_same a b x y (λ h. scaled_lt a b x y l c C p q h L) (λ h. scaled_lt x y a b c l L (sym p) (sym q) h C)

  scaled_eq : a ≡ b → x ≡ y
  scaled_eq e = eq_of_mul-eq-mul_right c C x y (sym p ∙ ap (λ (z : ℕ). z * l) e ∙ q)

-- the numerator of x over the denominators of x and y, in units
pub cross : (f : Format) (s : Bool) (m : ℕ) (e d : ℤ) → T (fits f (fin s m e))
    → m * up e * down d * 2 ^ low f ≡ mag f (fin s m e) * (down e * down d)
cross f s m e d p =
    mul_right_comm (m * up e) (down d) (2 ^ low f)
    ∙ ap (λ (z : ℕ). z * down d) (mag_exact f (fin s m e) p) ∙ mul_assoc (mag f (fin s m e)) (down e) (down d)

-- .. and that of y
pub cross_other : (f : Format) (t : Bool) (n : ℕ) (e d : ℤ) → T (fits f (fin t n d))
    → n * up d * down e * 2 ^ low f ≡ mag f (fin t n d) * (down e * down d)
cross_other f t n e d q = cross f t n d e q ∙ ap (λ (z : ℕ). mag f (fin t n d) * z) (mul_comm (down d) (down e))

-- ---- less, by the signs
below_is : (s : Bool) (x : ℕ) (t : Bool) (y : ℕ) → below s x t y ≡ ltb (cond s 0 x + cond t y 0) (cond t 0 y + cond s x 0)
below_is false x false y = ltb_same x y (x + 0) (y + 0) (λ h. omega arith) (λ h. omega arith)
below_is false x true y = same_test false (ltb (x + y) (0 + 0)) absurd (λ t. let h = ltb→lt (x + y) (0 + 0) t in omega arith)
below_is true x false y = ltb_same 0 (x + y) (0 + 0) (y + x) (λ h. omega arith) (λ h. omega arith)
below_is true x true y = ltb_same y x (0 + y) (0 + x) (λ h. omega arith) (λ h. omega arith)

below_same : (s : Bool) (a : ℕ) (t : Bool) (b x y l c : ℕ) → 0 < c → 0 < l → a * l ≡ x * c → b * l ≡ y * c → below s a t b ≡ below s x t y
below_same false a false b x y l c C L p q = scaled_ltb a b x y l c C L p q
below_same false a true b x y l c C L p q = refl
below_same true a false b x y l c C L p q =
    scaled_ltb 0 (a + b) 0 (x + y) l c C L (zero-mul l ∙ sym (zero-mul c))
    (add-mul a b l ∙ ap₂ (λ (v w : ℕ). v + w) p q ∙ sym (add-mul x y c))
below_same true a true b x y l c C L p q = scaled_ltb b a y x l c C L q p

pub lt_is : (f : Format) (x y : Float) → Real f x → Real f y → lt x y ≡ ltb (plus f x + minus f y) (plus f y + minus f x)
unfolding lt
lt_is f nan y u v = absurd u.fin
lt_is f (inf s) y u v = absurd u.fin
lt_is f (fin s m e) nan u v = absurd v.fin
lt_is f (fin s m e) (inf t) u v = absurd v.fin
lt_is f (fin s m e) (fin t n d) u v =
    let x = mag f (fin s m e) in
    let y = mag f (fin t n d) in
    below_same s (m * up e * down d) t (n * up d * down e) x y (2 ^ low f) (down e * down d)
    (mul-pos (down_pos e) (down_pos d)) (pow_pos (low f)) (cross f s m e d u.fit) (cross_other f t n e d v.fit)
    ∙ below_is s x t y

-- ---- equal, by the signs
-- a conjunction of tests, as one test
test_is : (b : Bool) (c d : ℕ) → (T b → c ≡ d) → (c ≡ d → T b) → b ≡ eqb c d
test_is b c d h k = same_test b (eqb c d) (λ t. eq→eqb (h t)) (λ t. k (eqb→eq c d t))

-- of unlike signs: both are 0
zeros : (x y c d : ℕ) → (x ≡ y → x ≡ 0 → c ≡ d) → (c ≡ d → x ≡ y) → (c ≡ d → x ≡ 0) → (eqb x y && eqb x 0) ≡ eqb c d
zeros x y c d f g h =
    test_is (eqb x y && eqb x 0) c d (λ t. f (eqb→eq x y (and_l (eqb x y) (eqb x 0) t)) (eqb→eq x 0 (and_r (eqb x y) (eqb x 0) t)))
    (λ e. and_i (eqb x y) (eqb x 0) (eq→eqb (g e)) (eq→eqb (h e)))

-- of like signs
equals : (x y c d : ℕ) → (x ≡ y → c ≡ d) → (c ≡ d → x ≡ y) → (eqb x y && true) ≡ eqb c d
equals x y c d f g =
    test_is (eqb x y && true) c d (λ t. f (eqb→eq x y (and_l (eqb x y) true t))) (λ e. and_i (eqb x y) true (eq→eqb (g e)) tt)

level_is : (s : Bool) (x : ℕ) (t : Bool) (y : ℕ) → level s x t y ≡ eqb (cond s 0 x + cond t y 0) (cond t 0 y + cond s x 0)
level_is false x false y = equals x y (x + 0) (y + 0) (λ h. omega arith) (λ h. omega arith)
level_is true x true y = equals x y (0 + y) (0 + x) (λ h. omega arith) (λ h. omega arith)
level_is false x true y = zeros x y (x + y) (0 + 0) (λ h k. omega arith) (λ h. omega arith) (λ h. omega arith)
level_is true x false y = zeros x y (0 + 0) (y + x) (λ h k. omega arith) (λ h. omega arith) (λ h. omega arith)

level_same : (s : Bool) (a : ℕ) (t : Bool) (b x y l c : ℕ) → 0 < c → 0 < l → a * l ≡ x * c → b * l ≡ y * c → level s a t b ≡ level s x t y
level_same s a t b x y l c C L p q =
    let z = zero-mul l ∙ sym (zero-mul c) in
    ap₂ (λ (g h : Bool). g && (beq s t || h))
    (eqb_same a b x y (scaled_eq a b x y l c C L p q) (scaled_eq x y a b c l L C (sym p) (sym q)))
    (eqb_same a 0 x 0 (scaled_eq a 0 x 0 l c C L p z) (scaled_eq x 0 a 0 c l L C (sym p) (sym z)))

pub eq_is : (f : Format) (x y : Float) → Real f x → Real f y → eq x y ≡ eqb (plus f x + minus f y) (plus f y + minus f x)
unfolding eq
eq_is f nan y u v = absurd u.fin
eq_is f (inf s) y u v = absurd u.fin
eq_is f (fin s m e) nan u v = absurd v.fin
eq_is f (fin s m e) (inf t) u v = absurd v.fin
eq_is f (fin s m e) (fin t n d) u v =
    let x = mag f (fin s m e) in
    let y = mag f (fin t n d) in
    level_same s (m * up e * down d) t (n * up d * down e) x y (2 ^ low f) (down e * down d)
    (mul-pos (down_pos e) (down_pos d)) (pow_pos (low f)) (cross f s m e d u.fit) (cross_other f t n e d v.fit)
    ∙ level_is s x t y

-- ---- at most
or_is : (a b : ℕ) → (ltb a b || eqb a b) ≡ leb a b
or_is a b =
    same_test (ltb a b || eqb a b) (leb a b)
    (λ h. le→leb a b (one (ltb a b) (eqb a b) (λ t. le_of_lt (ltb→lt a b t)) (λ t. le_of_eq (eqb→eq a b t)) h)) back
  where
    one : (c d : Bool) → (T c → a ≤ b) → (T d → a ≤ b) → T (c || d) → a ≤ b
    one true d f g t = f tt
    one false d f g t = g t

    left : (c d : Bool) → T c → T (c || d)
    left true d t = tt
    left false d t = absurd t

    right : (c d : Bool) → T d → T (c || d)
    right true d t = tt
    right false d t = t

    back : T (leb a b) → T (ltb a b || eqb a b)
    back h = elim (eq-or-lt_of_le (leb→le a b h)) [
      | inl e ↦ right (ltb a b) (eqb a b) (eq→eqb e)
      | inr l ↦ left (ltb a b) (eqb a b) (lt→ltb a b l)
    ]

pub le_is : (f : Format) (x y : Float) → Real f x → Real f y → le x y ≡ leb (plus f x + minus f y) (plus f y + minus f x)
unfolding le
le_is f x y u v = ap₂ (λ (g h : Bool). g || h) (lt_is f x y u v) (eq_is f x y u v) ∙ or_is (plus f x + minus f y) (plus f y + minus f x)

-- ---- +infinity is below no finite value
pub inf_lt : (x : Float) → T (finite x) → lt (inf false) x ≡ false
unfolding lt
inf_lt nan t = absurd t
inf_lt (inf s) t = absurd t
inf_lt (fin s m e) t = refl
