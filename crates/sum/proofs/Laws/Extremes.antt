-- The extremes of a list of doubles, one law for either side s. In order: how far an entry lies on a side; its tests as tests of numbers;
-- everything of an extreme, its index and the count at once; the same for a reader: the extreme is the entry at the index
-- (`extreme_entry`), no entry on the side is farther (`extreme_most`), those before the index are less far (`extreme_first`); the two
-- indices differ.
-- Not here: what the extremes decide (`Sign`), the step (`Total`). Assumes nothing.
use mathlib.Core.Path.{◌≡◌, refl, sym, ap, ap₂, ◌∙◌, subst}
use mathlib.Core.Bool.{Bool, true, false, not, cond, ◌&&◌}
use mathlib.Core.Logic.{◌≢◌}
use mathlib.Core.List.{List, [], ◌∷◌}
use Prim.Native.Nat.{ℕ, zero, suc, ◌+◌, ◌≤◌, ◌<◌, zero-le}
use native.Mathlib.Nat.{le_refl, le_trans, lt_trans, add-zero, zero-add, zero-lt-suc}
use native.Mathlib.Omega.{arith}
use lib.Arith.{lt→nleb}
use lib.Dec.{T, ltb, leb, ltb→lt, lt→ltb, nltb→le, leb→le, le→leb, nleb→lt}
use lib.ListN.{length, get_or}
use lib.Ieee.{Float, binary64, lt, of_bits}
use Rattle.double.specs.Worth.{sign_bit, mag, plus, minus, plus0}
use Rattle.double.proofs.Laws.Units.{Real}
use Rattle.double.proofs.Laws.Compare.{le_is}
use Rattle.double.proofs.Laws.Signed.{part}
use Rattle.double.proofs.Laws.Zero.{plus_zero, zero_real, lt_positive, lt_negative}
use Rattle.sum.specs.Look.{on_side, as_far, count_of, extreme_of, index_of}
use Rattle.sum.proofs.Laws.Entries.{AllReal, all_at}

-- ---- how far x lies on the side s, in units; 0 for what is on the other side. Shut, so that `omega` sees no power of two

unfoldable pub far : Bool → Float → ℕ
far s x = part s binary64 x

-- +0 as the specs write it
pub plus0_is : plus0 ≡ plus_zero
unfolding of_bits
plus0_is = refl

plus0_real : Real binary64 plus0
plus0_real = subst (λ (x : Float). Real binary64 x) (sym plus0_is) (zero_real binary64)

plus0_far : (s : Bool) → far s plus0 ≡ 0
unfolding far of_bits
plus0_far true = refl
plus0_far false = refl

-- what is on a side has its sign, and nothing on the other side
pub far_sign : (s : Bool) (x : Float) → 0 < far s x → (sign_bit x ≡ s) × (mag binary64 x ≡ far s x) × (far (not s) x ≡ 0)
unfolding far
far_sign s x = go s (sign_bit x) (mag binary64 x)
  where
    go : (s t : Bool) (n : ℕ) → 0 < cond s (cond t n 0) (cond t 0 n)
        → (t ≡ s) × (n ≡ cond s (cond t n 0) (cond t 0 n)) × (cond (not s) (cond t n 0) (cond t 0 n) ≡ 0)
    go true true n h = (refl, refl, refl)
    go true false n h = absurd (omega arith)
    go false true n h = absurd (omega arith)
    go false false n h = (refl, refl, refl)

far_other : (s : Bool) (x : Float) → 0 < far s x → far (not s) x ≡ 0
far_other s x h = (far_sign s x h).2

pub side_is : (s : Bool) (x : Float) → Real binary64 x → on_side s x ≡ ltb 0 (far s x)
unfolding far
side_is false x r = ap (λ (z : Float). lt z x) plus0_is ∙ lt_positive binary64 x r
side_is true x r = ap (λ (z : Float). lt x z) plus0_is ∙ lt_negative binary64 x r

-- of two that are not on the other side
as_far_is : (s : Bool) (x y : Float) → Real binary64 x → Real binary64 y → far (not s) x ≡ 0 → far (not s) y ≡ 0
    → as_far s x y ≡ leb (far s y) (far s x)
unfolding far
as_far_is false x y rx ry ox oy =
    le_is binary64 y x ry rx
    ∙ ap₂ leb (ap (λ (n : ℕ). plus binary64 y + n) ox ∙ add-zero _) (ap (λ (n : ℕ). plus binary64 x + n) oy ∙ add-zero _)
as_far_is true x y rx ry ox oy =
    le_is binary64 x y rx ry
    ∙ ap₂ leb (ap (λ (n : ℕ). n + minus binary64 y) ox ∙ zero-add _) (ap (λ (n : ℕ). n + minus binary64 x) oy ∙ zero-add _)

-- ---- everything of an extreme e, its index i and the count m of the entries on its side
pub record Extreme (s : Bool) (xs : List Float) (e : Float) (i m : ℕ) : Type 0 where
  pub real : Real binary64 e
  pub only : far (not s) e ≡ 0
  pub count : m ≤ length xs
  pub found : 0 < m → 0 < far s e
  pub none : m ≡ 0 → far s e ≡ 0
  pub inside : 0 < m → i < length xs
  pub entry : (d : Float) → 0 < m → get_or xs i d ≡ e
  pub most : (d : Float) (k : ℕ) → k < length xs → far s (get_or xs k d) ≤ far s e
  pub first : (d : Float) (k : ℕ) → k < i → 0 < m → far s (get_or xs k d) < far s e

pub extreme : (s : Bool) (xs : List Float) → AllReal xs → Extreme s xs (extreme_of s xs) (index_of s xs) (count_of s xs)
unfolding extreme_of index_of count_of
extreme s [] a = record {
  real = plus0_real;
  only = plus0_far (not s);
  count = zero-le;
  found = λ h. absurd (omega arith);
  none = λ h. plus0_far s;
  inside = λ h. absurd (omega arith);
  entry = λ d h. absurd (omega arith);
  most = λ d k h. absurd (omega arith);
  first = λ d k h. absurd (omega arith);
}
extreme s (x ∷ xs) a =
    let t = side_is s x a.0 in
    let r = extreme s xs a.1 in
    go r (on_side s x) (as_far s x (extreme_of s xs)) t
    (λ h. as_far_is s x (extreme_of s xs) a.0 r.real (far_other s x h) r.only)
  where
    -- where x is not it, all is as behind x
    behind : {e : Float} {i m : ℕ} (n : ℕ) → Extreme s xs e i m → (0 < n → 0 < m) → m ≤ n → n ≤ suc m
        → far s x ≤ far s e → (0 < m → far s x < far s e) → Extreme s (x ∷ xs) e (suc i) n
    behind {e} {i} {m} n r f g h L M = record {
      real = r.real;
      only = r.only;
      count = omega (arith, r.count);
      found = λ N. r.found (f N);
      none = λ N. r.none (omega arith);
      inside = λ N. omega (arith, r.inside (f N));
      entry = λ d N. r.entry d (f N);
      most = λ d k K. most d k K;
      first = λ d k K N. first d k K (f N);
    }
      where
        most : (d : Float) (k : ℕ) → k < suc (length xs) → far s (get_or (x ∷ xs) k d) ≤ far s e
        most d zero K = L
        most d (suc k) K = r.most d k (omega arith)

        first : (d : Float) (k : ℕ) → k < suc i → 0 < m → far s (get_or (x ∷ xs) k d) < far s e
        first d zero K N = M N
        first d (suc k) K N = r.first d k (omega arith) N

    -- where it is, nothing is before it
    here : {e : Float} {i m : ℕ} → Extreme s xs e i m → 0 < far s x → far s e ≤ far s x → Extreme s (x ∷ xs) x 0 (1 + m)
    here {e} {i} {m} r X L = record {
      real = a.0;
      only = far_other s x X;
      count = omega (arith, r.count);
      found = λ N. X;
      none = λ N. absurd (omega arith);
      inside = λ N. zero-lt-suc (length xs);
      entry = λ d N. refl;
      most = most;
      first = λ d k K N. absurd (omega arith);
    }
      where
        most : (d : Float) (k : ℕ) → k < suc (length xs) → far s (get_or (x ∷ xs) k d) ≤ far s x
        most d zero K = le_refl (far s x)
        most d (suc k) K = le_trans (r.most d k (omega arith)) L

    counted : (m n : ℕ) → (m ≡ 0 → n ≡ 0) → 0 < n → 0 < m
    counted zero n f h = absurd (omega (arith, f refl))
    counted (suc m) n f h = zero-lt-suc m

    go : {e : Float} {i m : ℕ} → Extreme s xs e i m → (b c : Bool) → b ≡ ltb 0 (far s x) → (0 < far s x → c ≡ leb (far s e) (far s x))
        → Extreme s (x ∷ xs) (cond (b && c) x e) (cond (b && c) 0 (suc i)) (cond b 1 0 + m)
    go {e} {i} {m} r true true p q =
        let X : 0 < far s x = ltb→lt 0 (far s x) (subst T p tt) in
        here r X (leb→le (far s e) (far s x) (subst T (q X) tt))
    go {e} {i} {m} r true false p q =
        let X : 0 < far s x = ltb→lt 0 (far s x) (subst T p tt) in
        let l : far s x < far s e = nleb→lt (far s e) (far s x) (subst (λ (b : Bool). T (not b)) (q X) tt) in
        let M : 0 < m = counted m (far s e) r.none (omega arith) in
        behind (1 + m) r (λ N. M) (omega arith) (omega arith) (omega arith) (λ N. l)
    go {e} {i} {m} r false c p q =
        let X : far s x ≤ 0 = nltb→le 0 (far s x) (subst (λ (b : Bool). T (not b)) p tt) in
        behind (0 + m) r (λ N. omega arith) (omega arith) (omega arith) (omega arith) (λ N. omega (arith, r.found N))

-- ---- for a reader
module _ (s : Bool) (xs : List Float) (a : AllReal xs) where
  known : Extreme s xs (extreme_of s xs) (index_of s xs) (count_of s xs)
  known = extreme s xs a

  side_of : (x : Float) → Real binary64 x → 0 < far s x → T (on_side s x)
  side_of x v h = subst T (sym (side_is s x v)) (lt→ltb 0 (far s x) h)

  of_side : (x : Float) → Real binary64 x → T (on_side s x) → 0 < far s x
  of_side x v t = ltb→lt 0 (far s x) (subst T (side_is s x v) t)

  -- where the side has an entry, the extreme is the entry at the index, and is on the side
  pub extreme_entry : (d : Float) → 0 < count_of s xs
      → (index_of s xs < length xs) × (get_or xs (index_of s xs) d ≡ extreme_of s xs) × T (on_side s (extreme_of s xs))
  extreme_entry d h = (known.inside h, known.entry d h, side_of (extreme_of s xs) known.real (known.found h))

  -- no entry on the side is farther
  pub extreme_most : (d : Float) (k : ℕ) → k < length xs → T (on_side s (get_or xs k d)) → T (as_far s (extreme_of s xs) (get_or xs k d))
  extreme_most d k h t =
      let x = get_or xs k d in
      let v = all_at (Real binary64) xs k d a h in
      let X = of_side x v t in
      subst T (sym (as_far_is s (extreme_of s xs) x known.real v known.only (far_other s x X)))
      (le→leb (far s x) (far s (extreme_of s xs)) (known.most d k h))

  -- of equal entries the first is taken: those before it are less far
  pub extreme_first : (d : Float) (k : ℕ) → k < index_of s xs → 0 < count_of s xs → T (on_side s (get_or xs k d))
      → T (not (as_far s (get_or xs k d) (extreme_of s xs)))
  extreme_first d k h m t =
      let x = get_or xs k d in
      let v = all_at (Real binary64) xs k d a (lt_trans h (known.inside m)) in
      let X = of_side x v t in
      subst (λ (b : Bool). T (not b)) (sym (as_far_is s x (extreme_of s xs) v known.real (far_other s x X) known.only))
      (lt→nleb (far s (extreme_of s xs)) (far s x) (known.first d k h m))

-- where both sides have entries, the two indices differ
pub extreme_apart : (xs : List Float) → AllReal xs → 0 < count_of false xs → 0 < count_of true xs → index_of false xs ≢ index_of true xs
extreme_apart xs a m n e =
    let p = extreme false xs a in
    let q = extreme true xs a in
    clash (far false (extreme_of false xs)) (p.found m)
    (subst (λ (x : Float). far false x ≡ 0) (sym (q.entry plus0 n) ∙ ap (λ (i : ℕ). get_or xs i plus0) (sym e) ∙ p.entry plus0 m) q.only)
  where
    clash : (k : ℕ) → 0 < k → k ≡ 0 → ⊥
    clash k h e = omega arith
