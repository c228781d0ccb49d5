-- One step of an undecided list. In order: the two extremes p and q by sign and magnitude, and what its tests say of them; the list by the
-- tests; what p and q become: together worth as much, no new power of two, one no larger and the other much smaller; that a step writes
-- so (`step_cases`); it keeps the length and the doubles. Not here: the list's total (`Total`), how many steps there are (`Descent`).
-- Assumes nothing.
use mathlib.Core.Path.{◌≡◌, refl, sym, ap, ap₂, ◌∙◌, subst}
use mathlib.Core.Bool.{Bool, true, false, not, cond}
use mathlib.Core.List.{List}
use mathlib.Core.Logic.{◌⊎◌, inl, inr}
use Prim.Native.Nat.{ℕ, ◌+◌, ◌*◌, ◌^◌, ◌≤◌, ◌<◌, ◌∣◌}
use native.Mathlib.Nat.{le_trans, le_of_lt, le_of_eq}
use native.Mathlib.Omega.{arith}
use lib.Dec.{T, ltb, ltb→lt, nltb→le}
use lib.IntN.{ℤ, ◌+ℤ◌, ◌-ℤ◌, +ℤ_comm}
use lib.ListN.{length, set, length-set}
use lib.Pow.{pow_mono}
use lib.Ieee.{Float, binary64, prec, lt, neg}
use Rattle.double.specs.Worth.{sign_bit, mag, worth, double_of, plus0}
use Rattle.double.proofs.Laws.Units.{Real}
use Rattle.double.proofs.Laws.Signed.{Split, split_own, neg_own, lt_split}
use Rattle.double.proofs.Laws.Sum.{add_swap}
use Rattle.double.proofs.Laws.Step.{Opposed, step, step_shrinks, step_equal, step_worth, step_roundoff}
use Rattle.double.proofs.Laws.Decision.{decision_close}
use Rattle.sum.specs.Look.{count_of, extreme_of, index_of, verdict_of}
use Rattle.sum.specs.Step.{rounded, roundoff, put, step_of}
use Rattle.sum.proofs.Laws.Entries.{AllReal, all_set}
use Rattle.sum.proofs.Laws.Extremes.{extreme, plus0_is, far_sign}
use Rattle.sum.proofs.Laws.Verdict.{Open, undecided_open}
use Rattle.std.specs.Prelude.{None}

-- ---- the two extremes: p is positive, q is negative

pub record Facing (p q : Float) : Type 0 where
  pub p_real : Real binary64 p
  pub q_real : Real binary64 q
  pub p_sign : sign_bit p ≡ false
  pub q_sign : sign_bit q ≡ true
  pub p_some : 0 < mag binary64 p
  pub q_some : 0 < mag binary64 q

pub facing : (xs : List Float) → AllReal xs → 0 < count_of false xs → 0 < count_of true xs → Facing (extreme_of false xs) (extreme_of true xs)
facing xs a m n =
    let P = extreme false xs a in
    let Q = extreme true xs a in
    let ps = far_sign false (extreme_of false xs) (P.found m) in
    let qs = far_sign true (extreme_of true xs) (Q.found n) in
    record {
      p_real = P.real;
      q_real = Q.real;
      p_sign = ps.0;
      q_sign = qs.0;
      p_some = subst (λ (k : ℕ). 0 < k) (sym ps.1) (P.found m);
      q_some = subst (λ (k : ℕ). 0 < k) (sym qs.1) (Q.found n);
    }

module _ (p q : Float) (r : Facing p q) where
  p_split : Split false binary64 p (mag binary64 p) 0
  p_split = split_own false binary64 p r.p_real r.p_sign

  q_split : Split false binary64 (neg q) (mag binary64 q) 0
  q_split = neg_own false binary64 q r.q_real r.q_sign

  down : mag binary64 q ≤ mag binary64 p → Opposed binary64 p q
  down h = record {
    a_real = r.p_real;
    b_real = r.q_real;
    unlike = r.q_sign ∙ ap not (sym r.p_sign);
    nonzero = r.q_some;
    larger = h;
  }

  up : mag binary64 p ≤ mag binary64 q → Opposed binary64 q p
  up h = record {
    a_real = r.q_real;
    b_real = r.p_real;
    unlike = r.p_sign ∙ ap not (sym r.q_sign);
    nonzero = r.p_some;
    larger = h;
  }

  test_down : lt (neg q) p ≡ ltb (mag binary64 q) (mag binary64 p)
  test_down = lt_split false binary64 (neg q) p (mag binary64 q) (mag binary64 p) q_split p_split

  test_up : lt p (neg q) ≡ ltb (mag binary64 p) (mag binary64 q)
  test_up = lt_split false binary64 p (neg q) (mag binary64 p) (mag binary64 q) p_split q_split

  -- the tests: p is the larger, q is, or neither
  pub facing_down : lt (neg q) p ≡ true → Opposed binary64 p q
  facing_down e = down (le_of_lt (ltb→lt (mag binary64 q) (mag binary64 p) (subst T (sym e ∙ test_down) tt)))

  pub facing_up : lt p (neg q) ≡ true → Opposed binary64 q p
  facing_up e = up (le_of_lt (ltb→lt (mag binary64 p) (mag binary64 q) (subst T (sym e ∙ test_up) tt)))

  pub facing_level : lt (neg q) p ≡ false → lt p (neg q) ≡ false → Opposed binary64 p q × (mag binary64 p ≡ mag binary64 q)
  facing_level d u =
      let h = nltb→le (mag binary64 q) (mag binary64 p) (subst (λ (b : Bool). T (not b)) (sym d ∙ test_down) tt) in
      let k = nltb→le (mag binary64 p) (mag binary64 q) (subst (λ (b : Bool). T (not b)) (sym u ∙ test_up) tt) in
      let e = level (mag binary64 p) (mag binary64 q) h k in
      (down (le_of_eq (sym e)), e)
    where
      level : (P Q : ℕ) → P ≤ Q → Q ≤ P → P ≡ Q
      level P Q h k = omega arith

-- ---- the list by the tests

module _ (xs : List Float) where
  abbrev top : Float
  top = extreme_of false xs

  abbrev bottom : Float
  bottom = extreme_of true xs

  abbrev chosen : Bool → Bool → List Float
  chosen s t =
      cond s (put xs (rounded top bottom) (roundoff top bottom))
      (cond t (put xs (roundoff top bottom) (rounded top bottom)) (put xs plus0 plus0))

  pub step_down : lt (neg bottom) top ≡ true → step_of xs ≡ put xs (rounded top bottom) (roundoff top bottom)
  unfolding step_of
  step_down d = ap (λ (s : Bool). chosen s (lt top (neg bottom))) d

  pub step_up : lt (neg bottom) top ≡ false → lt top (neg bottom) ≡ true → step_of xs ≡ put xs (roundoff top bottom) (rounded top bottom)
  unfolding step_of
  step_up d u = ap₂ chosen d u

  pub step_level : lt (neg bottom) top ≡ false → lt top (neg bottom) ≡ false → step_of xs ≡ put xs plus0 plus0
  unfolding step_of
  step_level d u = ap₂ chosen d u

  put_length : (u v : Float) → length (put xs u v) ≡ length xs
  put_length u v = length-set (set xs (index_of false xs) u) (index_of true xs) v ∙ length-set xs (index_of false xs) u

  pub step_length : length (step_of xs) ≡ length xs
  unfolding step_of
  step_length = go (lt (neg bottom) top) (lt top (neg bottom))
    where
      go : (s t : Bool) → length (chosen s t) ≡ length xs
      go true t = put_length (rounded top bottom) (roundoff top bottom)
      go false true = put_length (roundoff top bottom) (rounded top bottom)
      go false false = put_length plus0 plus0

-- ---- what p and q become

-- one is no larger, the other smaller by d digits
abbrev pub Shrinks : ℕ → Float → Float → Float → Float → Type 0
Shrinks d p q u v =
    ((mag binary64 u ≤ mag binary64 p) × (mag binary64 v * 2 ^ d < mag binary64 q))
    ⊎ ((mag binary64 u * 2 ^ d < mag binary64 p) × (mag binary64 v ≤ mag binary64 q))

-- u and v; m entries are on p's side, n on q's
pub record Becomes (m n : ℕ) (p q u v : Float) : Type 0 where
  pub u_real : Real binary64 u
  pub v_real : Real binary64 v
  pub exact : worth u +ℤ worth v ≡ worth p +ℤ worth q
  pub grain : (j : ℕ) → 2 ^ j ∣ mag binary64 p → 2 ^ j ∣ mag binary64 q → (2 ^ j ∣ mag binary64 u) × (2 ^ j ∣ mag binary64 v)
  pub shrinks : (d k : ℕ) → prec binary64 ≡ d + k → m ≤ 2 ^ k → n ≤ 2 ^ k → Shrinks d p q u v

-- a is at most 2 ^ k times b, where n is at most 2 ^ k
abbrev Near : ℕ → Float → Float → Type 0
Near n a b = (k : ℕ) → n ≤ 2 ^ k → k ≤ prec binary64 → mag binary64 a ≤ mag binary64 b * 2 ^ k

-- a the larger: the exact step of `double`
becomes_step : (m n : ℕ) (a b : Float) → Opposed binary64 a b → Near n a b → Becomes m n a b (rounded a b) (roundoff a b)
becomes_step m n a b o near =
    let s = step binary64 a b o in
    subst (λ (y : Float). Becomes m n a b (rounded a b) y) (step_roundoff s) (record {
      u_real = s.x_real;
      v_real = s.y_real;
      exact = step_worth s;
      grain = s.grain;
      shrinks = λ d k e _ l. inl (s.x_le, step_shrinks s d k e o.nonzero (near k l (part_le d k (prec binary64) e)));
    })
  where
    part_le : (d k p : ℕ) → p ≡ d + k → k ≤ p
    part_le d k p e = omega arith

-- equal magnitudes leave nothing
becomes_nothing : (m n : ℕ) (a b : Float) → Opposed binary64 a b → mag binary64 a ≡ mag binary64 b → Near n a b
    → Becomes m n a b plus0 plus0
becomes_nothing m n a b o e near =
    let s = step binary64 a b o in
    let z = step_equal s e in
    subst (λ (x : Float). Becomes m n a b x plus0) (z.0 ∙ sym plus0_is)
    (subst (λ (y : Float). Becomes m n a b (rounded a b) y) (sym (step_roundoff s) ∙ z.1 ∙ sym plus0_is) (becomes_step m n a b o near))

-- the same with the two exchanged
becomes_turn : {m n : ℕ} {p q u v : Float} → Becomes m n p q u v → Becomes n m q p v u
becomes_turn {m} {n} {p} {q} {u} {v} r = record {
  u_real = r.v_real;
  v_real = r.u_real;
  exact = +ℤ_comm (worth v) (worth u) ∙ r.exact ∙ +ℤ_comm (worth p) (worth q);
  grain = λ j a b. let g = r.grain j b a in (g.1, g.0);
  shrinks = λ d k e a b. elim (r.shrinks d k e b a) [ inl h ↦ inr (h.1, h.0) | inr h ↦ inl (h.1, h.0) ];
}

pub rounded_turn : (p q : Float) → rounded q p ≡ rounded p q
rounded_turn p q = add_swap binary64 q p

pub roundoff_turn : (p q : Float) → roundoff q p ≡ roundoff p q
roundoff_turn p q = ap₂ (λ (z : ℤ) (x : Float). double_of (z -ℤ worth x)) (+ℤ_comm (worth q) (worth p)) (rounded_turn p q)

-- ---- a step writes u and v in the two slots
pub record Writes (xs : List Float) (u v : Float) : Type 0 where
  pub list : step_of xs ≡ put xs u v
  pub becomes : Becomes (count_of false xs) (count_of true xs) (extreme_of false xs) (extreme_of true xs) u v

pub step_cases : (xs : List Float) → verdict_of xs ≡ None → AllReal xs → (u : Float) × (v : Float) × Writes xs u v
step_cases xs e a = go (lt (neg q) p) (lt p (neg q)) refl refl
  where
    p : Float
    p = extreme_of false xs

    q : Float
    q = extreme_of true xs

    m : ℕ
    m = count_of false xs

    n : ℕ
    n = count_of true xs

    o : Open xs
    o = undecided_open xs e

    f : Facing p q
    f = facing xs a o.positives o.negatives

    -- neither test of the look holds
    p_near : Near n p q
    p_near k h l =
        decision_close binary64 p (neg q) n (mag binary64 p) (mag binary64 q) (p_split p q f) (q_split p q f)
        (le_trans h (pow_mono l)) k h o.above

    q_near : Near m q p
    q_near k h l =
        decision_close binary64 (neg q) p m (mag binary64 q) (mag binary64 p) (q_split p q f) (p_split p q f)
        (le_trans h (pow_mono l)) k h o.below

    go : (s t : Bool) → lt (neg q) p ≡ s → lt p (neg q) ≡ t → (u : Float) × (v : Float) × Writes xs u v
    go true t b c = (
      rounded p q,
      roundoff p q,
      record { list = step_down xs b; becomes = becomes_step m n p q (facing_down p q f b) p_near },
    )
    go false true b c = (
      roundoff p q,
      rounded p q,
      record {
        list = step_up xs b c;
        becomes = subst (λ (u : Float). Becomes m n p q u (rounded p q)) (roundoff_turn p q)
            (subst (λ (v : Float). Becomes m n p q (roundoff q p) v) (rounded_turn p q)
            (becomes_turn (becomes_step n m q p (facing_up p q f c) q_near)));
      },
    )
    go false false b c = (
      plus0,
      plus0,
      let z = facing_level p q f b c in
          record { list = step_level xs b c; becomes = becomes_nothing m n p q z.0 z.1 p_near },
    )

pub step_real : (xs : List Float) → verdict_of xs ≡ None → AllReal xs → AllReal (step_of xs)
step_real xs e a =
    let (u, v, w) = step_cases xs e a in
    let ys = set xs (index_of false xs) u in
    subst AllReal (sym w.list)
    (all_set (Real binary64) ys (index_of true xs) v (all_set (Real binary64) xs (index_of false xs) u a w.becomes.u_real)
    w.becomes.v_real)
