-- The exact step of two values of unlike sign, a the larger in magnitude: x is their rounded sum, y = b - (x - a) the roundoff, and
-- x + y is a + b. In order: by the part of a's sign; by magnitude, with the zeros and the common power of two; y against b; equal
-- magnitudes; a double's step in ℤ, and y as the double of what x lacks. Not here: which two values a step takes. Assumes nothing.
use mathlib.Core.Path.{◌≡◌, refl, sym, ap, ◌∙◌, subst}
use mathlib.Core.Bool.{Bool, true, false, not}
use mathlib.Core.Logic.{inl, inr}
use Prim.Native.Nat.{ℕ, zero, suc, ◌+◌, ◌-◌, ◌*◌, ◌^◌, ◌≤◌, ◌<◌, ◌∣◌}
use native.Mathlib.Nat.{lt_of_le_of_lt, dvd-zero, dvd-sub, dvd-add, add-zero, add_comm, suc-mul}
use native.Mathlib.Omega.{arith}
use lib.IntN.{ℤ, ◌+ℤ◌, ◌-ℤ◌, +ℤ_comm, +ℤ-neg_ℤ_cancel}
use lib.Pow.{pow_pos}
use lib.Ieee.{Float, Format, binary64, prec, add, sub}
use lib.Ieee.Scale.{overflow}
use Rattle.double.specs.Worth.{sign_bit, mag, plus, minus, worth, double_of}
use Rattle.double.proofs.Laws.Digits.{Rep, gap}
use Rattle.double.proofs.Laws.Rounding.{rn, rn_zero, rn_zero_only, rn_error, rn_dvd}
use Rattle.double.proofs.Laws.Units.{Real, prec_pos}
use Rattle.double.proofs.Laws.Signed.{part, Split, split_own, split_turn, split_unique, add_round, sub_exact}
use Rattle.double.proofs.Laws.Signed.{part_rep, part_lt, part_both, part_own, part_only}
use Rattle.double.proofs.Laws.Difference.{diff_le, diff_near, diff_under, diff_over, diff_rest, roundoff_shrinks}
use Rattle.double.proofs.Laws.Zero.{plus_zero, add_cancel, sub_self}
use Rattle.double.proofs.Laws.Worth.{worth_sums, double_of_worth_own}

-- unlike signs, neither is 0, and a is no smaller
pub record Opposed (f : Format) (a b : Float) : Type 0 where
  pub a_real : Real f a
  pub b_real : Real f b
  pub unlike : sign_bit b ≡ not (sign_bit a)
  pub nonzero : 0 < mag f b
  pub larger : mag f b ≤ mag f a

pub record Stepped (f : Format) (a b x y : Float) : Type 0 where
  pub x_real : Real f x
  pub y_real : Real f y
  -- x + y is a + b
  pub exact : plus f x + plus f y + (minus f a + minus f b) ≡ plus f a + plus f b + (minus f x + minus f y)
  -- x is the rounded difference of the magnitudes, with the sign of a, or +0
  pub x_mag : mag f x ≡ rn (prec f) (mag f a - mag f b)
  pub x_sign : 0 < mag f x → sign_bit x ≡ sign_bit a
  pub x_zero : mag f x ≡ 0 → x ≡ plus_zero
  pub x_le : mag f x ≤ mag f a
  -- y is small, and a y of 0 is +0
  pub y_small : mag f y * 2 ^ prec f ≤ mag f a - mag f b
  pub y_zero : mag f y ≡ 0 → y ≡ plus_zero
  -- a power of two that divides a and b divides x and y
  pub grain : (j : ℕ) → 2 ^ j ∣ mag f a → 2 ^ j ∣ mag f b → (2 ^ j ∣ mag f x) × (2 ^ j ∣ mag f y)

-- ---- by the part of a's sign s: a is A there, b is B on the other side
-- x is the rounded n = A - B on the side s, z = x - a lacks A - x, y is n - x
record Sided (s : Bool) (f : Format) (a b : Float) (A B : ℕ) (x z y : Float) : Type 0 where
  xs : Split s f x (rn (prec f) (A - B)) 0
  zs : Split s f z 0 (A - rn (prec f) (A - B))
  ys : Split s f y (A - B - rn (prec f) (A - B)) (rn (prec f) (A - B) - (A - B))
  le : rn (prec f) (A - B) ≤ A
  sum : part s f x + part s f y + (part (not s) f a + part (not s) f b) ≡ part s f a + part s f b + (part (not s) f x + part (not s) f y)

sided : (s : Bool) (f : Format) (a b : Float) (A B : ℕ) → Split s f a A 0 → Split s f b 0 B → B ≤ A
    → Sided s f a b A B (add f a b) (sub f (add f a b) a) (sub f b (sub f (add f a b) a))
sided s f a b A B u v h =
    let p = prec f in
    let P : 0 < p = prec_pos f in
    let n = A - B in
    let x = rn p n in
    let rep_a : Rep p A = subst (λ (z : ℕ). Rep p z) u.same (part_rep s f a u.real) in
    let rep_b : Rep p B = subst (λ (z : ℕ). Rep p z) v.other (part_rep (not s) f b v.real) in
    let le : x ≤ A = diff_le p P A B rep_a rep_b h in
    let near : gap x n ≤ B = diff_near p P A B rep_a rep_b h in
    let under : A < overflow f = subst (λ (z : ℕ). z < overflow f) u.same (part_lt s f a u.real) in
    let X : Split s f (add f a b) x 0 =
    add_round f a b u.real v.real s n (omega (arith, u.same, u.other, v.same, v.other)) (lt_of_le_of_lt le under) in
    let Z : Split s f (sub f (add f a b) a) 0 (A - x) =
    sub_exact f (add f a b) a X.real u.real s 0 (A - x) (omega (arith, X.same, X.other, u.same, u.other))
    (omega (arith, X.same, X.other, u.same, u.other)) (dvd-zero _) (diff_rest p P A B rep_a rep_b h) (omega arith) in
    let Y : Split s f (sub f b (sub f (add f a b) a)) (n - x) (x - n) =
    sub_exact f b (sub f (add f a b) a) v.real Z.real s (n - x) (x - n)
    (omega (arith, Z.same, Z.other, v.same, v.other)) (omega (arith, Z.same, Z.other, v.same, v.other))
    (diff_under p P A B rep_a rep_b h) (diff_over p P A B rep_a rep_b h) (omega arith) in
    record {
      xs = X;
      zs = Z;
      ys = Y;
      le = le;
      sum = omega (arith, u.same, u.other, v.same, v.other, X.same, X.other, Y.same, Y.other);
    }

-- ---- by magnitude
-- x + y is a + b, from either sign
even : (s : Bool) (f : Format) (a b x y : Float)
    → part s f x + part s f y + (part (not s) f a + part (not s) f b) ≡ part s f a + part s f b + (part (not s) f x + part (not s) f y)
    → plus f x + plus f y + (minus f a + minus f b) ≡ plus f a + plus f b + (minus f x + minus f y)
even false f a b x y e = e
even true f a b x y e = omega arith

pub step : (f : Format) (a b : Float) → Opposed f a b → Stepped f a b (add f a b) (sub f b (sub f (add f a b) a))
step f a b o =
    record {
      x_real = r.xs.real;
      y_real = r.ys.real;
      exact = even s f a b x y r.sum;
      x_mag = x_is;
      x_sign = λ h. elim (part_only s f x r.xs.other).1 [ inl e ↦ e | inr e ↦ absurd (none r.xs.same x_is e h) ];
      x_zero = λ e.
          add_cancel f a b o.a_real o.b_real o.unlike (level A B (rn_zero_only p n (prec_pos f) (sym x_is ∙ e)) o.larger);
      x_le = subst (λ (k : ℕ). k ≤ A) (sym x_is) r.le;
      y_small = subst (λ (k : ℕ). k * 2 ^ p ≤ n) (sym y_is) (rn_error p n (prec_pos f));
      y_zero = λ e. ap (sub f b) (z_is (sym y_is ∙ e)) ∙ sub_self f b o.b_real;
      grain = λ j da db.
          let dn : 2 ^ j ∣ n = dvd-sub (2 ^ j) da db in
          let dx : 2 ^ j ∣ rn p n = rn_dvd p j dn in (
            subst (λ (k : ℕ). 2 ^ j ∣ k) (sym x_is) dx,
            subst (λ (k : ℕ). 2 ^ j ∣ k) (sym y_is) (dvd-add (2 ^ j) (dvd-sub (2 ^ j) dx dn) (dvd-sub (2 ^ j) dn dx)),
          );
    }
  where
    s : Bool
    s = sign_bit a

    p : ℕ
    p = prec f

    A : ℕ
    A = mag f a

    B : ℕ
    B = mag f b

    n : ℕ
    n = A - B

    x : Float
    x = add f a b

    z : Float
    z = sub f x a

    y : Float
    y = sub f b z

    rest : (m n k : ℕ) → m + n ≡ k → n ≡ k → m ≡ 0
    rest m n k e h = omega arith

    none : {m n k : ℕ} → m ≡ n → k ≡ n → m ≡ 0 → 0 < k → ⊥
    none e g h l = omega arith

    level : (A B : ℕ) → A - B ≡ 0 → B ≤ A → B ≡ A
    level A B e h = omega arith

    whole : (m n k i j : ℕ) → m ≡ n → k ≡ i → m + k ≡ j → j ≡ n + i
    whole m n k i j e g h = omega arith

    turned : (A B x : ℕ) → B ≤ A → gap x (A - B) ≡ 0 → A - x ≡ B
    turned A B x h e = omega arith

    a_split : Split s f a A 0
    a_split = split_own s f a o.a_real refl

    b_split : Split s f b 0 B
    b_split =
        let e : part (not s) f b ≡ B = (part_own (not s) f b o.unlike).0 in
        record { real = o.b_real; same = rest (part s f b) (part (not s) f b) B (part_both s f b) e; other = e }

    r : Sided s f a b A B x z y
    r = sided s f a b A B a_split b_split o.larger

    x_is : mag f x ≡ rn p n
    x_is =
        whole (part s f x) (rn p n) (part (not s) f x) 0 (mag f x) r.xs.same r.xs.other (part_both s f x)
        ∙ add-zero (rn p n)

    y_is : mag f y ≡ gap (rn p n) n
    y_is =
        whole (part (not s) f y) (rn p n - n) (part s f y) (n - rn p n) (mag f y) r.ys.other r.ys.same
        (add_comm (part (not s) f y) (part s f y) ∙ part_both s f y)

    z_is : gap (rn p n) n ≡ 0 → z ≡ b
    z_is e =
        split_unique (not s) f z b B o.nonzero
        (subst (λ (k : ℕ). Split (not s) f z k 0) (turned A B (rn p n) o.larger e) (split_turn s f z 0 (A - rn p n) r.zs))
        (split_turn s f b 0 B b_split)

-- ---- y against b, where a is at most 2 ^ k times b
pub step_shrinks : {f : Format} {a b x y : Float} → Stepped f a b x y
    → (q k : ℕ) → prec f ≡ q + k → 0 < mag f b → mag f a ≤ mag f b * 2 ^ k → mag f y * 2 ^ q < mag f b
step_shrinks {f} {a} {b} {x} {y} r q k e h g = roundoff_shrinks (prec f) q k (mag f a) (mag f b) (mag f y) e h r.y_small g

-- equal magnitudes leave nothing
pub step_equal : {f : Format} {a b x y : Float} → Stepped f a b x y → mag f a ≡ mag f b → (x ≡ plus_zero) × (y ≡ plus_zero)
step_equal {f} {a} {b} {x} {y} r e =
    let p = prec f in
    let z : mag f a - mag f b ≡ 0 = level (mag f a) (mag f b) e in (
      r.x_zero (r.x_mag ∙ ap (rn p) z ∙ rn_zero p),
      r.y_zero (none (mag f y) (2 ^ p) (pow_pos p) (subst (λ (k : ℕ). mag f y * 2 ^ p ≤ k) z r.y_small)),
    )
  where
    level : (m n : ℕ) → m ≡ n → m - n ≡ 0
    level m n e = omega arith

    none : (m u : ℕ) → 0 < u → m * u ≤ 0 → m ≡ 0
    none zero u U h = refl
    none (suc m) u U h = absurd (omega (arith, suc-mul m u))

-- ---- a double's step, in ℤ
pub step_worth : {a b x y : Float} → Stepped binary64 a b x y → worth x +ℤ worth y ≡ worth a +ℤ worth b
step_worth {a} {b} {x} {y} r = worth_sums a b x y r.exact

-- y is what x lacks, as a double
pub step_roundoff : {a b x y : Float} → Stepped binary64 a b x y → y ≡ double_of (worth a +ℤ worth b -ℤ worth x)
step_roundoff {a} {b} {x} {y} r =
    sym (double_of_worth_own y r.y_real r.y_zero)
    ∙ ap double_of (sym (+ℤ-neg_ℤ_cancel (worth y) (worth x)) ∙ ap (λ (z : ℤ). z -ℤ worth x) (+ℤ_comm (worth y) (worth x) ∙ step_worth r))
