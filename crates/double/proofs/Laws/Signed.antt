-- The laws of add and sub as a proof uses them: `part s` of a value is its magnitude where its sign is s, and 0 otherwise. Each law holds
-- for either s, so a proof goes once for both signs. In order: `Split`, what both parts are; a sum that the format holds is exact
-- (`add_exact`), any other is rounded (`add_round`); a difference that it holds; the parts of a value; comparison on one side.
-- Not here: products (`Multiply`). Assumes nothing.
use mathlib.Core.Path.{◌≡◌, refl, sym, ap, ◌∙◌, subst}
use mathlib.Core.Logic.{◌⊎◌, inl, inr}
use mathlib.Core.Bool.{Bool, true, false, not, cond}
use Prim.Native.Nat.{ℕ, zero, suc, ◌+◌, ◌-◌, ◌<◌}
use native.Mathlib.Nat.{lt_of_le_of_lt, le_of_eq, zero-lt-suc, add-zero, zero-add, dvd-zero}
use native.Mathlib.Omega.{arith}
use lib.Dec.{ltb}
use lib.Pow.{pow_pos}
use lib.Ieee.{Float, Format, prec, add, sub, neg, lt}
use lib.Ieee.Scale.{overflow}
use Rattle.double.specs.Worth.{sign_bit, mag, plus, minus, of_units}
use Rattle.double.proofs.Laws.Digits.{Rep, gap}
use Rattle.double.proofs.Laws.Rounding.{rn, rn_kept, rn_zero}
use Rattle.double.proofs.Laws.Units.{Real, Parts, mag_rep, mag_lt, of_units_parts, value_unique}
use Rattle.double.proofs.Laws.Compare.{lt_is}
use Rattle.double.proofs.Laws.Sum.{add_law, neg_plus, neg_minus, neg_sign_bit, neg_mag, neg_real}

abbrev pub part : Bool → Format → Float → ℕ
part s f x = cond s (minus f x) (plus f x)

-- x is a finite value whose part of the sign s is a, and the other b
pub record Split (s : Bool) (f : Format) (x : Float) (a b : ℕ) : Type 0 where
  pub real : Real f x
  pub same : part s f x ≡ a
  pub other : part (not s) f x ≡ b

pub split_of : (s : Bool) (f : Format) (x : Float) (a b : ℕ) → Parts f x (cond s b a) (cond s a b) → Split s f x a b
split_of false f x a b r = record { real = r.real; same = r.plus_is; other = r.minus_is }
split_of true f x a b r = record { real = r.real; same = r.minus_is; other = r.plus_is }

pub of_units_split : (f : Format) (s : Bool) (n : ℕ) → rn (prec f) n < overflow f → Split s f (of_units f s n) (rn (prec f) n) 0
of_units_split f false n h = split_of false f (of_units f false n) (rn (prec f) n) 0 (of_units_parts f false n h)
of_units_split f true n h = split_of true f (of_units f true n) (rn (prec f) n) 0 (of_units_parts f true n h)

-- ---- the sum: with P the parts of the sign s together and N the others, P - N rounded
turn : (P N : ℕ) → gap P N ≡ gap N P
turn P N = omega arith

module _ (f : Format) (x y : Float) (rx : Real f x) (ry : Real f y) where
  add_split : (s : Bool) → (let P = part s f x + part s f y in let N = part (not s) f x + part (not s) f y in
      rn (prec f) (gap P N) < overflow f → Split s f (add f x y) (rn (prec f) (P - N)) (rn (prec f) (N - P)))
  add_split false h = split_of false f (add f x y) _ _ (add_law f x y rx ry h)
  add_split true h =
      split_of true f (add f x y) _ _
      (add_law f x y rx ry (subst (λ (z : ℕ). rn (prec f) z < overflow f) (turn (minus f x + minus f y) (plus f x + plus f y)) h))

  -- where the format holds the sum, a on the side s or b on the other, that is the sum
  pub add_exact : (s : Bool) (a b : ℕ)
      → part s f x + part s f y - (part (not s) f x + part (not s) f y) ≡ a
      → part (not s) f x + part (not s) f y - (part s f x + part s f y) ≡ b
      → Rep (prec f) a → Rep (prec f) b → a + b < overflow f → Split s f (add f x y) a b
  add_exact s a b e g ra rb h =
      let P = part s f x + part s f y in
      let N = part (not s) f x + part (not s) f y in
      let p = prec f in
      let w : rn p (gap P N) < overflow f = lt_of_le_of_lt (le_of_eq (whole (gap P N) a b (omega arith) (omega arith) ra rb)) h in
      let r = add_split s w in
      record {
        real = r.real;
        same = r.same ∙ ap (λ (z : ℕ). rn p z) e ∙ rn_kept p ra;
        other = r.other ∙ ap (λ (z : ℕ). rn p z) g ∙ rn_kept p rb;
      }
    where
      whole : (n a b : ℕ) → n ≡ a + b → (0 < a → b ≡ 0) → Rep (prec f) a → Rep (prec f) b → rn (prec f) n ≡ a + b
      whole n zero b e z ra rb = rn_kept (prec f) (subst (λ (k : ℕ). Rep (prec f) k) (omega arith) rb) ∙ e
      whole n (suc a) b e z ra rb = rn_kept (prec f) (subst (λ (k : ℕ). Rep (prec f) k) (omega (arith, z (zero-lt-suc a))) ra) ∙ e

  -- a sum that lies on the side s, or is 0, is rounded there
  pub add_round : (s : Bool) (a : ℕ) → part s f x + part s f y ≡ a + (part (not s) f x + part (not s) f y)
      → rn (prec f) a < overflow f → Split s f (add f x y) (rn (prec f) a) 0
  add_round s a e h =
      let P = part s f x + part s f y in
      let N = part (not s) f x + part (not s) f y in
      let p = prec f in
      let r = add_split s (subst (λ (z : ℕ). rn p z < overflow f) (far P N a e) h) in
      record {
        real = r.real;
        same = r.same ∙ ap (λ (z : ℕ). rn p z) (over P N a e);
        other = r.other ∙ ap (λ (z : ℕ). rn p z) (under P N a e) ∙ rn_zero p;
      }
    where
      far : (P N a : ℕ) → P ≡ a + N → a ≡ gap P N
      far P N a e = omega arith

      over : (P N a : ℕ) → P ≡ a + N → P - N ≡ a
      over P N a e = omega arith

      under : (P N a : ℕ) → P ≡ a + N → N - P ≡ 0
      under P N a e = omega arith

-- ---- negation swaps the parts, so a difference is a sum
pub neg_split : (s : Bool) (f : Format) (y : Float) → Real f y → Split s f (neg y) (part (not s) f y) (part s f y)
neg_split false f y r = record { real = neg_real f y r; same = neg_plus f y r.fin; other = neg_minus f y r.fin }
neg_split true f y r = record { real = neg_real f y r; same = neg_minus f y r.fin; other = neg_plus f y r.fin }

module _ (f : Format) (x y : Float) (rx : Real f x) (ry : Real f y) where
  pub sub_exact : (s : Bool) (a b : ℕ)
      → part s f x + part (not s) f y - (part (not s) f x + part s f y) ≡ a
      → part (not s) f x + part s f y - (part s f x + part (not s) f y) ≡ b
      → Rep (prec f) a → Rep (prec f) b → a + b < overflow f → Split s f (sub f x y) a b
  unfolding sub
  sub_exact s a b e g =
      let n = neg_split s f y ry in
      add_exact f x (neg y) rx n.real s a b (rw (n.same, n.other) e) (rw (n.same, n.other) g)

-- ---- the parts of a value of the format
pub part_rep : (s : Bool) (f : Format) (x : Float) → Real f x → Rep (prec f) (part s f x)
part_rep s f x r = go s (sign_bit x)
  where
    go : (s t : Bool) → Rep (prec f) (cond s (cond t (mag f x) 0) (cond t 0 (mag f x)))
    go true true = mag_rep f x r
    go true false = dvd-zero _
    go false true = dvd-zero _
    go false false = mag_rep f x r

pub part_lt : (s : Bool) (f : Format) (x : Float) → Real f x → part s f x < overflow f
part_lt s f x r = go s (sign_bit x)
  where
    go : (s t : Bool) → cond s (cond t (mag f x) 0) (cond t 0 (mag f x)) < overflow f
    go true true = mag_lt f x r
    go true false = pow_pos _
    go false true = pow_pos _
    go false false = mag_lt f x r

-- with nothing on the side of not s: the magnitude lies on the side s, and so does the sign bit, unless the value is 0
pub part_only : (s : Bool) (f : Format) (x : Float) → part (not s) f x ≡ 0
    → (mag f x ≡ part s f x) × ((sign_bit x ≡ s) ⊎ (part s f x ≡ 0))
part_only s f x = go s (sign_bit x)
  where
    go : (s t : Bool) → cond (not s) (cond t (mag f x) 0) (cond t 0 (mag f x)) ≡ 0
        → (mag f x ≡ cond s (cond t (mag f x) 0) (cond t 0 (mag f x)))
        × ((t ≡ s) ⊎ (cond s (cond t (mag f x) 0) (cond t 0 (mag f x)) ≡ 0))
    go true true e = (refl, inl refl)
    go true false e = (e, inr refl)
    go false true e = (e, inr refl)
    go false false e = (refl, inl refl)

-- both parts together are the magnitude
pub part_both : (s : Bool) (f : Format) (x : Float) → part s f x + part (not s) f x ≡ mag f x
part_both s f x = go s (sign_bit x) (mag f x)
  where
    go : (s t : Bool) (n : ℕ) → cond s (cond t n 0) (cond t 0 n) + cond (not s) (cond t n 0) (cond t 0 n) ≡ n
    go true true n = omega arith
    go true false n = omega arith
    go false true n = omega arith
    go false false n = omega arith

-- the part of its own sign is the magnitude, the other 0
pub part_own : (s : Bool) (f : Format) (x : Float) → sign_bit x ≡ s → (part s f x ≡ mag f x) × (part (not s) f x ≡ 0)
part_own s f x e =
    subst (λ (t : Bool). (cond s (cond t n 0) (cond t 0 n) ≡ n) × (cond (not s) (cond t n 0) (cond t 0 n) ≡ 0)) (sym e) (go s)
  where
    n : ℕ
    n = mag f x

    go : (s : Bool) → (cond s (cond s n 0) (cond s 0 n) ≡ n) × (cond (not s) (cond s n 0) (cond s 0 n) ≡ 0)
    go true = (refl, refl)
    go false = (refl, refl)

pub split_own : (s : Bool) (f : Format) (x : Float) → Real f x → sign_bit x ≡ s → Split s f x (mag f x) 0
split_own s f x r e = let p = part_own s f x e in record { real = r; same = p.0; other = p.1 }

-- .. and negated
pub neg_own : (s : Bool) (f : Format) (x : Float) → Real f x → sign_bit x ≡ not s → Split s f (neg x) (mag f x) 0
neg_own s f x r e =
    subst (λ (n : ℕ). Split s f (neg x) n 0) (neg_mag f x)
    (split_own s f (neg x) (neg_real f x r) (neg_sign_bit x r.fin ∙ ap not e ∙ twice s))
  where
    twice : (s : Bool) → not (not s) ≡ s
    twice true = refl
    twice false = refl

-- the same from the other sign
pub split_turn : (s : Bool) (f : Format) (x : Float) (a b : ℕ) → Split s f x a b → Split (not s) f x b a
split_turn true f x a b r = record { real = r.real; same = r.other; other = r.same }
split_turn false f x a b r = record { real = r.real; same = r.other; other = r.same }

-- so a value that is not 0 is known by its part of one sign
pub split_unique : (s : Bool) (f : Format) (x y : Float) (a : ℕ) → 0 < a → Split s f x a 0 → Split s f y a 0 → x ≡ y
split_unique s f x y a h u v =
    value_unique f x y u.real v.real (sign x u ∙ sym (sign y v))
    ((part_only s f x u.other).0 ∙ u.same ∙ sym ((part_only s f y v.other).0 ∙ v.same))
  where
    none : a ≡ 0 → ⊥
    none e = omega arith

    sign : (z : Float) → Split s f z a 0 → sign_bit z ≡ s
    sign z w = elim (part_only s f z w.other).1 [ inl e ↦ e | inr e ↦ absurd (none (sym w.same ∙ e)) ]

-- ---- two values on the same side are compared by magnitude
pub lt_split : (s : Bool) (f : Format) (x y : Float) (a b : ℕ) → Split s f x a 0 → Split s f y b 0
    → lt x y ≡ cond s (ltb b a) (ltb a b)
lt_split false f x y a b u v = lt_is f x y u.real v.real ∙ rw (u.same, u.other, v.same, v.other, add-zero a, add-zero b)
lt_split true f x y a b u v = lt_is f x y u.real v.real ∙ rw (u.same, u.other, v.same, v.other, zero-add b, zero-add a)
