-- The difference of two whole numbers of p digits, rounded, and its roundoff. In order: Sterbenz, a difference of numbers within a
-- factor of two has p digits; the rounded a - b is at most a, its error at most b, and the error and a less the rounded difference have
-- p digits (Dekker); a count times b, rounded, against a; how small the roundoff is against b.
-- Not here: floats (`Step`, `Decision`). Assumes nothing.
use mathlib.Core.Path.{◌≡◌, sym, ap, ◌∙◌, subst}
use mathlib.Core.Bool.{Bool, true, false, not}
use Prim.Native.Nat.{ℕ, ◌+◌, ◌-◌, ◌*◌, ◌^◌, ◌≤◌, ◌<◌, ◌∣◌}
use native.Mathlib.Nat.{le_trans, le_of_eq, le_of_lt, lt_of_le_of_lt, lt_of_not-le, not-le_of_lt, sub-le, mul_comm, mul_assoc, mul-pos}
use native.Mathlib.Nat.{mul-le-mul_right, lt_of_mul-lt-mul_right, dvd-sub}
use native.Mathlib.Omega.{arith}
use lib.Dec.{T, leb, leb→le, nleb→lt}
use lib.Pow.{pow-add, pow_pos}
use Rattle.double.proofs.Laws.Digits.{cut, ulp, Rep, gap, cut_enough, rep_of, rep_edge, rep_dvd, rep_scale}
use Rattle.double.proofs.Laws.Rounding.{rn, rn_dvd, rn_dvd_ulp, rn_kept, rn_near, rn_half, rn_le, rn_ge}

module _ (p : ℕ) (P : 0 < p) where
  pub sterbenz : {a b : ℕ} → Rep p a → Rep p b → b ≤ a → a ≤ b + b → Rep p (a - b)
  sterbenz {a} {b} r s h k =
      rep_of p (cut p b) (a - b) P (dvd-sub (ulp p b) (rep_dvd p h r) s) (le_trans (omega arith) (le_of_lt (cut_enough p b)))

  -- ---- a - b, rounded
  module _ (a b : ℕ) (ra : Rep p a) (rb : Rep p b) (h : b ≤ a) where
    -- the step at b divides it
    grain : ulp p b ∣ a - b
    grain = dvd-sub (ulp p b) (rep_dvd p h ra) rb

    pub diff_le : rn p (a - b) ≤ a
    diff_le = rn_le p (a - b) a P ra (sub-le a b)

    pub diff_near : gap (rn p (a - b)) (a - b) ≤ b
    diff_near = le_trans (rn_near p (a - b) a P ra) (omega arith)

    -- the roundoff has p digits, where the rounded difference is below ..
    pub diff_under : Rep p (a - b - rn p (a - b))
    diff_under =
        rep_of p (cut p b) (a - b - rn p (a - b)) P (dvd-sub (ulp p b) grain (rn_dvd p (cut p b) grain))
        (le_trans (omega (arith, diff_near)) (le_of_lt (cut_enough p b)))

    -- .. and where it is above
    pub diff_over : Rep p (rn p (a - b) - (a - b))
    diff_over =
        rep_of p (cut p b) (rn p (a - b) - (a - b)) P (dvd-sub (ulp p b) (rn_dvd p (cut p b) grain) grain)
        (le_trans (omega (arith, diff_near)) (le_of_lt (cut_enough p b)))

    -- and so has a less the rounded difference
    pub diff_rest : Rep p (a - rn p (a - b))
    diff_rest = go (leb b (a - b)) (leb→le b (a - b)) (nleb→lt b (a - b))
      where
        back : (z : ℕ) → z ≡ a - b → b ≡ a - z
        back z e = omega arith

        go : (t : Bool) → (T t → b ≤ a - b) → (T (not t) → a - b < b) → Rep p (a - rn p (a - b))
        -- where b is the smaller of b and a - b: a multiple of the step at a - b, and at most 2 ^ p of them
        go true c d =
            let k = cut p (a - b) in
            let l : b < 2 ^ (p + k) = lt_of_le_of_lt (c tt) (cut_enough p (a - b)) in
            rep_edge p k (a - rn p (a - b)) P (dvd-sub (2 ^ k) (rep_dvd p (sub-le a b) ra) (rn_dvd_ulp p (a - b)))
            (omega (arith, rn_half p (a - b)))
        -- where it is the larger: nothing is rounded, and it is b
        go false c d =
            let l = d tt in
            let e : rn p (a - b) ≡ a - b = rn_kept p (sterbenz ra rb h (omega arith)) in
            subst (λ (z : ℕ). Rep p z) (back (rn p (a - b)) e) rb

  -- ---- a against m, rounded: where a is greater than the rounded m it is greater than m
  pub rounded_less : {a m : ℕ} → Rep p a → rn p m < a → m < a
  rounded_less {a} {m} r h = lt_of_not-le (λ (g : a ≤ m). not-le_of_lt h (rn_ge p m a P r g))

  -- where it is not greater than n times b, rounded, it is at most 2 ^ k times b for n up to 2 ^ k
  pub rounded_close : (a n b k : ℕ) → Rep p b → n ≤ 2 ^ k → a ≤ rn p (n * b) → a ≤ b * 2 ^ k
  rounded_close a n b k r h g =
      le_trans g
      (rn_le p (n * b) (b * 2 ^ k) P (rep_scale p b k P r) (le_trans (mul-le-mul_right b h) (le_of_eq (mul_comm (2 ^ k) b))))

-- ---- the roundoff y of a - b against b, where a is at most 2 ^ k times b
pub roundoff_shrinks : (p q k a b y : ℕ) → p ≡ q + k → 0 < b → y * 2 ^ p ≤ a - b → a ≤ b * 2 ^ k → y * 2 ^ q < b
roundoff_shrinks p q k a b y e B h g =
    let s : y * 2 ^ q * 2 ^ k ≡ y * 2 ^ p =
    mul_assoc y (2 ^ q) (2 ^ k) ∙ ap (λ (z : ℕ). y * z) (sym (pow-add 2 q k) ∙ ap (λ (z : ℕ). 2 ^ z) (sym e)) in
    lt_of_mul-lt-mul_right (2 ^ k) (lt_of_le_of_lt (le_of_eq s) (lt_of_le_of_lt h (less a b (b * 2 ^ k) B g (mul-pos B (pow_pos k)))))
  where
    less : (a b c : ℕ) → 0 < b → a ≤ c → 0 < c → a - b < c
    less a b c B h k = omega arith
