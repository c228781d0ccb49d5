-- Division rounded up, over any divisor d above 0. In order: it keeps the order; d more is one more; 0, and what is above 0.
-- Assumes nothing.
use mathlib.Core.Path.{◌≡◌, sym}
use Prim.Native.Nat.{ℕ, ◌+◌, ◌-◌, ◌/◌, ◌≤◌, ◌<◌}
use native.Mathlib.Nat.{le_trans, le_of_eq, le-div_iff_mul-le, div-mul-le_self, div-eq_of_lt, add-div_right}
use native.Mathlib.Omega.{arith}
use Rattle.sum.specs.Ceiling.{round_up}

module _ (d : ℕ) (D : 0 < d) where
  div_mono : {m n : ℕ} → m ≤ n → m / d ≤ n / d
  div_mono {m} {n} h = (le-div_iff_mul-le D).1 (le_trans (div-mul-le_self m d) h)

  pub round_mono : {m n : ℕ} → m ≤ n → round_up d m ≤ round_up d n
  round_mono {m} {n} h = div_mono (omega arith)

  pub round_drops : (m n : ℕ) → m + d ≤ n → round_up d m + 1 ≤ round_up d n
  round_drops m n h = le_trans (le_of_eq (sym (add-div_right (m + (d - 1)) D))) (div_mono (omega arith))

  pub round_zero : round_up d 0 ≡ 0
  round_zero = div-eq_of_lt (omega arith)

  pub round_some : {n : ℕ} → 0 < n → 1 ≤ round_up d n
  round_some {n} h = (le-div_iff_mul-le D).1 (omega arith)
