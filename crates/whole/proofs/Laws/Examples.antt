-- How a law of whole numbers is proved: checked examples, cited by no law. Their subject is the determinant of three points p, q, r, above
-- 0 where the way from p over q to r turns left.
--
-- In order: the determinant; by `ints`: three swaps, the six products, an inequality, signs; by `solve`: a swap, the six products.
-- Not here: the two methods (`Linear`, `Ring`).
-- Assumes nothing.
use mathlib.Core.Path.{◌≡◌, refl, ◌∙◌, ap}
use mathlib.Core.List.{[], ◌∷◌}
use native.Mathlib.Omega.{arith}
use lib.IntN.{ℤ, pos, negsuc, neg_ℤ, ◌+ℤ◌, ◌-ℤ◌, ◌*ℤ◌}
use Rattle.whole.specs.Order.{◌<ᶻ◌}
use Rattle.whole.specs.Sign.{sgn}
use Rattle.whole.proofs.Laws.Ring.{Expr, ◌:+◌, ◌:-◌, ◌:*◌, opp, solve}
use Rattle.whole.proofs.Laws.Linear.{ints, int_rules}
use Rattle.whole.proofs.Laws.Sign.{sgn_neg, sgn_rules}

abbrev det : ℤ → ℤ → ℤ → ℤ → ℤ → ℤ → ℤ
det px py qx qy rx ry = (qx -ℤ px) *ℤ (ry -ℤ py) -ℤ (qy -ℤ py) *ℤ (rx -ℤ px)

-- ---- by `ints`, which reads the statement as it stands

module _ (px py qx qy rx ry : ℤ) where
  -- a swap of two points turns the determinant to its negative
  swap_pq_lem : det qx qy px py rx ry ≡ neg_ℤ (det px py qx qy rx ry)
  swap_pq_lem = ints (px ∷ py ∷ qx ∷ qy ∷ rx ∷ ry ∷ []) (λ ρ v n m. simp (int_rules, v 0, v 1, v 2, v 3, v 4, v 5) (omega arith))

  swap_qr_lem : det px py rx ry qx qy ≡ neg_ℤ (det px py qx qy rx ry)
  swap_qr_lem = ints (px ∷ py ∷ qx ∷ qy ∷ rx ∷ ry ∷ []) (λ ρ v n m. simp (int_rules, v 0, v 1, v 2, v 3, v 4, v 5) (omega arith))

  swap_pr_lem : det rx ry qx qy px py ≡ neg_ℤ (det px py qx qy rx ry)
  swap_pr_lem = ints (px ∷ py ∷ qx ∷ qy ∷ rx ∷ ry ∷ []) (λ ρ v n m. simp (int_rules, v 0, v 1, v 2, v 3, v 4, v 5) (omega arith))

  -- multiplied out it is six products: px·py cancels
  six_products : det px py qx qy rx ry ≡ qx *ℤ ry -ℤ qx *ℤ py -ℤ px *ℤ ry -ℤ qy *ℤ rx +ℤ qy *ℤ px +ℤ py *ℤ rx
  six_products = ints (px ∷ py ∷ qx ∷ qy ∷ rx ∷ ry ∷ []) (λ ρ v n m. simp (int_rules, v 0, v 1, v 2, v 3, v 4, v 5) (omega arith))

  -- with a hypothesis, and numerals, which `n` reads
  swap_left : pos 0 <ᶻ det px py qx qy rx ry → det qx qy px py rx ry <ᶻ pos 0
  swap_left = ints (px ∷ py ∷ qx ∷ qy ∷ rx ∷ ry ∷ []) (λ ρ v n m. simp (int_rules, n, v 0, v 1, v 2, v 3, v 4, v 5) (omega arith))

  -- the sign turns too
  swap_turn : sgn (det qx qy px py rx ry) ≡ neg_ℤ (sgn (det px py qx qy rx ry))
  swap_turn = ap sgn swap_pq_lem ∙ sgn_neg (det px py qx qy rx ry)

  -- in signs, which `sgn_rules` turns into orders
  swap_sign : sgn (det px py qx qy rx ry) ≡ pos 1 → sgn (det qx qy px py rx ry) ≡ negsuc 0
  swap_sign = simp sgn_rules swap_left

-- ---- by `solve`, for identities alone: faster, and the two sides are written once more as expressions

abbrev det_expr : Expr → Expr → Expr → Expr → Expr → Expr → Expr
det_expr px py qx qy rx ry = (qx :- px) :* (ry :- py) :- (qy :- py) :* (rx :- px)

swap_pq_again : (px py qx qy rx ry : ℤ) → det qx qy px py rx ry ≡ neg_ℤ (det px py qx qy rx ry)
swap_pq_again = solve 6 (λ px py qx qy rx ry. (det_expr qx qy px py rx ry, opp (det_expr px py qx qy rx ry))) refl

six_products_again : (px py qx qy rx ry : ℤ)
    → det px py qx qy rx ry ≡ qx *ℤ ry -ℤ qx *ℤ py -ℤ px *ℤ ry -ℤ qy *ℤ rx +ℤ qy *ℤ px +ℤ py *ℤ rx
six_products_again =
    solve 6 (λ px py qx qy rx ry. (det_expr px py qx qy rx ry, qx :* ry :- qx :* py :- px :* ry :- qy :* rx :+ qy :* px :+ py :* rx)) refl
