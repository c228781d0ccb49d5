-- The zone over whole numbers: how many edges count, their total, and the place (docs/RULES.md, section Zone).
use Rattle.std.specs.Prelude.{ℕ, ◌+◌, Bool, cond, List, [], ◌∷◌, ℤ, pos, ◌-ℤ◌}
use Rattle.ground.specs.Compare.{is_zero}
use Rattle.ground.specs.Plane.{Spot}
use Rattle.ground.specs.Edge.{Edge, on_edge, is_up, is_down}

-- how many edges pass a test
unfoldable pub count_of : (Edge → Spot → Bool) → List Edge → Spot → ℕ
count_of is [] p = 0
count_of is (e ∷ es) p = cond (is e p) 1 0 + count_of is es p

-- Zone 5 and 6: how many edges count upward and how many downward
pub record Tally : Type 0 where
  pub ups : ℕ
  pub downs : ℕ

unfoldable pub tally_of : List Edge → Spot → Tally
unfolding count_of is_up is_down
tally_of es p = record { ups = count_of is_up es p; downs = count_of is_down es p }

-- Zone 7: the total: the edges that count upward less those that count downward
unfoldable pub total_of : Tally → ℤ
total_of t = pos t.ups -ℤ pos t.downs

-- Zone 9: outside; on the border, at the edge of this number; inside
pub data Lies : Type 0 where
  outside : Lies
  border : ℕ → Lies
  inside : Lies

-- Viewer 3: the number of a place
abbrev pub place_number : Lies → ℕ
place_number outside = 0
place_number (border k) = 1
place_number inside = 2

-- Zone 7: off the border: inside if the total is not 0, outside if it is
unfoldable pub off_border : Tally → Lies
unfolding total_of
off_border t = cond (is_zero (total_of t)) outside inside

-- Zone 4: edges from k on, walked up to the first that the point is on, whose number is answered; `off` is answered off the border
unfoldable pub walk : ℕ → List Edge → Spot → Lies → Lies
unfolding on_edge
walk k [] p off = off
walk k (e ∷ es) p off = cond (on_edge e p) (border k) (walk (k + 1) es p off)

unfoldable pub place_of : List Edge → Spot → Lies
unfolding walk tally_of off_border
place_of es p = walk 0 es p (off_border (tally_of es p))
