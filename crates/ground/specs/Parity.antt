-- The rule that was in force before, by odd or even, and of which totals it says the same as the rule in force (Zone 11). No answer goes by it: it
-- stands here for the laws that compare the two.
use Rattle.std.specs.Prelude.{◌+◌, ◌%◌, ◌≡◌, cond, List, ◌⊎◌, eqb, ℤ, pos, negsuc, nat_abs}
use Rattle.whole.specs.Order.{◌≤ᶻ◌}
use Rattle.ground.specs.Plane.{Spot}
use Rattle.ground.specs.Edge.{Edge}
use Rattle.ground.specs.Zone.{Tally, tally_of, Lies, outside, inside, walk}

-- Zone 11: off the border: inside if the edges that count, upward and downward together, are odd in number, outside if even
unfoldable pub by_parity : Tally → Lies
by_parity t = cond (eqb ((t.ups + t.downs) % 2) 1) inside outside

-- the border is the same by both rules
unfoldable pub place_by_parity : List Edge → Spot → Lies
unfolding walk tally_of by_parity
place_by_parity es p = walk 0 es p (by_parity (tally_of es p))

-- a whole number that is odd
abbrev pub Odd : ℤ → Type 0
Odd z = nat_abs z % 2 ≡ 1

-- a total of which both rules say the same: odd, or 0
abbrev pub Agreed : ℤ → Type 0
Agreed z = Odd z ⊎ (z ≡ pos 0)

-- from -1 to 1
abbrev pub Small : ℤ → Type 0
Small z = (negsuc 0 ≤ᶻ z) × (z ≤ᶻ pos 1)
