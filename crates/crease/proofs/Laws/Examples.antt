-- Some plans, computed: the limit and the counts of a plan, its zones, and claims by their places. Assumes nothing.
use mathlib.Core.Path.{◌≡◌, refl}
use mathlib.Core.List.{List, [], ◌∷◌}
use Prim.Native.Nat.{ℕ, zero, suc}
use lib.Ieee.{Float}
use Rattle.ground.specs.Zone.{outside, border, inside}
use Rattle.point.specs.declared.Point.{Point}
use Rattle.crease.specs.Claim.{Holds}
use Rattle.crease.specs.Plan.{zones_of, stops, judging_of}
use Rattle.crease.specs.declared.answer.Claim.TheVariants.{Border, None, Alone, Shared}
use Rattle.crease.proofs.Laws.Claims.{claim_holds}

-- so many zones of no corners
abbrev empties : ℕ → List ℕ
empties zero = []
empties (suc n) = 0 ∷ empties n

-- 17 zones are too many; 16 are judged on
limit : (x : Float) (p : Point) → (judging_of (empties 17) [] p ≡ stops 1 0 0) × (judging_of (empties 16) (x ∷ []) p ≡ stops 5 0 0)
unfolding judging_of
limit x p = (refl, refl)

-- one corner more than counted, one fewer, an odd list, and counts that add up to 0 in 32 binary digits
uncounted : (x y : Float) (p : Point)
    → (judging_of (1 ∷ []) (x ∷ y ∷ x ∷ y ∷ []) p ≡ stops 5 0 0) × (judging_of (1 ∷ 1 ∷ []) (x ∷ y ∷ []) p ≡ stops 5 0 0)
    × (judging_of (1 ∷ []) (x ∷ y ∷ x ∷ []) p ≡ stops 5 0 0) × (judging_of (4294967295 ∷ 1 ∷ []) [] p ≡ stops 5 0 0)
unfolding judging_of
uncounted x y p = (refl, refl, refl, refl)

zones : (a b c d e f : Float) → zones_of (1 ∷ 0 ∷ 2 ∷ []) (a ∷ b ∷ c ∷ d ∷ e ∷ f ∷ []) ≡ (a ∷ b ∷ []) ∷ [] ∷ (c ∷ d ∷ e ∷ f ∷ []) ∷ []
unfolding zones_of
zones a b c d e f = refl

-- no zone; one zone; on a line that zones 3 and 7 share; nested zones; the same zone twice
empty : Holds None []
empty = claim_holds []

one : Holds (Alone 1) (outside ∷ inside ∷ outside ∷ [])
one = claim_holds (outside ∷ inside ∷ outside ∷ [])

between_two : Holds (Border 3) (outside ∷ inside ∷ outside ∷ border 2 ∷ outside ∷ inside ∷ inside ∷ border 0 ∷ [])
between_two = claim_holds (outside ∷ inside ∷ outside ∷ border 2 ∷ outside ∷ inside ∷ inside ∷ border 0 ∷ [])

nested : Holds (Shared (record { first = 0; second = 2 })) (inside ∷ outside ∷ inside ∷ inside ∷ [])
nested = claim_holds (inside ∷ outside ∷ inside ∷ inside ∷ [])

twice : Holds (Shared (record { first = 0; second = 1 })) (inside ∷ inside ∷ [])
twice = claim_holds (inside ∷ inside ∷ [])
