-- The cases marked * in docs/RULES.md, section Cases, and what it is for one to be right. A double is given by its bit pattern.
use Rattle.std.specs.Prelude.{ℕ, ◌*◌, ◌-◌, ◌^◌, Bool, true, false, ◌&&◌, List, [], ◌∷◌, eqb, ℤ, pos, negsuc, Float}
use Rattle.std.specs.Float.{binary64}
use Rattle.std.specs.Float.Ieee.{of_bits, to_bits}
use Rattle.refusal.specs.Outcome.{Outcome, answers, refuses}
use Rattle.point.specs.declared.Point.{Point}
use Rattle.point.specs.declared.HighPoint.{HighPoint}
use Rattle.sum.specs.Run.{Decision, sign, undecided, Told, run_of, left_of}
use Rattle.sum.specs.Ceiling.{ceiling_answer}
use Rattle.geometry.specs.Side.{Turned, side_of}
use Rattle.geometry.specs.Plane.{Counted, plane_of}
use Rattle.track.specs.File.{limit}
use Rattle.track.specs.Read.{read_of}

pub data Case : Type 0 where
  -- a list: sign and steps of a run
  sum : List Float → ℤ → ℕ → Case
  -- a list, and the list after so many steps
  stepped : List Float → ℕ → List Float → Case
  -- a list and its ceiling
  ceiling : List Float → ℕ → Case
  -- three points: sign, stage and steps
  side : Point → Point → Point → ℤ → ℕ → ℕ → Case
  -- four points with heights: sign and steps
  plane : HighPoint → HighPoint → HighPoint → HighPoint → ℤ → ℕ → Case
  -- the bytes of a file, and the coordinates that it holds
  file : List ℕ → List Float → Case

-- ---- when a case is right

abbrev pub same : ℤ → ℤ → Bool
same (pos m) (pos n) = eqb m n
same (negsuc m) (negsuc n) = eqb m n
same (pos m) (negsuc n) = false
same (negsuc m) (pos n) = false

-- bit for bit
abbrev pub alike : List Float → List Float → Bool
alike [] [] = true
alike (x ∷ xs) (y ∷ ys) = eqb (to_bits binary64 x) (to_bits binary64 y) && alike xs ys
alike [] (y ∷ ys) = false
alike (x ∷ xs) [] = false

abbrev pub signed : Decision → ℤ → Bool
signed (sign t) s = same t s
signed undecided s = false

abbrev pub ran : Outcome Told → ℤ → ℕ → Bool
ran (answers t) s k = signed t.decided s && eqb t.steps k
ran (refuses n p) s k = false

abbrev pub counted : Outcome ℕ → ℕ → Bool
counted (answers m) n = eqb m n
counted (refuses m p) n = false

abbrev pub turned_to : Outcome Turned → ℤ → ℕ → ℕ → Bool
turned_to (answers t) s n k = same t.sign s && (eqb t.stage n && eqb t.steps k)
turned_to (refuses m p) s n k = false

abbrev pub summed_to : Outcome Counted → ℤ → ℕ → Bool
summed_to (answers t) s k = same t.sign s && eqb t.steps k
summed_to (refuses m p) s k = false

abbrev pub holds : Outcome (List Float) → List Float → Bool
holds (answers xs) ys = alike xs ys
holds (refuses n p) ys = false

-- the greatest budget (Sum 13), which lets every list below be decided
abbrev pub budget : ℕ
budget = 2 ^ 32 - 1

unfoldable pub right : Case → Bool
unfolding run_of left_of ceiling_answer side_of plane_of read_of
right (sum xs s k) = ran (run_of xs budget) s k
right (stepped xs k ys) = alike (left_of xs k) ys
right (ceiling xs n) = counted (ceiling_answer xs) n
right (side p q r s n k) = turned_to (side_of p q r) s n k
right (plane p q r s z k) = summed_to (plane_of p q r s) z k
right (file bytes xs) = holds (read_of limit bytes (2 * limit)) xs

-- Cases 1: all of a list are right, which is one statement that computes the rules
unfoldable pub all_right : List Case → Bool
unfolding right
all_right [] = true
all_right (c ∷ cs) = right c && all_right cs

-- ---- the cases

abbrev double : ℕ → Float
double pattern = of_bits binary64 pattern

abbrev point : Float → Float → Point
point x y = record { x = x; y = y }

abbrev high : Float → Float → Float → HighPoint
high x y height = record { x = x; y = y; height = height }

abbrev zero : Float
zero = double 0

abbrev one : Float
one = double 0x3FF0000000000000

abbrev minus_one : Float
minus_one = double 0xBFF0000000000000

abbrev two : Float
two = double 0x4000000000000000

-- 0.1, 0.2, 0.6 and 0.7: the nearest doubles
abbrev tenth : Float
tenth = double 0x3FB999999999999A

abbrev two_tenths : Float
two_tenths = double 0x3FC999999999999A

abbrev six_tenths : Float
six_tenths = double 0x3FE3333333333333

abbrev seven_tenths : Float
seven_tenths = double 0x3FE6666666666666

-- 2^-60
abbrev small : Float
small = double 0x3C30000000000000

-- -c of Cases 6: c is 2^-2 + 2^-54
abbrev minus_c : Float
minus_c = double 0xBFD0000000000001

-- M of Cases 7: the largest finite double
abbrev largest : Float
largest = double 0x7FEFFFFFFFFFFFFF

abbrev minus_largest : Float
minus_largest = double 0xFFEFFFFFFFFFFFFF

abbrev origin : Point
origin = point zero zero

abbrev one_one : Point
one_one = point one one

unfoldable pub starred : List Case
starred =
    -- Cases 3: the empty list: 0, 0 steps
    sum [] (pos 0) 0
    -- Cases 4: {1, -1}: 0, 1 step, ceiling 2
    ∷ sum (one ∷ minus_one ∷ []) (pos 0) 1
    ∷ ceiling (one ∷ minus_one ∷ []) 2
    -- Cases 5: {1, 2^-60, -1}: +1, 1 step, ceiling 5
    ∷ sum (one ∷ small ∷ minus_one ∷ []) (pos 1) 1
    ∷ ceiling (one ∷ small ∷ minus_one ∷ []) 5
    -- Cases 6: {1, -c, -c, -c, -c}: -1, 3 steps, ceiling 10; one step leaves {0.75, -2^-54, -c, -c, -c}
    ∷ sum (one ∷ minus_c ∷ minus_c ∷ minus_c ∷ minus_c ∷ []) (negsuc 0) 3
    ∷ ceiling (one ∷ minus_c ∷ minus_c ∷ minus_c ∷ minus_c ∷ []) 10
    ∷ stepped (one ∷ minus_c ∷ minus_c ∷ minus_c ∷ minus_c ∷ []) 1
    (double 0x3FE8000000000000 ∷ double 0xBC90000000000000 ∷ minus_c ∷ minus_c ∷ minus_c ∷ [])
    -- Cases 7: {M, M, -M, -M}: 0, 2 steps
    ∷ sum (largest ∷ largest ∷ minus_largest ∷ minus_largest ∷ []) (pos 0) 2
    -- Cases 9: (0,0) (1,0) (0,1): +1, stage 2
    ∷ side origin (point one zero) (point zero one) (pos 1) 2 0
    -- Cases 10: (0,0) (1,1) (2,2): 0, stage 3, 1 step
    ∷ side origin one_one (point two two) (pos 0) 3 1
    -- Cases 11: (0,0) (1,1) (1, 1+2^-50): +1, stage 3, 0 steps
    ∷ side origin one_one (point one (double 0x3FF0000000000004)) (pos 1) 3 0
    -- Cases 12: (0,0) (1,1) (1, 1+2^-49): +1, stage 2
    ∷ side origin one_one (point one (double 0x3FF0000000000008)) (pos 1) 2 0
    -- Cases 22: (0,0,0) (1,0,0) (0,1,0) (0,0,1): -1, 0 steps
    ∷ plane (high zero zero zero) (high one zero zero) (high zero one zero) (high zero zero one) (negsuc 0) 0
    -- Cases 23: (0.2,0.1,0.6) (0.7,0.2,0) (0.1,0.7,0.2) (0.2,0,0): +1, 2 steps
    ∷ plane (high two_tenths tenth six_tenths) (high seven_tenths two_tenths zero) (high tenth seven_tenths two_tenths) (high two_tenths zero zero)
    (pos 1) 2
    -- Cases 15: `01 00 00` is the point (0,0)
    ∷ file (1 ∷ 0 ∷ 0 ∷ []) (zero ∷ zero ∷ [])
    -- Cases 20: `00` is no points
    ∷ file (0 ∷ []) []
    ∷ []
