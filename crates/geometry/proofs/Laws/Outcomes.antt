-- What a side and a zone can come to, for callers that go by cases: what holds of every answer and of these refusals holds of the call.
-- In order: refusal 3 or an answer; a side; a zone; the numbers of their refusals. Assumes nothing.
use mathlib.Core.Bool.{Bool, true, false, cond}
use mathlib.Core.List.{List, [], ◌∷◌}
use Prim.Native.Nat.{ℕ, ◌+◌, ◌/◌, ◌%◌, ◌≤◌}
use native.Mathlib.Omega.{arith}
use lib.Dec.{eqb, leb}
use lib.ListN.{length}
use lib.Ieee.{Float}
use Rattle.refusal.specs.Outcome.{Outcome, answers, refuses, too_many, not_accepted, too_few_corners, odd_length, kind_number}
use Rattle.refusal.specs.Search.{passing_from}
use Rattle.refusal.proofs.Laws.Judged.{require_either}
use Rattle.refusal.specs.declared.Refusal.{Refusal}
use Rattle.point.specs.declared.Point.{Point}
use Rattle.point.specs.Accepted.{accepted_of, accepting_from}
use Rattle.geometry.specs.Side.{Turned, turn_of, six_of, side_of, said, SideSays}
use Rattle.geometry.specs.Zone.{ZoneSays, fewest, most, place_in, zone_of, zone_said}
use Rattle.ground.specs.Zone.{Lies}
use Rattle.std.specs.Prelude.{Err}

cond_holds : {A : Type 0} (P : A → Type 0) (b : Bool) (x y : A) → P x → P y → P (cond b x y)
cond_holds P true x y h k = h
cond_holds P false x y h k = k

accepting_outcomes : {A : Type 0} (P : Outcome A → Type 0) (a : A) → P (answers a) → ((place : ℕ) → P (refuses not_accepted place))
    → (i : ℕ) (xs : List Float) → P (accepting_from i xs a)
unfolding passing_from
accepting_outcomes P a answered refused i [] = answered
accepting_outcomes P a answered refused i (x ∷ xs) =
    cond_holds P (accepted_of x) (accepting_from (i + 1) xs a) (refuses not_accepted i)
    (accepting_outcomes P a answered refused (i + 1) xs) (refused i)

-- a side is refused 3 only
pub side_outcomes : (P : Outcome Turned → Type 0) → ((t : Turned) → P (answers t)) → ((place : ℕ) → P (refuses not_accepted place))
    → (p q r : Point) → P (side_of p q r)
unfolding side_of
side_outcomes P answered refused p q r =
    accepting_outcomes P (turn_of p q r) (answered (turn_of p q r)) refused 0 (six_of p q r)

-- a zone 5, 4, 1 and then 3
pub zone_outcomes : (P : Outcome Lies → Type 0) → ((place : Lies) → P (answers place)) → P (refuses odd_length 0) → P (refuses too_few_corners 0)
    → P (refuses too_many 0) → ((place : ℕ) → P (refuses not_accepted place)) → (corners : List Float) (p : Point) → P (zone_of corners p)
unfolding zone_of
zone_outcomes P answered odd few many refused corners p =
    require_either P (eqb (length corners % 2) 0) odd_length 0 _ odd
    (require_either P (leb fewest (length corners / 2)) too_few_corners 0 _ few
    (require_either P (leb (length corners / 2) most) too_many 0 _ many
    (accepting_outcomes P (place_in corners p) (answered (place_in corners p)) refused 0 (p.x ∷ p.y ∷ corners))))

-- ---- the numbers of the refusals: the table's last is 9
abbrev Tabled : {A : Type 0} → Outcome A → Type 0
Tabled (answers a) = Unit
Tabled (refuses n place) = n ≤ 9

side_tabled : (p q r : Point) → Tabled (side_of p q r)
side_tabled p q r = side_outcomes (λ (o : Outcome Turned). Tabled o) (λ t. tt) (λ place. omega arith) p q r

pub side_refusal : (n : Refusal) (p q r : Point) → SideSays p q r (Err n) → (kind_number n.kind) ≤ 9
unfolding said
side_refusal n p q r e = rw (← e) at (side_tabled p q r)

zone_tabled : (corners : List Float) (p : Point) → Tabled (zone_of corners p)
zone_tabled corners p =
    zone_outcomes (λ (o : Outcome Lies). Tabled o) (λ place. tt) (omega arith) (omega arith) (omega arith) (λ place. omega arith) corners p

pub zone_refusal : (n : Refusal) (corners : List Float) (p : Point) → ZoneSays corners p (Err n) → (kind_number n.kind) ≤ 9
unfolding zone_said
zone_refusal n corners p e = rw (← e) at (zone_tabled corners p)
