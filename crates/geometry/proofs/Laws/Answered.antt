-- What it means that a zone is answered. In order: lists of accepted coordinates; an answered zone has an even list of 3 to 64 corners, all
-- accepted, and the place is that of its edges; every such zone is answered.
-- Not here: the refusals (`Zone`, `Calls`). Assumes nothing.
use mathlib.Core.Path.{◌≡◌, refl, sym, ap, ◌∙◌}
use mathlib.Core.Bool.{true}
use mathlib.Core.List.{List, [], ◌∷◌}
use Prim.Native.Nat.{ℕ, zero, suc, ◌+◌, ◌*◌, ◌/◌, ◌%◌, ◌≤◌}
use native.Mathlib.Omega.{arith}
use lib.Dec.{eqb, leb}
use lib.ListN.{length, get_or}
use lib.Ieee.{Float, nan}
use borrow.Author.Tests.{leb-true, eqb-true}
use Rattle.refusal.specs.Outcome.{answers, too_many, not_accepted, too_few_corners, odd_length}
use Rattle.refusal.specs.Search.{AllPass}
use Rattle.refusal.proofs.Laws.Judged.{require_answered}
use Rattle.refusal.proofs.Laws.Search.{passing_whole, passing_answered}
use Rattle.point.specs.declared.Point.{Point}
use Rattle.point.specs.Accepted.{accepted_of, Accepted}
use Rattle.geometry.specs.Zone.{fewest, most, place_in, corner_at, Zoned, zone_of}
use Rattle.ground.specs.Zone.{Lies}
use Rattle.geometry.proofs.Laws.Zone.{judged}

-- ---- lists of accepted coordinates
abbrev pub AllAccepted : List Float → Type 0
AllAccepted [] = Unit
AllAccepted (x ∷ xs) = (accepted_of x ≡ true) × AllAccepted xs

pub accepted_pass : (xs : List Float) → AllAccepted xs → AllPass accepted_of nan xs
accepted_pass [] a i h = let z : ⊥ = omega arith in absurd z
accepted_pass (x ∷ xs) a zero h = a.0
accepted_pass (x ∷ xs) a (suc i) h = accepted_pass xs a.1 i (omega arith)

pass_accepted : (xs : List Float) → AllPass accepted_of nan xs → AllAccepted xs
pass_accepted [] h = tt
pass_accepted (x ∷ xs) h = (h 0 (omega arith), pass_accepted xs (λ i l. h (suc i) (omega arith)))

-- ---- an answered zone
pub record Answered (xs : List Float) (p : Point) (l : Lies) : Type 0 where
  pub even : length xs % 2 ≡ 1 → ⊥
  pub some : fewest ≤ length xs / 2
  pub few : length xs / 2 ≤ most
  pub accepted : AllAccepted (p.x ∷ p.y ∷ xs)
  pub place : place_in xs p ≡ l

pub zone_answered : (xs : List Float) (p : Point) (l : Lies) → zone_of xs p ≡ answers l → Answered xs p l
unfolding zone_of
zone_answered xs p l e =
    let first = require_answered (eqb (length xs % 2) 0) odd_length 0 _ e in
    let second = require_answered (leb fewest (length xs / 2)) too_few_corners 0 _ first.1 in
    let third = require_answered (leb (length xs / 2) most) too_many 0 _ second.1 in
    let found = passing_answered accepted_of not_accepted nan (place_in xs p) 0 (p.x ∷ p.y ∷ xs) l third.1 in
    record {
      even = λ o. omega (arith, eqb-true (length xs % 2) 0 first.0);
      some = leb-true fewest (length xs / 2) second.0;
      few = leb-true (length xs / 2) most third.0;
      accepted = pass_accepted (p.x ∷ p.y ∷ xs) found.0;
      place = found.1;
    }

pub answered_zone : (xs : List Float) (p : Point) (l : Lies) → Answered xs p l → zone_of xs p ≡ answers l
answered_zone xs p l h =
    sym (judged xs p h.even h.some h.few)
    ∙ passing_whole accepted_of not_accepted nan (place_in xs p) 0 (p.x ∷ p.y ∷ xs) (accepted_pass (p.x ∷ p.y ∷ xs) h.accepted)
    ∙ ap answers h.place

-- ---- by corners: an entry is a coordinate of one
corner_entry : (xs : List Float) (n : ℕ) → Zoned xs n → AllPass accepted_of nan xs
corner_entry xs n z k h = go (k % 2) refl
  where
    corner : Accepted (corner_at xs (k / 2))
    corner = z.accepted (k / 2) (omega (arith, z.corners))

    go : (r : ℕ) → k % 2 ≡ r → accepted_of (get_or xs k nan) ≡ true
    go zero e = let same : k ≡ 2 * (k / 2) = omega arith in rw same corner.x
    go (suc r) e = let same : k ≡ 2 * (k / 2) + 1 = omega arith in rw same corner.y

pub zoned_answers : (xs : List Float) (n : ℕ) (p : Point) → Zoned xs n → Accepted p
    → zone_of xs p ≡ answers (place_in xs p)
zoned_answers xs n p z a =
    answered_zone xs p (place_in xs p) (record {
      even = λ e. omega (arith, z.corners);
      some = omega (arith, z.corners, z.some);
      few = omega (arith, z.corners, z.few);
      accepted = (a.x, (a.y, pass_accepted xs (corner_entry xs n z)));
      place = refl;
    })
