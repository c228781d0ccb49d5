-- The zones of a plan, one after the other. In order: what is left of a list, count by count; the zones from one on; one turn of the walk over them, and
-- its end. Assumes nothing.
use mathlib.Core.Path.{◌≡◌, refl, sym, ap, ◌∙◌}
use mathlib.Core.Bool.{Bool, true, false}
use mathlib.Core.List.{List, ◌∷◌}
use Prim.Native.Nat.{ℕ, ◌+◌, ◌-◌, ◌*◌, ◌/◌, ◌%◌, ◌≤◌, ◌<◌}
use native.Mathlib.Numerals.{add-one}
use native.Mathlib.Omega.{arith}
use lib.Dec.{eqb}
use lib.ListN.{length, take, drop, get_or, length-drop, drop_of_length-le}
use lib.Seq.{drop-cons}
use lib.Ieee.{Float}
use borrow.Author.Tests.{eq-eqb, ne_eqb, eqb-true, eqb-false}
use Rattle.std.specs.Prelude.{Err, Ok, Result, MatchResult, IsErrAnd}
use Rattle.std.proofs.lemmas.Result.{err_from_is_err_and}
use Rattle.refusal.specs.declared.Refusal.{Refusal}
use Rattle.point.specs.declared.Point.{Point}
use Rattle.geometry.specs.Zone.{place_said, zone_said, zone_of}
use Rattle.geometry.specs.declared.answer.Place.{Place}
use Rattle.crease.specs.Plan.{counted_in, zones_of}
use Rattle.crease.specs.Parts.{Found, claims, found, with_zone, with_next, goes_on, folded_from}
use Rattle.crease.specs.declared.answer.Claim.{Claim}
use Rattle.crease.specs.declared.answer.Claim.TheVariants.{None}
use Rattle.crease.specs.declared.answer.ZoneRefusal.{ZoneRefusal}

-- ---- what is left of a list, count by count
next_of : {A : Type 0} (xs : List A) (k : ℕ) (none : A) → k < length xs → drop k xs ≡ get_or xs k none ∷ drop (k + 1) xs
next_of xs k none l = rw (add-one k) (drop-cons xs k none l)

counted_next : (counts : List ℕ) (k : ℕ) → k < length counts → counted_in (drop k counts) ≡ get_or counts k 0 + counted_in (drop (k + 1) counts)
counted_next counts k l = ap counted_in (next_of counts k 0 l)

pub counted_done : (counts : List ℕ) (k : ℕ) → length counts ≤ k → counted_in (drop k counts) ≡ 0
counted_done counts k l = ap counted_in (drop_of_length-le counts l)

same_test : (a b c d : ℕ) → (a ≡ b → c ≡ d) → (c ≡ d → a ≡ b) → eqb a b ≡ eqb c d
same_test a b c d h g = go (eqb a b) refl
  where
    go : (t : Bool) → eqb a b ≡ t → t ≡ eqb c d
    go true e = sym (eq-eqb c d (h (eqb-true a b e)))
    go false e = sym (ne_eqb c d (λ f. eqb-false a b e (g f)))

-- half of an even list are corners
pub counted_odd : (doubles n : ℕ) → doubles % 2 ≡ 1 → false ≡ eqb doubles (2 * n)
counted_odd doubles n odd = sym (ne_eqb doubles (2 * n) (λ e. omega arith))

pub counted_even : (doubles n : ℕ) → ¬ (doubles % 2 ≡ 1) → eqb doubles (2 * n) ≡ eqb (doubles / 2) n
counted_even doubles n even = same_test doubles (2 * n) (doubles / 2) n (λ e. omega arith) (λ e. omega arith)

-- a count above what is left: the list is too short
pub counted_short : (counts : List ℕ) (k left : ℕ) → k < length counts → left < get_or counts k 0 → false ≡ eqb left (counted_in (drop k counts))
counted_short counts k left l h = sym (ne_eqb left _ (λ e. omega (arith, counted_next counts k l)))

-- what is left after it
pub counted_left : (counts : List ℕ) (k left : ℕ) → k < length counts → get_or counts k 0 ≤ left
    → eqb left (counted_in (drop k counts)) ≡ eqb (left - get_or counts k 0) (counted_in (drop (k + 1) counts))
counted_left counts k left l h =
    same_test left (counted_in (drop k counts)) (left - get_or counts k 0) (counted_in (drop (k + 1) counts))
    (λ e. omega (arith, counted_next counts k l)) (λ e. omega (arith, counted_next counts k l))

-- ---- one zone
-- the claim with zone k at this place, or the refusal
abbrev pub found_next : Claim → ℕ → Result Place ZoneRefusal → Found
found_next claim k (Ok place) = claims (with_zone claim k (place_said place))
found_next claim k (Err r) = found (Err r)

-- with the zone's number beside its refusal
pub next_found : (claim : Claim) (k : ℕ) (z : Result Place Refusal) (m : Result Place ZoneRefusal) (Q : Refusal → ZoneRefusal → Type 0)
    → ((f : Refusal) (r : ZoneRefusal) → Q f r → r ≡ record { refusal = f; zone = k })
    → MatchResult z (λ place. m ≡ Ok place) (λ f. IsErrAnd m (Q f))
    → found_next claim k m ≡ with_next claim k (zone_said z)
unfolding zone_said
next_found claim k (Ok place) m Q numbered e = ap (found_next claim k) e
next_found claim k (Err f) m Q numbered h =
    let (r, e, q) = err_from_is_err_and m h in
    ap (found_next claim k) e ∙ ap (λ (r : ZoneRefusal). found (Err r)) (numbered f r q)

-- ---- the zones from k on
module _ (counts : List ℕ) (k : ℕ) (claim : Claim) (rest : List Float) (p : Point) where
  folded_next : k < length counts → folded_from k claim (zones_of (drop k counts) rest) p
      ≡ goes_on (with_next claim k (zone_of (take (2 * get_or counts k 0) rest) p))
      (λ more. folded_from (k + 1) more (zones_of (drop (k + 1) counts) (drop (2 * get_or counts k 0) rest)) p)
  unfolding zones_of folded_from
  folded_next l = rw (next_of counts k 0 l) refl

  folded_done : length counts ≤ k → folded_from k claim (zones_of (drop k counts) rest) p ≡ claims claim
  unfolding zones_of folded_from
  folded_done l = rw (drop_of_length-le counts l) refl

-- ---- the walk: before zone k, the zones that are left, with the claim so far, come to what all come to
pub record Turn (counts : List ℕ) (corners : List Float) (p : Point) (k : ℕ) (claim : Claim) (rest : List Float) : Type 0 where
  pub same : folded_from 0 None (zones_of counts corners) p ≡ folded_from k claim (zones_of (drop k counts) rest) p
  pub size : length rest ≡ 2 * counted_in (drop k counts)
  pub less : length rest ≤ length corners

module _ (counts : List ℕ) (corners : List Float) (p : Point) (k : ℕ) (claim : Claim) (rest : List Float) (turn : Turn counts corners p k claim rest) where
  module _ (l : k < length counts) where
    pub turn_fits : 2 * get_or counts k 0 ≤ length rest
    turn_fits = omega (arith, counted_next counts k l, turn.size)

    goes : (z : Found) → z ≡ with_next claim k (zone_of (take (2 * get_or counts k 0) rest) p)
        → folded_from 0 None (zones_of counts corners) p
        ≡ goes_on z (λ more. folded_from (k + 1) more (zones_of (drop (k + 1) counts) (drop (2 * get_or counts k 0) rest)) p)
    goes z e =
        turn.same ∙ folded_next counts k claim rest p l
        ∙ ap (λ (y : Found). goes_on y (λ more. folded_from (k + 1) more (zones_of (drop (k + 1) counts) (drop (2 * get_or counts k 0) rest)) p)) (sym e)

    pub turn_refused : (r : ZoneRefusal) → found (Err r) ≡ with_next claim k (zone_of (take (2 * get_or counts k 0) rest) p)
        → found (Err r) ≡ folded_from 0 None (zones_of counts corners) p
    turn_refused r e = sym (goes (found (Err r)) e)

    pub turn_next : (more : Claim) (left : List Float) → left ≡ drop (2 * get_or counts k 0) rest
        → found (Ok more) ≡ with_next claim k (zone_of (take (2 * get_or counts k 0) rest) p) → Turn counts corners p (k + 1) more left
    turn_next more left f e =
        let size : length left ≡ length rest - 2 * get_or counts k 0 = ap length f ∙ length-drop (2 * get_or counts k 0) rest in
        record {
          same = goes (found (Ok more)) e ∙ ap (λ (xs : List Float). folded_from (k + 1) more (zones_of (drop (k + 1) counts) xs) p) (sym f);
          size = omega (arith, counted_next counts k l, turn.size, size);
          less = omega (arith, turn.less, size);
        }

  pub turn_done : length counts ≤ k → found (Ok claim) ≡ folded_from 0 None (zones_of counts corners) p
  turn_done l = sym (turn.same ∙ folded_done counts k claim rest p l)

pub turn_start : (counts : List ℕ) (corners : List Float) (p : Point) → length corners ≡ 2 * counted_in counts → Turn counts corners p 0 None corners
turn_start counts corners p e = record { same = refl; size = e; less = omega arith }
