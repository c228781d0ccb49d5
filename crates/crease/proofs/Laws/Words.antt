-- Which of the four a claim is. In order: by how many zones have the release on the border, and how many inside; so it stays where the zones come in
-- another order. Assumes nothing.
use mathlib.Core.Path.{◌≡◌, refl, sym, ap₂, ◌∙◌, subst}
use mathlib.Core.Bool.{cond}
use mathlib.Core.List.{List, [], ◌∷◌, map, Permᴰ}
use Prim.Native.Nat.{ℕ, ◌+◌, ◌≤◌, ◌<◌}
use native.Mathlib.Nat.{zero-add, add-zero, add_assoc}
use native.Mathlib.Omega.{arith}
use lib.Dec.{eqb}
use Rattle.ground.specs.Zone.{Lies, outside, border, inside, place_number}
use Rattle.crease.specs.Claim.{Holds}
use Rattle.crease.specs.Parts.{with_zone, claim_from}
use Rattle.crease.specs.Reasons.{word_of}
use Rattle.crease.specs.declared.answer.Claim.{Claim}
use Rattle.crease.specs.declared.answer.Claim.TheVariants.{Border, None, Alone, Shared}
use Rattle.crease.proofs.Laws.Claims.{claim_holds, holds_once}

-- ---- which of the four it is, by how many zones have the release on the border, and how many inside
many : ℕ → List Lies → ℕ
many number [] = 0
many number (place ∷ places) = cond (eqb (place_number place) number) 1 0 + many number places

abbrev Counts : Claim → ℕ → ℕ → Type 0
Counts (Border k) ons ins = 0 < ons
Counts None ons ins = (ons ≡ 0) × (ins ≡ 0)
Counts (Alone k) ons ins = (ons ≡ 0) × (ins ≡ 1)
Counts (Shared both) ons ins = (ons ≡ 0) × (2 ≤ ins)

word_once : (a b : Claim) (ons ins : ℕ) → Counts a ons ins → Counts b ons ins → word_of a ≡ word_of b
word_once (Border j) (Border k) ons ins h g = refl
word_once (Border j) None ons ins h g = omega (arith, g.0)
word_once (Border j) (Alone k) ons ins h g = omega (arith, g.0)
word_once (Border j) (Shared b) ons ins h g = omega (arith, g.0)
word_once None (Border k) ons ins h g = omega (arith, h.0)
word_once None None ons ins h g = refl
word_once None (Alone k) ons ins h g = omega (arith, h.1, g.1)
word_once None (Shared b) ons ins h g = omega (arith, h.1, g.1)
word_once (Alone j) (Border k) ons ins h g = omega (arith, h.0)
word_once (Alone j) None ons ins h g = omega (arith, h.1, g.1)
word_once (Alone j) (Alone k) ons ins h g = refl
word_once (Alone j) (Shared b) ons ins h g = omega (arith, h.1, g.1)
word_once (Shared a) (Border k) ons ins h g = omega (arith, h.0)
word_once (Shared a) None ons ins h g = omega (arith, h.1, g.1)
word_once (Shared a) (Alone k) ons ins h g = omega (arith, h.1, g.1)
word_once (Shared a) (Shared b) ons ins h g = refl

counts_more : (claim : Claim) (n ons ins : ℕ) (place : Lies) → Counts claim ons ins
    → Counts (with_zone claim n place) (ons + cond (eqb (place_number place) 1) 1 0) (ins + cond (eqb (place_number place) 2) 1 0)
counts_more (Border k) n ons ins outside h = omega arith
counts_more (Border k) n ons ins (border edge) h = omega arith
counts_more (Border k) n ons ins inside h = omega arith
counts_more None n ons ins outside h = (omega (arith, h.0), omega (arith, h.1))
counts_more None n ons ins (border edge) h = omega arith
counts_more None n ons ins inside h = (omega (arith, h.0), omega (arith, h.1))
counts_more (Alone k) n ons ins outside h = (omega (arith, h.0), omega (arith, h.1))
counts_more (Alone k) n ons ins (border edge) h = omega arith
counts_more (Alone k) n ons ins inside h = (omega (arith, h.0), omega (arith, h.1))
counts_more (Shared both) n ons ins outside h = (omega (arith, h.0), omega (arith, h.1))
counts_more (Shared both) n ons ins (border edge) h = omega arith
counts_more (Shared both) n ons ins inside h = (omega (arith, h.0), omega (arith, h.1))

counted : (places : List Lies) (n : ℕ) (claim : Claim) (ons ins : ℕ) → Counts claim ons ins
    → Counts (claim_from n claim places) (ons + many 1 places) (ins + many 2 places)
unfolding many
counted [] n claim ons ins h =
    subst (λ (m : ℕ). Counts claim m (ins + 0)) (sym (add-zero ons)) (subst (Counts claim ons) (sym (add-zero ins)) h)
counted (place ∷ places) n claim ons ins h =
    let on : ℕ = cond (eqb (place_number place) 1) 1 0 in
    let has : ℕ = cond (eqb (place_number place) 2) 1 0 in
    let i : ons + on + many 1 places ≡ ons + (on + many 1 places) = add_assoc ons on (many 1 places) in
    let j : ins + has + many 2 places ≡ ins + (has + many 2 places) = add_assoc ins has (many 2 places) in
    subst (λ (m : ℕ). Counts (claim_from n claim (place ∷ places)) m (ins + (has + many 2 places))) i
    (subst (Counts (claim_from n claim (place ∷ places)) (ons + on + many 1 places)) j
    (counted places (n + 1) (with_zone claim n place) (ons + on) (ins + has) (counts_more claim n ons ins place h)))

holds_counts : (claim : Claim) (places : List Lies) → Holds claim places → Counts claim (many 1 places) (many 2 places)
holds_counts claim places h =
    subst (λ (c : Claim). Counts c (many 1 places) (many 2 places)) (holds_once places (claim_from 0 None places) claim (claim_holds places) h)
    (subst (λ (m : ℕ). Counts (claim_from 0 None places) m (many 2 places)) (zero-add (many 1 places))
    (subst (Counts (claim_from 0 None places) (0 + many 1 places)) (zero-add (many 2 places)) (counted places 0 None 0 0 (refl, refl))))

-- ---- in another order: of lists of anything that has a place, as many are at each
module _ {Z : Type 0} (place : Z → Lies) where
  many_permuted : (number : ℕ) (zones others : List Z) → Permᴰ zones others → many number (map place zones) ≡ many number (map place others)
  unfolding many
  many_permuted number zones others Permᴰ.nil = refl
  many_permuted number zones others (Permᴰ.cons e d) =
      ap₂ (λ (l : Z) (m : ℕ). cond (eqb (place_number (place l)) number) 1 0 + m) e (many_permuted number _ _ d)
  many_permuted number zones others (Permᴰ.swap {l = l} e f) = rw (e, f) (omega arith)
  many_permuted number zones others (Permᴰ.trans d e) = many_permuted number _ _ d ∙ many_permuted number _ _ e

  -- the word of the four stays
  pub word_permuted : (zones others : List Z) → Permᴰ zones others → (a b : Claim) → Holds a (map place zones) → Holds b (map place others)
      → word_of a ≡ word_of b
  word_permuted zones others perm a b h g =
      word_once a b (many 1 (map place others)) (many 2 (map place others))
      (subst (λ (m : ℕ). Counts a m (many 2 (map place others))) (many_permuted 1 zones others perm)
      (subst (Counts a (many 1 (map place zones))) (many_permuted 2 zones others perm) (holds_counts a (map place zones) h)))
      (holds_counts b (map place others) g)
