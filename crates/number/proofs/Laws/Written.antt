-- A number as it is written. In order: its last group and a group before it; how many bytes it takes, 1 to 10, more for greater numbers, 2
-- from 128 on; the promise of its length. Not here: reading it (Laws.Number). Assumes nothing.
use Prim.Native.Nat.{ℕ, zero, suc, ◌+◌, ◌-◌, ◌*◌, ◌/◌, ◌%◌, ◌^◌, ◌≤◌, ◌<◌, max}
use mathlib.Core.Path.{◌≡◌, refl, sym, ap, ◌∙◌}
use mathlib.Core.Bool.{Bool, true, false, cond}
use mathlib.Core.List.{List, [], ◌∷◌}
use native.Mathlib.Nat.{pow-suc, pow-le-pow_right}
use Rattle.std.proofs.lemmas.Nat.{pow-add}
use native.Mathlib.Numerals.{add-one}
use native.Mathlib.Omega.{arith}
use borrow.Author.Tests.{lt-ltb, le-ltb, ltb-true, ltb-false}
use lib.Dec.{ltb}
use lib.ListN.{length}
use Rattle.refusal.specs.Outcome.{Fixes}
use Rattle.number.specs.Number.{groups_of, written_of, full, LengthSays}
use Rattle.refusal.proofs.Laws.Judged.{cond_yes, cond_no}

-- ---- groups
-- what k groups of seven bits and one bit hold
abbrev pub Held : ℕ → ℕ → Type 0
Held k v = v < 2 * 128 ^ k

pub groups_last : (k v : ℕ) → v < 128 → groups_of k v ≡ v ∷ []
unfolding groups_of
groups_last zero v h = refl
groups_last (suc k) v h = cond_yes _ _ (lt-ltb _ _ h)

pub groups_more : (k v : ℕ) → 128 ≤ v → groups_of (suc k) v ≡ (v % 128 + 128) ∷ groups_of k (v / 128)
unfolding groups_of
groups_more k v h = cond_no _ _ (le-ltb _ _ h)

pub groups_step : (k v : ℕ) → Held k v → 128 ≤ v
    → (j : ℕ) × (k ≡ j + 1) × (groups_of k v ≡ (v % 128 + 128) ∷ groups_of j (v / 128)) × Held j (v / 128)
groups_step zero v l h = absurd (omega arith)
groups_step (suc k) v l h = (k, sym (add-one k), groups_more k v h, omega (arith, pow-suc 128 k))

-- a number's groups, nine of seven bits and one bit, which hold 64 bits
pub written_groups : (v : ℕ) → written_of v ≡ groups_of full v
unfolding written_of
written_groups v = refl

-- ---- how many bytes
pub groups_some : (k v : ℕ) → 1 ≤ length (groups_of k v)
unfolding groups_of
groups_some zero v = omega arith
groups_some (suc k) v = go (ltb v 128)
  where
    go : (t : Bool) → 1 ≤ length (cond t (v ∷ []) ((v % 128 + 128) ∷ groups_of k (v / 128)))
    go true = omega arith
    go false = omega arith

groups_few : (k v : ℕ) → length (groups_of k v) ≤ k + 1
unfolding groups_of
groups_few zero v = omega arith
groups_few (suc k) v = go (ltb v 128) (groups_few k (v / 128))
  where
    go : (t : Bool) → length (groups_of k (v / 128)) ≤ k + 1 → length (cond t (v ∷ []) ((v % 128 + 128) ∷ groups_of k (v / 128))) ≤ suc k + 1
    go true few = omega arith
    go false few = omega arith

-- each number takes 1 to 10 bytes
pub written_length : (v : ℕ) → (1 ≤ length (written_of v)) × (length (written_of v) ≤ 10)
unfolding written_of
written_length v = (groups_some full v, groups_few full v)

groups_mono : (k v w : ℕ) → v ≤ w → length (groups_of k v) ≤ length (groups_of k w)
unfolding groups_of
groups_mono zero v w h = omega arith
groups_mono (suc k) v w h = go (ltb v 128) (ltb w 128) refl refl (groups_mono k (v / 128) (w / 128) (omega arith))
  where
    go : (s t : Bool) → ltb v 128 ≡ s → ltb w 128 ≡ t → length (groups_of k (v / 128)) ≤ length (groups_of k (w / 128))
        → length (cond s (v ∷ []) ((v % 128 + 128) ∷ groups_of k (v / 128))) ≤ length
        (cond t (w ∷ []) ((w % 128 + 128) ∷ groups_of k (w / 128)))
    go true true p q mono = omega arith
    go true false p q mono = omega arith
    go false true p q mono = let a = ltb-false v 128 p in let b = ltb-true w 128 q in absurd (omega arith)
    go false false p q mono = omega arith

-- by the place e of its top bit: a byte for each seven bits, and one for the bits that are left
top_below : (e w : ℕ) → 2 ^ e ≤ w → w < 128 → e < 7
top_below e w low h = go (ltb e 7) refl
  where
    go : (t : Bool) → ltb e 7 ≡ t → e < 7
    go true s = ltb-true e 7 s
    go false s =
        let m : 2 ^ 7 ≤ 2 ^ e = pow-le-pow_right {n = 2} (omega arith) {i = 7} {j = e} (ltb-false e 7 s) in
        absurd (omega arith)

top_from : (e v : ℕ) → v < 2 * 2 ^ e → 128 ≤ v → (d : ℕ) × ((e ≡ 7 + d) × (2 ^ e ≡ 128 * 2 ^ d))
top_from e v high h = go (ltb e 7) refl
  where
    go : (t : Bool) → ltb e 7 ≡ t → (d : ℕ) × ((e ≡ 7 + d) × (2 ^ e ≡ 128 * 2 ^ d))
    go true s =
        let l : e < 7 = ltb-true e 7 s in
        let m : 2 ^ e ≤ 2 ^ 6 = pow-le-pow_right {n = 2} (omega arith) {i = e} {j = 6} (omega arith) in
        absurd (omega arith)
    go false s =
        let l : 7 ≤ e = ltb-false e 7 s in
        let p : e ≡ 7 + (e - 7) = omega arith in
        (e - 7, (p, ap (λ (n : ℕ). 2 ^ n) p ∙ pow-add 2 7 (e - 7)))

groups_by_bits : (k v e : ℕ) → e / 7 ≤ k → 2 ^ e ≤ max v 1 → v < 2 * 2 ^ e → length (groups_of k v) ≡ e / 7 + 1
unfolding groups_of
groups_by_bits zero v e few low high = omega arith
groups_by_bits (suc k) v e few low high =
    go (ltb v 128) refl (λ d p. groups_by_bits k (v / 128) d (omega (arith, p.0)) (omega (arith, p.1)) (omega (arith, p.1)))
  where
    go : (t : Bool) → ltb v 128 ≡ t
        → ((d : ℕ) → (e ≡ 7 + d) × (2 ^ e ≡ 128 * 2 ^ d) → length (groups_of k (v / 128)) ≡ d / 7 + 1)
        → length (groups_of (suc k) v) ≡ e / 7 + 1
    go true h ih =
        let l : v < 128 = ltb-true v 128 h in
        let s : e < 7 = top_below e (max v 1) low (omega arith) in
        ap length (groups_last (suc k) v l) ∙ omega arith
    go false h ih =
        let l : 128 ≤ v = ltb-false v 128 h in
        let d = top_from e v high l in
        ap length (groups_more k v l) ∙ omega (arith, ih d.0 d.1, d.1)

pub written_by_bits : (v e : ℕ) → e < 64 → 2 ^ e ≤ max v 1 → v < 2 * 2 ^ e → length (written_of v) ≡ e / 7 + 1
written_by_bits v e few low high = ap length (written_groups v) ∙ groups_by_bits full v e (omega arith) low high

-- a greater number takes no fewer bytes
pub written_mono : (v w : ℕ) → v ≤ w → length (written_of v) ≤ length (written_of w)
unfolding written_of
written_mono v w h = groups_mono full v w h

-- a number of 8 to 14 bits takes 2
pub written_two : (v : ℕ) → 128 ≤ v → v < 128 * 128 → length (written_of v) ≡ 2
written_two v h l =
    ap length (written_groups v) ∙ ap length (groups_more 8 v h)
    ∙ ap (λ (g : List ℕ). suc (length g)) (groups_last 8 (v / 128) (omega arith))

-- ---- the promise of its length, which no two results satisfy
pub number_len_fixed : (value : ℕ) → Fixes (LengthSays value)
number_len_fixed value a b p q = p ∙ sym q
