-- The bytes at which a number is refused. In order: in words, what ends early and what is not shortest; the same of the groups from a later
-- byte on; a number's refusals 6 and 7. Not here: the bytes of a number that is read (Laws.Taken). Assumes nothing.
use Prim.Native.Nat.{ℕ, zero, suc, ◌-◌, ◌≤◌, ◌<◌}
use mathlib.Core.Path.{◌≡◌, refl, ap, ◌∙◌}
use mathlib.Core.Bool.{Bool, true, false, cond, ◌&&◌}
use mathlib.Core.List.{List, [], ◌∷◌}
use mathlib.Core.Logic.{◌↔◌}
use native.Mathlib.Omega.{arith}
use borrow.Author.Tests.{ltb-false, lt-ltb, le-ltb, eqb-true, eqb-false, eq-eqb, ne_eqb}
use lib.Dec.{eqb, ltb}
use lib.ListN.{length, drop, get_or}
use Rattle.refusal.specs.Outcome.{refuses, ends_early, not_shortest}
use Rattle.refusal.proofs.Laws.Outcome.{never}
use Rattle.number.specs.Number.{full, Begins, number, early, faulty, above, begins_with, placed, number_of}
use Rattle.refusal.proofs.Laws.Judged.{cond_yes, cond_no}

-- ---- in words, of the bytes from a number's first on
-- every byte but the last has its top bit set: so the number goes on after the first k
abbrev pub Continued : ℕ → List ℕ → Type 0
Continued k rest = (i : ℕ) → i < k → 128 ≤ get_or rest i 0

-- they end before a byte below 128, and before byte k
abbrev pub EndsBefore : ℕ → List ℕ → Type 0
EndsBefore k rest = (length rest ≤ k) × Continued (length rest) rest

-- the file ends before a number or inside it: before its last byte, and before the tenth
abbrev pub EndsEarly : List ℕ → Type 0
EndsEarly rest = EndsBefore full rest

-- a number that is not in shortest form, or not below 2^64
pub data NotShortest (rest : List ℕ) : Type 0 where
  -- a tenth byte other than 1: 0 is not shortest, any other is above 64 bits
  tenth : full < length rest → Continued full rest → (get_or rest full 0 ≡ 1 → ⊥) → NotShortest rest
  -- two to nine bytes, the last of them 0
  zero_last : (k : ℕ) → 0 < k → k < full → k < length rest → Continued k rest → get_or rest k 0 ≡ 0 → NotShortest rest

-- ---- from a later byte on, with k full groups to go
data Faulty (k : ℕ) (later : Bool) (l : List ℕ) : Type 0 where
  bit : k < length l → Continued k l → (get_or l k 0 ≡ 1 → ⊥) → Faulty k later l
  zeroes : (j : ℕ) → (later ≡ false → 0 < j) → j < k → j < length l → Continued j l → get_or l j 0 ≡ 0 → Faulty k later l

continued_more : (k b : ℕ) (bs : List ℕ) → 128 ≤ b → Continued k bs → Continued (suc k) (b ∷ bs)
continued_more k b bs h c zero l = h
continued_more k b bs h c (suc i) l = c i (omega arith)

continued_rest : (k b : ℕ) (bs : List ℕ) → Continued (suc k) (b ∷ bs) → Continued k bs
continued_rest k b bs c i l = c (suc i) (omega arith)

above_early : (d : ℕ) (g : Begins) → above d g ≡ early → g ≡ early
unfolding above
above_early d (number v n) e = never (cc)
above_early d early e = refl
above_early d faulty e = never (cc)

above_faulty : (d : ℕ) (g : Begins) → above d g ≡ faulty → g ≡ faulty
unfolding above
above_faulty d (number v n) e = never (cc)
above_faulty d early e = never (cc)
above_faulty d faulty e = refl

-- what bytes begin with, by the first of them: the last, a last 0 that is not the first, or one that others follow
module _ (k : ℕ) (later : Bool) (b : ℕ) (bs : List ℕ) where
  abbrev by_tests : Bool → Bool → Begins
  by_tests last nought = cond last (cond nought faulty (number b 1)) (above (b - 128) (begins_with k true bs))

  early_more : (last nought : Bool) → ltb b 128 ≡ last → by_tests last nought ≡ early → (begins_with k true bs ≡ early → EndsBefore k bs)
      → EndsBefore (suc k) (b ∷ bs)
  early_more true true h e ih = never (cc)
  early_more true false h e ih = never (cc)
  early_more false nought h e ih =
      let r = ih (above_early (b - 128) (begins_with k true bs) e) in
      (omega (arith, r.0), continued_more (length bs) b bs (ltb-false b 128 h) r.1)

  faulty_zero : (later && eqb b 0 ≡ true) → Faulty (suc k) later (b ∷ bs)
  faulty_zero h = go later (eqb b 0) refl h
    where
      go : (s t : Bool) → eqb b 0 ≡ t → s && t ≡ true → Faulty (suc k) s (b ∷ bs)
      go true true z h =
          zeroes 0 (λ e. never (cc)) (omega arith) (omega arith)
          (λ i l. absurd (omega arith)) (eqb-true b 0 z)
      go true false z h = never (cc)
      go false t z h = never (cc)

  faulty_more : (last nought : Bool) → ltb b 128 ≡ last → (later && eqb b 0 ≡ nought) → by_tests last nought ≡ faulty
      → (begins_with k true bs ≡ faulty → Faulty k true bs) → Faulty (suc k) later (b ∷ bs)
  faulty_more true true h z e ih = faulty_zero z
  faulty_more true false h z e ih = never (cc)
  faulty_more false nought h z e ih = go (ih (above_faulty (b - 128) (begins_with k true bs) e))
    where
      go : Faulty k true bs → Faulty (suc k) later (b ∷ bs)
      go (bit l c other) = bit (omega arith) (continued_more k b bs (ltb-false b 128 h) c) other
      go (zeroes j p l m c is) =
          zeroes (suc j) (λ _. omega arith) (omega arith) (omega arith) (continued_more j b bs (ltb-false b 128 h) c) is

begins_early : (k : ℕ) (later : Bool) (l : List ℕ) → begins_with k later l ≡ early → EndsBefore k l
unfolding begins_with
begins_early k later [] e = (omega arith, λ i l. absurd (omega arith))
begins_early zero later (b ∷ bs) e = go (eqb b 1) e
  where
    go : (t : Bool) → cond t (number 1 1) faulty ≡ early → EndsBefore zero (b ∷ bs)
    go true e = never (cc)
    go false e = never (cc)
begins_early (suc k) later (b ∷ bs) e =
    early_more k later b bs (ltb b 128) (later && eqb b 0) refl e (λ h. begins_early k true bs h)

early_begins : (k : ℕ) (later : Bool) (l : List ℕ) → EndsBefore k l → begins_with k later l ≡ early
unfolding begins_with above
early_begins k later [] h = refl
early_begins zero later (b ∷ bs) h = absurd (omega (arith, h.0))
early_begins (suc k) later (b ∷ bs) h =
    cond_no _ _ (le-ltb b 128 (h.1 0 (omega arith)))
    ∙ ap (above (b - 128)) (early_begins k true bs (omega (arith, h.0), continued_rest (length bs) b bs h.1))

begins_faulty : (k : ℕ) (later : Bool) (l : List ℕ) → begins_with k later l ≡ faulty → Faulty k later l
unfolding begins_with
begins_faulty k later [] e = never (cc)
begins_faulty zero later (b ∷ bs) e = go (eqb b 1) refl e
  where
    go : (t : Bool) → eqb b 1 ≡ t → cond t (number 1 1) faulty ≡ faulty → Faulty zero later (b ∷ bs)
    go true h e = never (cc)
    go false h e = bit (omega arith) (λ i l. absurd (omega arith)) (eqb-false b 1 h)
begins_faulty (suc k) later (b ∷ bs) e =
    faulty_more k later b bs (ltb b 128) (later && eqb b 0) refl refl e (λ h. begins_faulty k true bs h)

faulty_begins : (k : ℕ) (later : Bool) (l : List ℕ) → Faulty k later l → begins_with k later l ≡ faulty
unfolding begins_with above
faulty_begins k later [] (bit l c other) = absurd (omega arith)
faulty_begins k later [] (zeroes j p l m c is) = absurd (omega arith)
faulty_begins zero later (b ∷ bs) (bit l c other) = cond_no _ _ (ne_eqb b 1 other)
faulty_begins zero later (b ∷ bs) (zeroes j p l m c is) = absurd (omega arith)
faulty_begins (suc k) later (b ∷ bs) (bit l c other) =
    cond_no _ _ (le-ltb b 128 (c 0 (omega arith)))
    ∙ ap (above (b - 128)) (faulty_begins k true bs (bit (omega arith) (continued_rest k b bs c) other))
faulty_begins (suc k) true (b ∷ bs) (zeroes zero p l m c is) = cond_yes _ _ (lt-ltb b 128 (omega arith)) ∙ cond_yes _ _ (eq-eqb b 0 is)
faulty_begins (suc k) false (b ∷ bs) (zeroes zero p l m c is) = absurd (omega (arith, p refl))
faulty_begins (suc k) later (b ∷ bs) (zeroes (suc j) p l m c is) =
    cond_no _ _ (le-ltb b 128 (c 0 (omega arith)))
    ∙ ap (above (b - 128))
    (faulty_begins k true bs (zeroes j (λ e. never (cc)) (omega arith) (omega arith)
    (continued_rest j b bs c) is))

-- ---- the refusals
placed_early : (start : ℕ) (g : Begins) → placed start g ≡ refuses ends_early start → g ≡ early
unfolding placed
placed_early start (number v n) e = never (cc)
placed_early start early e = refl
placed_early start faulty e = absurd (let z : not_shortest ≡ ends_early = cc in omega arith)

placed_faulty : (start : ℕ) (g : Begins) → placed start g ≡ refuses not_shortest start → g ≡ faulty
unfolding placed
placed_faulty start (number v n) e = never (cc)
placed_faulty start early e = absurd (let z : ends_early ≡ not_shortest = cc in omega arith)
placed_faulty start faulty e = refl

-- Refusal 6 is given exactly where the bytes from the number's first on end early,
pub number_early : (bytes : List ℕ) (start : ℕ) → (number_of bytes start ≡ refuses ends_early start) ↔ EndsEarly (drop start bytes)
unfolding number_of placed
number_early bytes start = (
  λ e. begins_early full false (drop start bytes) (placed_early start (begins_with full false (drop start bytes)) e),
  λ h. ap (placed start) (early_begins full false (drop start bytes) h),
)

-- and 7 exactly where they are not shortest, or above 64 bits.
pub number_faulty : (bytes : List ℕ) (start : ℕ) → (number_of bytes start ≡ refuses not_shortest start) ↔ NotShortest (drop start bytes)
unfolding number_of placed
number_faulty bytes start = (
  λ e. to (begins_faulty full false rest (placed_faulty start (begins_with full false rest) e)),
  λ h. ap (placed start) (faulty_begins full false rest (from h)),
)
  where
    rest : List ℕ
    rest = drop start bytes

    to : Faulty full false rest → NotShortest rest
    to (bit l c other) = tenth l c other
    to (zeroes k p l m c is) = zero_last k (p refl) l m c is

    from : NotShortest rest → Faulty full false rest
    from (tenth l c other) = bit l c other
    from (zero_last k p l m c is) = zeroes k (λ _. p) l m c is
