-- What a number that was read tells of the bytes. In order: it takes at most ten; they are the number as it is written, and the rest
-- follows; a reader looks at ten bytes only. Not here: a written number read back (Laws.Number). Assumes nothing.
use Prim.Native.Nat.{ℕ, zero, suc, ◌+◌, ◌-◌, ◌*◌, ◌/◌, ◌%◌, ◌^◌, ◌≤◌, ◌<◌}
use mathlib.Core.Path.{◌≡◌, refl, sym, ap, ◌∙◌}
use mathlib.Core.Bool.{Bool, true, false, cond, ◌&&◌}
use mathlib.Core.List.{List, [], ◌∷◌, ◌++◌}
use native.Mathlib.Nat.{pow-suc}
use native.Mathlib.Numerals.{add-one}
use native.Mathlib.Omega.{arith}
use borrow.Author.Tests.{ltb-true, ltb-false, eqb-true}
use lib.Dec.{eqb, ltb}
use lib.ListN.{length, take, drop}
use lib.Seq.{drop-drop, get_or-drop, take-nil}
use Rattle.refusal.specs.Outcome.{answers}
use Rattle.refusal.proofs.Laws.Outcome.{never}
use Rattle.number.specs.declared.answer.Number.{Number}
use Rattle.number.specs.Number.{groups_of, written_of, full, Bytes, Begins, number, early, faulty, above, begins_with, placed, number_of}
use Rattle.number.proofs.Laws.Written.{Held, groups_last, groups_more}

-- ---- the groups that were read
-- n bytes of l were read as v
record Taken (k : ℕ) (later : Bool) (l : List ℕ) (v n : ℕ) : Type 0 where
  held : Held k v
  same : l ≡ groups_of k v ++ drop n l
  size : n ≡ length (groups_of k v)
  some : later ≡ true → 0 < v

above_number : (d : ℕ) (g : Begins) {v n : ℕ} → above d g ≡ number v n
    → (w : ℕ) × (m : ℕ) × (g ≡ number w m) × (v ≡ d + 128 * w) × (n ≡ m + 1)
unfolding above
above_number d (number w m) e = (w, m, refl, cc, cc)
above_number d early e = never (cc)
above_number d faulty e = never (cc)

-- the one bit that is left after the full groups
taken_bit : (t : Bool) (later : Bool) (b : ℕ) (bs : List ℕ) {v n : ℕ} → eqb b 1 ≡ t → cond t (number 1 1) faulty ≡ number v n
    → Taken zero later (b ∷ bs) v n
unfolding groups_of
taken_bit true later b bs {v} {n} h e =
    let one : b ≡ 1 = eqb-true b 1 h in
    let p : v ≡ 1 = cc in
    let q : n ≡ 1 = cc in
    rw (p, q, one) (record { held = omega arith; same = refl; size = refl; some = λ _. omega arith })
taken_bit false later b bs h e = never (cc)

-- a last group
taken_last : (t : Bool) (k : ℕ) (later : Bool) (b : ℕ) (bs : List ℕ) {v n : ℕ} → b < 128 → later && eqb b 0 ≡ t
    → cond t faulty (number b 1) ≡ number v n → Taken (suc k) later (b ∷ bs) v n
taken_last true k later b bs l h e = never (cc)
taken_last false k later b bs {v} {n} l h e =
    let p : v ≡ b = cc in
    let q : n ≡ 1 = cc in
    let g : groups_of (suc k) b ≡ b ∷ [] = groups_last (suc k) b l in
    rw (p, q) (record { held = holds k; same = rw g refl; size = rw g refl; some = λ s. positive later b s h })
  where
    holds : (k : ℕ) → Held (suc k) b
    holds k = omega (arith, pow-suc 128 k, powers k)
      where
        powers : (k : ℕ) → 1 ≤ 128 ^ k
        powers zero = omega arith
        powers (suc k) = omega (arith, powers k, pow-suc 128 k)

    positive : (later : Bool) (b : ℕ) → later ≡ true → later && eqb b 0 ≡ false → 0 < b
    positive true zero s h = absurd (let z : ◌≡◌ {A = Bool} true false = h in never (cc))
    positive true (suc b) s h = omega arith
    positive false b s h = never (cc)

-- a group before the last
taken_more : (k : ℕ) (later : Bool) (b : ℕ) (bs : List ℕ) {w m v n : ℕ} → 128 ≤ b → b < 256 → Taken k true bs w m → v ≡ b - 128 + 128 * w
    → n ≡ m + 1
    → Taken (suc k) later (b ∷ bs) v n
taken_more k later b bs {w} {m} {v} {n} l u t p q =
    let some : 0 < w = t.some refl in
    let rest : v / 128 ≡ w = omega arith in
    let low : v % 128 + 128 ≡ b = omega arith in
    let g : groups_of (suc k) v ≡ b ∷ groups_of k w = groups_more k v (omega arith) ∙ (λ i. low i ∷ groups_of k (rest i)) in
    record {
      held = omega (arith, t.held, pow-suc 128 k);
      same = rw (g, q, add-one m) (ap (λ (z : List ℕ). b ∷ z) t.same);
      size = rw (g, q, add-one m) (ap suc t.size);
      some = λ _. omega arith;
    }

taken : (k : ℕ) (later : Bool) (l : List ℕ) {v n : ℕ} → Bytes l → begins_with k later l ≡ number v n → Taken k later l v n
unfolding begins_with
taken k later [] all e = never (cc)
taken zero later (b ∷ bs) all e = taken_bit (eqb b 1) later b bs refl e
taken (suc k) later (b ∷ bs) all e =
    by (ltb b 128) refl e (λ w m h. taken k true bs {v = w} {n = m} (λ i. all (suc i)) h)
  where
    by : (t : Bool) {v n : ℕ} → ltb b 128 ≡ t
        → cond t (cond (later && eqb b 0) faulty (number b 1)) (above (b - 128) (begins_with k true bs)) ≡ number v n
        → ((w m : ℕ) → begins_with k true bs ≡ number w m → Taken k true bs w m) → Taken (suc k) later (b ∷ bs) v n
    by true h e ih = taken_last (later && eqb b 0) k later b bs (ltb-true b 128 h) refl e
    by false h e ih =
        let a = above_number (b - 128) (begins_with k true bs) e in
        taken_more k later b bs (ltb-false b 128 h) (all 0) (ih a.0 a.1 a.2) a.3 a.4

-- ---- the number that was read
placed_number : (start : ℕ) (g : Begins) (m : Number) → placed start g ≡ answers m
    → (n : ℕ) × (g ≡ number m.value n) × (m.next ≡ start + n)
unfolding placed
placed_number start (number v n) m e =
    let same : record { value = v; next = start + n } ≡ m = cc in
    (n, ap (λ (z : Number). number z.value n) same, ap (λ (z : Number). z.next) (sym same))
placed_number start early m e = never (cc)
placed_number start faulty m e = never (cc)

-- what is read is what is written: so only shortest forms of 64 bits are
pub record Read (file : List ℕ) (start : ℕ) (m : Number) : Type 0 where
  pub below : m.value < 2 ^ 64
  pub same : drop start file ≡ written_of m.value ++ drop m.next file
  pub next : m.next ≡ start + length (written_of m.value)

pub number_read : (file : List ℕ) (start : ℕ) (m : Number) → Bytes file → number_of file start ≡ answers m → Read file start m
unfolding number_of written_of
number_read file start m all e =
    let p = placed_number start (begins_with full false (drop start file)) m e in
    let t = taken full false (drop start file) (λ i. rw (get_or-drop start file i 0) (all (start + i))) p.1 in
    record {
      below = t.held;
      same = t.same ∙ ap (λ (z : List ℕ). groups_of full m.value ++ z)
          (drop-drop p.0 start file ∙ ap (λ (z : ℕ). drop z file) (sym p.2));
      next = p.2 ∙ ap (λ (z : ℕ). start + z) t.size;
    }

-- ---- how far a reader looks
beginning_few : (k : ℕ) (later : Bool) (l : List ℕ) {v n : ℕ} → begins_with k later l ≡ number v n → n ≤ k + 1
unfolding begins_with
beginning_few k later [] e = never (cc)
beginning_few zero later (b ∷ bs) {v} {n} e = go (eqb b 1) e
  where
    go : (t : Bool) → cond t (number 1 1) faulty ≡ number v n → n ≤ zero + 1
    go true e = let q : n ≡ 1 = cc in omega arith
    go false e = never (cc)
beginning_few (suc k) later (b ∷ bs) {v} {n} e = go (ltb b 128) (later && eqb b 0) e (λ w m h. beginning_few k true bs {v = w} {n = m} h)
  where
    go : (t s : Bool) → cond t (cond s faulty (number b 1)) (above (b - 128) (begins_with k true bs)) ≡ number v n
        → ((w m : ℕ) → begins_with k true bs ≡ number w m → m ≤ k + 1) → n ≤ suc k + 1
    go true true e ih = never (cc)
    go true false e ih = let q : n ≡ 1 = cc in omega arith
    go false s e ih =
        let a = above_number (b - 128) (begins_with k true bs) e in
        omega (arith, a.4, ih a.0 a.1 a.2)

pub number_near : (file : List ℕ) (start : ℕ) (m : Number) → number_of file start ≡ answers m → m.next ≤ start + 10
unfolding number_of
number_near file start m e =
    let p = placed_number start (begins_with full false (drop start file)) m e in
    omega (arith, p.2, beginning_few full false (drop start file) p.1)

beginning_first : (k : ℕ) (later : Bool) (l : List ℕ) (j : ℕ) → k < j → begins_with k later (take j l) ≡ begins_with k later l
unfolding begins_with
beginning_first k later l zero h = absurd (omega arith)
beginning_first k later [] (suc j) h = refl
beginning_first zero later (b ∷ bs) (suc j) h = refl
beginning_first (suc k) later (b ∷ bs) (suc j) h =
    ap (λ (g : Begins). cond (ltb b 128) (cond (later && eqb b 0) faulty (number b 1)) (above (b - 128) g))
    (beginning_first k true bs j (omega arith))

drop_take : (i n : ℕ) (l : List ℕ) → drop i (take n l) ≡ take (n - i) (drop i l)
drop_take zero n l = let e : n - 0 ≡ n = omega arith in rw e
drop_take (suc i) zero l = let e : 0 - suc i ≡ 0 = omega arith in rw e
drop_take (suc i) (suc n) [] = sym (take-nil (suc n - suc i))
drop_take (suc i) (suc n) (x ∷ l) = let e : suc n - suc i ≡ n - i = omega arith in rw e (drop_take i n l)

-- the first n bytes of a file have the numbers that begin ten bytes before their end
pub number_first : (file : List ℕ) (n start : ℕ) → start + 10 ≤ n → number_of (take n file) start ≡ number_of file start
unfolding number_of
number_first file n start h =
    ap (placed start) (ap (begins_with full false) (drop_take start n file)
    ∙ beginning_first full false (drop start file) (n - start) (omega arith))
