-- The number that bytes begin with. In order: a reader of its groups, turn by turn, and its answers; a written number is read back; which
-- refusals there are; the promise. Not here: how a number is written (Laws.Written), the bytes of a number that was read (Laws.Taken), the bytes of each
-- refusal (Laws.Faults). Assumes nothing.
use Prim.Native.Nat.{ℕ, zero, suc, ◌+◌, ◌-◌, ◌*◌, ◌/◌, ◌%◌, ◌^◌, ◌≤◌, ◌<◌}
use mathlib.Core.Path.{◌≡◌, refl, sym, ap, ◌∙◌}
use mathlib.Core.Bool.{Bool, true, false, ◌&&◌, cond}
use mathlib.Core.List.{List, [], ◌∷◌, ◌++◌}
use native.Mathlib.Nat.{mul_comm, mul-add, mul_assoc, mul-le-mul_right, add_assoc, pow-suc, pow-le-pow_right}
use native.Mathlib.Numerals.{add-one}
use native.Mathlib.Omega.{arith}
use borrow.Author.Tests.{ltb-true, ltb-false, lt-ltb, le-ltb, eq-eqb, ne_eqb}
use mir.Syntax.{w64}
use mir.Val.{Fits}
use lib.Dec.{eqb, ltb}
use lib.ListN.{length, drop, get_or, drop_of_length-le}
use lib.Seq.{drop-cons, drop-drop, drop-append_seam}
use Rattle.refusal.specs.Outcome.{Outcome, answers, refuses, ends_early, not_shortest, Fixes}
use Rattle.refusal.proofs.Laws.Outcome.{outcome_once, never}
use Rattle.number.specs.declared.answer.Number.{Number}
use Rattle.number.specs.Number.{
  groups_of,
  written_of,
  full,
  Begins,
  number,
  early,
  faulty,
  above,
  begins_with,
  placed,
  number_of,
  NumberSays,
}
use Rattle.refusal.proofs.Laws.Judged.{cond_yes, cond_no, Each, each_answers, each_refuses}
use Rattle.number.proofs.Laws.Written.{Held, groups_last, groups_more}

-- ---- a reader of groups
-- a number whose first j groups are worth v, and whose other groups, of weight w, are g
unfoldable pub onward : ℕ → ℕ → ℕ → Begins → Begins
onward v w j (number x n) = number (v + w * x) (j + n)
onward v w j early = early
onward v w j faulty = faulty

onward_none : (g : Begins) → g ≡ onward 0 1 0 g
unfolding onward
onward_none (number x n) =
    let p : x ≡ 0 + 1 * x = omega arith in
    let q : n ≡ 0 + n = omega arith in
    λ k. number (p k) (q k)
onward_none early = refl
onward_none faulty = refl

onward_more : (v w j d : ℕ) (g : Begins) → onward v w j (above d g) ≡ onward (v + d * w) (w * 128) (j + 1) g
unfolding onward above
onward_more v w j d (number x n) =
    let p : v + w * (d + 128 * x) ≡ v + d * w + w * 128 * x =
    rw (mul-add w d (128 * x), mul_comm w d, ← mul_assoc w 128 x) (sym (add_assoc v (d * w) (w * 128 * x))) in
    let q : j + (n + 1) ≡ j + 1 + n = omega arith in
    λ k. number (p k) (q k)
onward_more v w j d early = refl
onward_more v w j d faulty = refl

-- where the reader of the bytes l, which s has from `start` on, stands: j groups are read, of value v, and the next has weight w
pub record At (s : List ℕ) (start : ℕ) (l : List ℕ) (v w j : ℕ) : Type 0 where
  pub from : l ≡ drop start s
  pub few : j ≤ full
  pub small : v < w
  pub weight : w ≡ 128 ^ j
  pub rest : begins_with full false l ≡ onward v w j (begins_with (full - j) (ltb 0 j) (drop j l))

pub at_start : (s : List ℕ) (start : ℕ) (l : List ℕ) → l ≡ drop start s → At s start l 0 1 0
at_start s start l e = record { from = e; few = omega arith; small = omega arith; weight = refl; rest = onward_none _ }

-- 128 ^ j for the first nine groups
pub weight_small : {s : List ℕ} {start : ℕ} {l : List ℕ} {v w j : ℕ} → At s start l v w j → (j ≡ full → ⊥) → w ≤ 2 ^ 56
weight_small {j = j} a h =
    let m : j < full = omega (arith, a.few) in
    rw a.weight (pow-le-pow_right {n = 128} (omega arith) {i = j} {j = 8} (omega arith))

-- a group's value at its weight
group_fits : (v w b : ℕ) → v < w → b < 128 → v + b * w < 128 * w
group_fits v w b hv hb =
    let m : b * w ≤ 127 * w = mul-le-mul_right w (omega arith) in
    omega arith

pub value_fits : {s : List ℕ} {start : ℕ} {l : List ℕ} {v w j : ℕ} → At s start l v w j → (j ≡ full → ⊥) → (b : ℕ) → b < 128 → Fits w64 (b * w) × Fits w64 (v + b * w)
value_fits {v = v} {w = w} a hj b hb = omega (arith, weight_small a hj, group_fits v w b a.small hb)

-- a last group is 0 only before any other
pub group_shortest : (j b : ℕ) → (b ≡ 0 → j ≡ 0) → ltb 0 j && eqb b 0 ≡ false
group_shortest zero b h = refl
group_shortest (suc j) b h = rw (lt-ltb 0 (suc j) (omega arith)) (ne_eqb b 0 (λ e. absurd (omega (arith, h e))))

abbrev pub placed_at : ℕ → ℕ → Outcome Number
placed_at v next = answers (record { value = v; next = next })

module _ (s : List ℕ) (start : ℕ) (l : List ℕ) (v w j : ℕ) (a : At s start l v w j) where
  -- what the number is, by what the groups from here on are
  number_by : (g : Begins) → begins_with (full - j) (ltb 0 j) (drop j l) ≡ g → placed start (onward v w j g) ≡ number_of s start
  unfolding number_of
  number_by g e =
      ap (λ (h : Begins). placed start (onward v w j h)) (sym e) ∙ ap (placed start) (sym a.rest)
      ∙ ap (λ (z : List ℕ). placed start (begins_with full false z)) a.from

  pub number_ends : length l ≤ j → refuses ends_early start ≡ number_of s start
  unfolding placed begins_with onward
  number_ends h = number_by early (ap (begins_with (full - j) (ltb 0 j)) (drop_of_length-le l h))

  module _ (h : j < length l) (b : ℕ) (eb : b ≡ get_or l j 0) where
    -- the groups from a byte on
    head : (k : ℕ) → full - j ≡ k → begins_with (full - j) (ltb 0 j) (drop j l) ≡ begins_with k (ltb 0 j) (b ∷ drop (j + 1) l)
    head k e = rw (e, add-one, drop-cons l j 0, ← eb)

    pub number_zero : (j ≡ full → ⊥) → b ≡ 0 → 0 < j → refuses not_shortest start ≡ number_of s start
    unfolding placed begins_with onward
    number_zero hj z p =
        let t : ltb 0 j && eqb b 0 ≡ true = rw (lt-ltb 0 j p) (eq-eqb _ _ z) in
        number_by faulty (head (suc (8 - j)) (omega (arith, a.few)) ∙ cond_yes _ _ (lt-ltb b 128 (omega arith)) ∙ cond_yes _ _ t)

    pub number_value : (j ≡ full → ⊥) → b < 128 → (b ≡ 0 → j ≡ 0) → placed_at (v + b * w) (start + j + 1) ≡ number_of s start
    unfolding placed begins_with onward
    number_value hj hb z =
        let p : v + b * w ≡ v + w * b = ap (λ (n : ℕ). v + n) (mul_comm b w) in
        let q : start + j + 1 ≡ start + (j + 1) = omega arith in
        (λ k. placed_at (p k) (q k))
        ∙ number_by (number b 1)
        (head (suc (8 - j)) (omega (arith, a.few)) ∙ cond_yes _ _ (lt-ltb _ _ hb) ∙ cond_no _ _ (group_shortest j b z))

    pub at_next : (j ≡ full → ⊥) → 128 ≤ b → b < 256 → At s start l (v + (b - 128) * w) (w * 128) (j + 1)
    unfolding begins_with
    at_next hj hb hc =
        let p : 8 - j ≡ full - (j + 1) = omega arith in
        let q : true ≡ ltb 0 (j + 1) = sym (lt-ltb 0 (j + 1) (omega arith)) in record {
          from = a.from;
          few = omega (arith, a.few);
          small = omega (arith, group_fits v w (b - 128) a.small (omega arith));
          weight = rw (a.weight, add-one, pow-suc) refl;
          rest = a.rest ∙ ap (onward v w j) (head (suc (8 - j)) (omega (arith, a.few)) ∙ cond_no _ _ (le-ltb _ _ hb))
              ∙ onward_more v w j (b - 128) _
              ∙ (λ k. onward (v + (b - 128) * w) (w * 128) (j + 1) (begins_with (p k) (q k) (drop (j + 1) l)));
        }

    pub number_tenth : j ≡ full → cond (eqb b 1) (placed_at (v + w) (start + j + 1)) (refuses not_shortest start) ≡ number_of s start
    unfolding placed begins_with onward
    number_tenth hj = go (eqb b 1) refl
      where
        go : (t : Bool) → eqb b 1 ≡ t → cond t (placed_at (v + w) (start + j + 1)) (refuses not_shortest start) ≡ number_of s start
        go true e =
            let p : v + w ≡ v + w * 1 = omega arith in
            let q : start + j + 1 ≡ start + (j + 1) = omega arith in
            (λ k. placed_at (p k) (q k)) ∙ number_by (number 1 1) (head 0 (omega arith) ∙ cond_yes _ _ e)
        go false e = number_by faulty (head 0 (omega arith) ∙ cond_no _ _ e)

-- from past the bytes' end on there are none
pub number_past : (s : List ℕ) (start : ℕ) → length s ≤ start → refuses ends_early start ≡ number_of s start
number_past s start h =
    number_ends s start (drop start s) 0 1 0 (at_start s start _ refl) (omega (arith, ap length (drop_of_length-le s h)))

-- ---- a written number is read back
allowed : (later : Bool) (v : ℕ) → (later ≡ true → 0 < v) → later && eqb v 0 ≡ false
allowed true v h = ne_eqb v 0 (λ e. let z : 0 < v = h refl in omega arith)
allowed false v h = refl

-- one group more, by whether it is the last
groups_back : (t : Bool) (k v : ℕ) (later : Bool) (rest : List ℕ) → ltb v 128 ≡ t → (later ≡ true → 0 < v)
    → (128 ≤ v → begins_with k true (groups_of k (v / 128) ++ rest) ≡ number (v / 128) (length (groups_of k (v / 128))))
    → begins_with (suc k) later (groups_of (suc k) v ++ rest) ≡ number v (length (groups_of (suc k) v))
unfolding begins_with above
groups_back true k v later rest e h ih =
    let l : groups_of (suc k) v ≡ v ∷ [] = groups_last (suc k) v (ltb-true _ _ e) in
    rw l (cond_yes _ _ e ∙ cond_no _ _ (allowed later v h))
groups_back false k v later rest e h ih =
    let b : 128 ≤ v = ltb-false _ _ e in
    let l : groups_of (suc k) v ≡ (v % 128 + 128) ∷ groups_of k (v / 128) = groups_more k v b in
    let d : v % 128 + 128 - 128 + 128 * (v / 128) ≡ v = omega arith in
    let n : length (groups_of k (v / 128)) + 1 ≡ suc (length (groups_of k (v / 128))) = add-one _ in
    rw l (cond_no _ _ (le-ltb (v % 128 + 128) 128 (omega arith)) ∙ ap (above (v % 128 + 128 - 128)) (ih b) ∙ (λ i. number (d i) (n i)))

groups_read : (k v : ℕ) (later : Bool) (rest : List ℕ) → Held k v → (later ≡ true → 0 < v) → (k ≡ 0 → 0 < v)
    → begins_with k later (groups_of k v ++ rest) ≡ number v (length (groups_of k v))
unfolding begins_with groups_of
groups_read zero v later rest l h z =
    let one : v ≡ 1 = omega (arith, z refl) in
    rw one refl
groups_read (suc k) v later rest l h z =
    groups_back (ltb v 128) k v later rest refl h
    (λ b. groups_read k (v / 128) true rest (omega (arith, pow-suc 128 k)) (λ e. omega arith) (λ e. omega arith))

number_written : (v : ℕ) (rest : List ℕ) → v < 2 ^ 64 → begins_with full false (written_of v ++ rest) ≡ number v (length (written_of v))
unfolding written_of
number_written v rest h = groups_read full v false rest h (λ e. never (cc)) (λ e. omega arith)

-- at its offset: the number is answered, and what follows it begins at the offset after it
pub number_back : (file : List ℕ) (start v : ℕ) (rest : List ℕ) → v < 2 ^ 64 → drop start file ≡ written_of v ++ rest
    → (answers (record { value = v; next = start + length (written_of v) }) ≡ number_of file start)
    × (drop (start + length (written_of v)) file ≡ rest)
unfolding number_of placed
number_back file start v rest h e = (
  sym (ap (placed start) (ap (begins_with full false) e ∙ number_written v rest h)),
  sym (drop-drop (length (written_of v)) start file) ∙ ap (drop (length (written_of v))) e ∙ drop-append_seam (written_of v) rest,
)

-- ---- which refusals there are
pub number_each : (such : ℕ → ℕ → Type 0) (bytes : List ℕ) (start : ℕ)
    → (number_of bytes start ≡ refuses ends_early start → such ends_early start)
    → (number_of bytes start ≡ refuses not_shortest start → such not_shortest start) → Each such (number_of bytes start)
unfolding number_of placed
number_each such bytes start six seven = go (begins_with full false (drop start bytes)) six seven
  where
    go : (g : Begins) → (placed start g ≡ refuses ends_early start → such ends_early start)
        → (placed start g ≡ refuses not_shortest start → such not_shortest start) → Each such (placed start g)
    go (number v n) six seven = each_answers such _
    go early six seven = each_refuses such ends_early start (six refl)
    go faulty six seven = each_refuses such not_shortest start (seven refl)

-- ---- the promise, which no two results satisfy
pub number_at_fixed : (bytes : List ℕ) (start : ℕ) → Fixes (NumberSays bytes start)
number_at_fixed bytes start a b p q = outcome_once _ (λ m n e. e) a b (p ∙ sym q)
