-- The one pass over a list, from its end. In order: a tally's turn, by cases of the entry; a turn keeps the tally of the look's definitions;
-- counts and indices are within the list. Assumes nothing.
use mathlib.Core.Path.{◌≡◌, refl, sym, ap, ◌∙◌, subst}
use mathlib.Core.Bool.{Bool, true, false, cond}
use mathlib.Core.List.{List, [], ◌∷◌}
use Prim.Native.Nat.{ℕ, suc, ◌+◌, ◌*◌, ◌≤◌, ◌<◌, zero-le}
use native.Mathlib.Nat.{add_comm, add-zero, zero-add, zero-mul, le_refl, le_trans, le_of_eq}
use native.Mathlib.Omega.{arith}
use lib.Dec.{T, ltb}
use lib.ListN.{length}
use lib.Ieee.{Float, nan, inf, fin, lt, le, of_bits, up, down}
use borrow.Author.Tests.{le-ltb}
use Rattle.double.specs.Worth.{plus0}
use Rattle.sum.specs.Limit.{limit}
use Rattle.sum.specs.Look.{on_side, as_far, count_of, extreme_of, index_of}
use Rattle.sum.specs.Tally.{tally_of, seen_of}
use Rattle.sum.specs.declared.look.Tally.{Tally}

-- ---- one entry more, by cases
module _ (i : ℕ) (x : Float) (t : Tally) where
  pub seen_highest : lt plus0 x ≡ true → le t.a x ≡ true
      → record { a = x; at = i; m = t.m + 1; b = t.b; bt = t.bt; n = t.n } ≡ seen_of i x t
  unfolding seen_of
  seen_highest h k = rw (h, k)

  pub seen_positive : lt plus0 x ≡ true → le t.a x ≡ false
      → record { a = t.a; at = t.at; m = t.m + 1; b = t.b; bt = t.bt; n = t.n } ≡ seen_of i x t
  unfolding seen_of
  seen_positive h k = rw (h, k)

  pub seen_lowest : lt plus0 x ≡ false → lt x plus0 ≡ true → le x t.b ≡ true
      → record { a = t.a; at = t.at; m = t.m; b = x; bt = i; n = t.n + 1 } ≡ seen_of i x t
  unfolding seen_of
  seen_lowest p h k = rw (p, h, k)

  pub seen_negative : lt plus0 x ≡ false → lt x plus0 ≡ true → le x t.b ≡ false
      → record { a = t.a; at = t.at; m = t.m; b = t.b; bt = t.bt; n = t.n + 1 } ≡ seen_of i x t
  unfolding seen_of
  seen_negative p h k = rw (p, h, k)

  pub seen_zero : lt plus0 x ≡ false → lt x plus0 ≡ false → t ≡ seen_of i x t
  unfolding seen_of
  seen_zero p h = rw (p, h)

-- ---- what an entry adds on a side
record Adds (s : Bool) (x : Float) (xs : List Float) (v : Float) (i k : ℕ) : Type 0 where
  extreme : extreme_of s (x ∷ xs) ≡ v
  index : index_of s (x ∷ xs) ≡ i
  count : count_of s (x ∷ xs) ≡ k

module _ (s : Bool) (x : Float) (xs : List Float) where
  adds_farthest : on_side s x ≡ true → as_far s x (extreme_of s xs) ≡ true → Adds s x xs x 0 (count_of s xs + 1)
  unfolding extreme_of index_of count_of
  adds_farthest h k = record { extreme = rw (h, k); index = rw (h, k); count = rw h (add_comm 1 (count_of s xs)) }

  adds_one : on_side s x ≡ true → as_far s x (extreme_of s xs) ≡ false → Adds s x xs (extreme_of s xs) (suc (index_of s xs)) (count_of s xs + 1)
  unfolding extreme_of index_of count_of
  adds_one h k = record { extreme = rw (h, k); index = rw (h, k); count = rw h (add_comm 1 (count_of s xs)) }

  adds_none : on_side s x ≡ false → Adds s x xs (extreme_of s xs) (suc (index_of s xs)) (count_of s xs)
  unfolding extreme_of index_of count_of
  adds_none h = record { extreme = rw h; index = rw h; count = rw h (zero-add (count_of s xs)) }

none_below : (a d : ℕ) → ltb a (0 * d) ≡ false
none_below a d = le-ltb a (0 * d) (le_trans (le_of_eq (zero-mul d)) zero-le)

-- a positive entry is not negative
pub positive_only : (x : Float) → lt plus0 x ≡ true → lt x plus0 ≡ false
unfolding lt of_bits
positive_only nan h = refl
positive_only (inf true) h = sym h
positive_only (inf false) h = refl
positive_only (fin true m e) h = absurd (subst T (sym h) tt)
positive_only (fin false m e) h = none_below (m * up e * 1) (down e)

-- ---- a turn of the pass
module _ (i : ℕ) (x : Float) (xs : List Float) where
  past : (j : ℕ) → i + 1 + j ≡ i + suc j
  past j = omega arith

  -- a tally is known by what the entry adds on either side
  tallies : {a b : Float} {at bt m n u v : ℕ} → Adds false x xs a u m → Adds true x xs b v n → at ≡ i + u → bt ≡ i + v
      → record { a = a; at = at; m = m; b = b; bt = bt; n = n } ≡ tally_of i (x ∷ xs)
  tallies p q e f = cc (p.extreme, p.index, p.count, q.extreme, q.index, q.count)

  pub tally_turn : seen_of i x (tally_of (i + 1) xs) ≡ tally_of i (x ∷ xs)
  tally_turn = go (lt plus0 x) refl (lt x plus0) refl (le (extreme_of false xs) x) refl (le x (extreme_of true xs)) refl
    where
      here : i ≡ i + 0
      here = sym (add-zero i)

      go : (p : Bool) → lt plus0 x ≡ p → (n : Bool) → lt x plus0 ≡ n → (f : Bool) → le (extreme_of false xs) x ≡ f
          → (g : Bool) → le x (extreme_of true xs) ≡ g → seen_of i x (tally_of (i + 1) xs) ≡ tally_of i (x ∷ xs)
      go true p n en true f g eg =
          sym (seen_highest i x (tally_of (i + 1) xs) p f)
          ∙ tallies (adds_farthest false x xs p f) (adds_none true x xs (positive_only x p)) here (past (index_of true xs))
      go true p n en false f g eg =
          sym (seen_positive i x (tally_of (i + 1) xs) p f)
          ∙ tallies (adds_one false x xs p f) (adds_none true x xs (positive_only x p)) (past (index_of false xs)) (past (index_of true xs))
      go false p true n f ef true g =
          sym (seen_lowest i x (tally_of (i + 1) xs) p n g)
          ∙ tallies (adds_none false x xs p) (adds_farthest true x xs n g) (past (index_of false xs)) here
      go false p true n f ef false g =
          sym (seen_negative i x (tally_of (i + 1) xs) p n g)
          ∙ tallies (adds_none false x xs p) (adds_one true x xs n g) (past (index_of false xs)) (past (index_of true xs))
      go false p false n f ef g eg =
          sym (seen_zero i x (tally_of (i + 1) xs) p n)
          ∙ tallies (adds_none false x xs p) (adds_none true x xs n) (past (index_of false xs)) (past (index_of true xs))

-- no entry: the indices are the list's length
pub tally_end : (i n : ℕ) → i ≡ n → record { a = plus0; at = n; m = 0; b = plus0; bt = n; n = 0 } ≡ tally_of i []
unfolding extreme_of index_of count_of
tally_end i n e = rw (e, add-zero n)

-- the entry before the entries xs
pub tally_before : (x : Float) (xs : List Float) (t r : Tally) (i j : ℕ) → j ≡ i + 1 → t ≡ tally_of j xs → r ≡ seen_of i x t
    → r ≡ tally_of i (x ∷ xs)
tally_before x xs t r i j e f g =
    g ∙ ap (seen_of i x) (f ∙ ap (λ (n : ℕ). tally_of n xs) e) ∙ tally_turn i x xs

-- no more entries on a side than entries
pub count_most : (s : Bool) (xs : List Float) → count_of s xs ≤ length xs
unfolding count_of
count_most s [] = le_refl 0
count_most s (x ∷ xs) = go (on_side s x) (count_most s xs)
  where
    go : (b : Bool) → count_of s xs ≤ length xs → cond b 1 0 + count_of s xs ≤ suc (length xs)
    go true h = omega arith
    go false h = omega arith

-- where an entry is left, there is room for one more on each side
pub count_room : (s : Bool) (xs done : List Float) → length done + 1 ≤ length xs → length xs ≤ limit → count_of s done < limit
count_room s xs done r h = omega (arith, count_most s done)
