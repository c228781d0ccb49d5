-- A count of a line, read byte by byte. In order: a count too large stays so; the digits after a first one; all of them.
-- Assumes nothing.
use mathlib.Core.Path.{◌≡◌, refl, sym, ap, ◌∙◌}
use mathlib.Core.Bool.{Bool, true, false, cond}
use mathlib.Core.List.{List, [], ◌∷◌}
use Prim.Native.Nat.{ℕ, ◌+◌, ◌*◌, ◌^◌, ◌≤◌, ◌<◌}
use native.Mathlib.Omega.{arith}
use lib.Dec.{eqb, ltb}
use borrow.Author.Tests.{eq-eqb, ne_eqb, lt-ltb, le-ltb, ltb-true, ltb-false, eqb-true, eqb-false}
use Rattle.std.specs.Prelude.{Option, Some, None}
use Rattle.line.specs.Numeral.{with_digit, digit_of, onward, small, count_of}
use Rattle.line.specs.Line.{Meaning, unclear, first_of, later_of, with_number}
use Rattle.line.specs.Next.{ended_of, closed_of, to_count, count_with, after_one}
use Rattle.line.specs.Read.{end_meaning, read_from}
use Rattle.line.specs.declared.answer.Word.{Word}
use Rattle.line.specs.declared.answer.Line.TheVariants.{Unclear, Counting}
use Rattle.line.specs.declared.answer.Counting.{Counting as Count}
use Rattle.line.proofs.Laws.Digit.{digit_nonzero}
use Rattle.line.proofs.Laws.Read.{after, space_read, space_first, space_later, other_read, other_first, other_later, read_unclear}

-- no digit makes a count smaller
large_stays : (word : List ℕ) (v : ℕ) → 2 ^ 32 ≤ v → small (onward 10 v word) ≡ None
unfolding onward
large_stays [] v h = rw (le-ltb v (2 ^ 32) h) refl
large_stays (b ∷ word) v h = go (digit_of b) (λ d. large_stays word (10 * v + d) (omega arith))
  where
    go : (z : Option ℕ) → ((d : ℕ) → small (onward 10 (10 * v + d) word) ≡ None)
        → small (with_digit 10 z (λ d. onward 10 (10 * v + d) word) None) ≡ None
    go (Some d) ih = pick (ltb d 10)
      where
        pick : (t : Bool) → small (cond t (onward 10 (10 * v + d) word) None) ≡ None
        pick true = ih d
        pick false = refl
    go None ih = refl

-- the digits after a first one: none after a 0
count_from : ℕ → List ℕ → Option ℕ
count_from n [] = Some n
count_from n (b ∷ word) = cond (eqb n 0) None (small (onward 10 n (b ∷ word)))

nonzero_from : (word : List ℕ) (n : ℕ) → 0 < n → n < 2 ^ 32 → count_from n word ≡ small (onward 10 n word)
unfolding count_from onward
nonzero_from [] n some h = rw (lt-ltb n (2 ^ 32) h) refl
nonzero_from (b ∷ word) n some h = rw (ne_eqb n 0 (λ e. omega arith)) refl

zero_digit : (b d : ℕ) → b ≡ 48 → digit_of b ≡ Some d → d ≡ 0
unfolding digit_of
zero_digit b d f e = let z : Some 0 ≡ Some d = ap digit_of (sym f) ∙ e in cc

-- the first digit
count_digit : (b d : ℕ) (word : List ℕ) → digit_of b ≡ Some d → d < 10 → count_from (10 * 0 + d) word ≡ count_of (b ∷ word)
unfolding count_from count_of onward
count_digit b d [] e h = rw (e, lt-ltb d 10 h, lt-ltb (10 * 0 + d) (2 ^ 32) (omega arith)) refl
count_digit b d (c ∷ word) e h = go (eqb b 48) refl
  where
    go : (t : Bool) → eqb b 48 ≡ t → count_from (10 * 0 + d) (c ∷ word) ≡ count_of (b ∷ c ∷ word)
    go true f = rw (f, eq-eqb (10 * 0 + d) 0 (omega (arith, zero_digit b d (eqb-true b 48 f) e))) refl
    go false f =
        let some = digit_nonzero b d e (eqb-false b 48 f) in
        rw (f, e, lt-ltb d 10 h, ne_eqb (10 * 0 + d) 0 (λ z. omega arith)) refl

onward_none : (b : ℕ) (word : List ℕ) → digit_of b ≡ None → onward 10 0 (b ∷ word) ≡ None
unfolding onward
onward_none b word e = rw e refl

onward_large : (b d : ℕ) (word : List ℕ) → digit_of b ≡ Some d → ltb d 10 ≡ false → onward 10 0 (b ∷ word) ≡ None
unfolding onward
onward_large b d word e f = rw (e, f) refl

count_none : (b : ℕ) (word : List ℕ) → onward 10 0 (b ∷ word) ≡ None → count_of (b ∷ word) ≡ None
unfolding count_of
count_none b [] e = rw e refl
count_none b (c ∷ word) e = go (eqb b 48)
  where
    go : (t : Bool) → cond t None (small (onward 10 0 (b ∷ c ∷ word))) ≡ None
    go true = refl
    go false = rw e refl

-- ---- a count, and what follows it
module _ (word : Word) (many left : ℕ) (k : ℕ → List (List ℕ) → Meaning)
    (ends : (n : ℕ) → end_meaning (closed_of (after_one word many left n)) ≡ k n [])
    (goes : (n : ℕ) (bytes : List ℕ) → after (after_one word many left n) bytes ≡ k n (first_of bytes ∷ later_of bytes)) where
  follows : List (List ℕ) → Option ℕ → Meaning
  follows later z = with_number z (λ n. k n later)

  abbrev so_far : ℕ → Count
  so_far n = record { word = word; count = Some n; many = many; left = left }

  Reads : ℕ → List ℕ → Type 0
  Reads n bytes = read_from (Counting (so_far n)) bytes ≡ follows (later_of bytes) (count_from n (first_of bytes))

  counting_other : (n b : ℕ) (bytes : List ℕ) → eqb b 32 ≡ false
      → ((d : ℕ) → 10 * n + d < 2 ^ 32 → Reads (10 * n + d) bytes) → Reads n (b ∷ bytes)
  unfolding Reads follows count_from onward
  counting_other n b bytes e ih =
      other_read b bytes e (Counting (so_far n)) ∙ go (digit_of b) ∙ rw (other_first b bytes e, other_later b bytes e) refl
    where
      more : Option ℕ → Meaning
      more = follows (later_of bytes)

      neither : (t : Bool) → unclear ≡ more (cond t None None)
      neither true = refl
      neither false = refl

      pick : (d : ℕ) (t u : Bool) → eqb n 0 ≡ u → (v : Bool) → ltb (10 * n + d) (2 ^ 32) ≡ v
          → read_from (cond t (count_with (so_far n) d) Unclear) bytes
          ≡ more (cond (eqb n 0) None (small (cond t (onward 10 (10 * n + d) (first_of bytes)) None)))
      pick d true true f v g = rw f (read_unclear bytes)
      pick d true false f true g =
          let less : 10 * n + d < 2 ^ 32 = ltb-true (10 * n + d) (2 ^ 32) g in
          let some : 0 < 10 * n + d = omega (arith, eqb-false n 0 f) in
          rw (f, g) (ih d less ∙ ap more (nonzero_from (first_of bytes) (10 * n + d) some less))
      pick d true false f false g =
          rw (f, g) (read_unclear bytes ∙ sym (ap more (large_stays (first_of bytes) (10 * n + d) (ltb-false (10 * n + d) (2 ^ 32) g))))
      pick d false u f v g = read_unclear bytes ∙ neither (eqb n 0)

      go : (z : Option ℕ) → read_from (with_digit 10 z (count_with (so_far n)) Unclear) bytes
          ≡ more (cond (eqb n 0) None (small (with_digit 10 z (λ d. onward 10 (10 * n + d) (first_of bytes)) None)))
      go (Some d) = pick d (ltb d 10) (eqb n 0) refl (ltb (10 * n + d) (2 ^ 32)) refl
      go None = read_unclear bytes ∙ neither (eqb n 0)

  read_counted : (bytes : List ℕ) (n : ℕ) → Reads n bytes
  unfolding Reads follows count_from read_from ended_of first_of later_of
  read_counted [] n = ends n
  read_counted (b ∷ bytes) n = go (eqb b 32) refl (λ d h. read_counted bytes (10 * n + d))
    where
      go : (t : Bool) → eqb b 32 ≡ t → ((d : ℕ) → 10 * n + d < 2 ^ 32 → Reads (10 * n + d) bytes) → Reads n (b ∷ bytes)
      go true e ih =
          space_read b bytes e (Counting (so_far n)) ∙ goes n bytes ∙ rw (space_first b bytes e, space_later b bytes e) refl
      go false e ih = counting_other n b bytes e ih

  pub read_count : (bytes : List ℕ)
      → read_from (to_count word many left) bytes ≡ with_number (count_of (first_of bytes)) (λ n. k n (later_of bytes))
  unfolding Reads follows count_of read_from ended_of first_of later_of
  read_count [] = refl
  read_count (b ∷ bytes) = go (eqb b 32) refl
    where
      more : Option ℕ → Meaning
      more = follows (later_of bytes)

      begun : Count
      begun = record { word = word; count = None; many = many; left = left }

      pick : (d : ℕ) → digit_of b ≡ Some d → (t : Bool) → ltb d 10 ≡ t
          → read_from (cond t (count_with begun d) Unclear) bytes ≡ more (count_of (b ∷ first_of bytes))
      pick d e true f =
          let less : d < 10 = ltb-true d 10 f in
          rw (lt-ltb (10 * 0 + d) (2 ^ 32) (omega arith))
          (read_counted bytes (10 * 0 + d) ∙ ap more (count_digit b d (first_of bytes) e less))
      pick d e false f = read_unclear bytes ∙ sym (ap more (count_none b (first_of bytes) (onward_large b d (first_of bytes) e f)))

      other : (z : Option ℕ) → digit_of b ≡ z
          → read_from (with_digit 10 z (count_with begun) Unclear) bytes ≡ more (count_of (b ∷ first_of bytes))
      other (Some d) e = pick d e (ltb d 10) refl
      other None e = read_unclear bytes ∙ sym (ap more (count_none b (first_of bytes) (onward_none b (first_of bytes) e)))

      go : (t : Bool) → eqb b 32 ≡ t
          → read_from (to_count word many left) (b ∷ bytes) ≡ follows (later_of (b ∷ bytes)) (count_of (first_of (b ∷ bytes)))
      go true e = space_read b bytes e (to_count word many left) ∙ read_unclear bytes ∙ rw (space_first b bytes e) refl
      go false e = other_read b bytes e (to_count word many left) ∙ other (digit_of b) refl ∙ rw (other_first b bytes e, other_later b bytes e) refl
