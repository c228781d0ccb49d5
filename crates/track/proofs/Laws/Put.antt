-- A number that is written byte by byte, all but the last in a loop: what is stored, with what is still to be stored, is its bytes. Not here:
-- which bytes (Laws.Written of crate number), those of a list of points (Laws.File). Assumes nothing.
use Prim.Native.Nat.{ℕ, suc, ◌+◌, ◌-◌, ◌/◌, ◌%◌, ◌^◌, ◌≤◌, ◌<◌}
use mathlib.Core.Path.{◌≡◌, refl, sym, ap, ◌∙◌}
use mathlib.Core.Bool.{Bool, true, false}
use mathlib.Core.List.{List, [], ◌∷◌, ◌++◌}
use native.Mathlib.Numerals.{add-one}
use native.Mathlib.Omega.{arith}
use borrow.Author.Tests.{ltb-true, ltb-false}
use borrow.Rule.Slice.PartMut.{put_mid}
use lib.Dec.{ltb}
use lib.ListN.{length, take, drop, get_or, set, length-set, length-append, length-drop}
use lib.Seq.{sets, sets-eq, set_at, append_snoc, take-suc-set, take-length, length-take-le, drop-cons, drop-drop}
use Rattle.std.proofs.Common.{append_assoc}
use Rattle.number.specs.Number.{groups_of, written_of, full}
use Rattle.number.proofs.Laws.Written.{Held, groups_last, groups_step, groups_some, written_groups}

-- what is still to be stored after i bytes: the groups of rest, k more and one
pub record Putting (v : ℕ) (others : List ℕ) (rest i k : ℕ) : Type 0 where
  pub low : Held k rest
  pub len : length others + 1 ≡ length (written_of v)
  pub all : written_of v ≡ take i others ++ groups_of k rest

pub putting_start : (v : ℕ) (others : List ℕ) → v < 2 ^ 64 → length others + 1 ≡ length (written_of v) → Putting v others v 0 full
putting_start v others h l = record { low = h; len = l; all = written_groups v }

module _ (v : ℕ) (others : List ℕ) (rest i k : ℕ) (p : Putting v others rest i k) where
  left : i ≤ length others → i + length (groups_of k rest) ≡ length others + 1
  left h =
      omega (
        arith,
        p.len,
        ap length p.all,
        length-append (take i others) (groups_of k rest),
        length-take-le i others h,
      )

  pub putting_turn : i < length others → (j : ℕ) × Putting v (set others i (rest % 128 + 128)) (rest / 128) (i + 1) j
  putting_turn h = go (ltb rest 128) refl
    where
      go : (t : Bool) → ltb rest 128 ≡ t → (j : ℕ) × Putting v (set others i (rest % 128 + 128)) (rest / 128) (i + 1) j
      go true s = absurd (omega (arith, left (omega arith), ap length (groups_last k rest (ltb-true rest 128 s))))
      go false s =
          let m = groups_step k rest p.low (ltb-false rest 128 s) in
          let x = rest % 128 + 128 in (
            m.0,
            record {
              low = m.3;
              len = omega (arith, p.len, length-set others i x);
              all = p.all ∙ ap (λ (g : List ℕ). take i others ++ g) m.2 ∙ sym (append_snoc (take i others) x (groups_of m.0 (rest / 128)))
                  ∙ ap (λ (g : List ℕ). g ++ groups_of m.0 (rest / 128)) (sym (rw (add-one i) (take-suc-set others i x h)));
            },
          )

  module _ (done : length others ≡ i) where
    pub putting_low : rest < 128
    putting_low = go (ltb rest 128) refl
      where
        go : (t : Bool) → ltb rest 128 ≡ t → rest < 128
        go true s = ltb-true rest 128 s
        go false s =
            let m = groups_step k rest p.low (ltb-false rest 128 s) in
            absurd (omega (arith, left (omega arith), ap length m.2, groups_some m.0 (rest / 128)))

    all_written : written_of v ≡ others ++ (rest ∷ [])
    all_written =
        p.all ∙ ap (λ (g : List ℕ). take i others ++ g) (groups_last k rest putting_low)
        ∙ ap (λ (g : List ℕ). g ++ (rest ∷ [])) (ap (λ (n : ℕ). take n others) (sym done) ∙ take-length others)

    pub putting_done : (out : List ℕ) (start n at : ℕ) → n ≡ length others → at ≡ start + n → start + length (written_of v) ≤ length out
        → set (put_mid start n out others) at rest ≡ sets out start (written_of v)
    putting_done out start n at e f room =
        let more : length (written_of v) ≡ n + 1 = omega (arith, p.len) in
        let behind = drop (suc (start + n)) out in
        let y = get_or out (start + n) 0 in
        let kept : drop n (drop start out) ≡ y ∷ behind = drop-drop n start out ∙ drop-cons out (start + n) 0 (omega arith) in
        let here : length (take start out ++ others) ≡ at =
        omega (arith, length-append (take start out) others, length-take-le start out (omega arith)) in
        let next : start + length (written_of v) ≡ suc (start + n) = omega arith in
        ap (λ (l : List ℕ). set (take start out ++ (others ++ l)) at rest) kept
        ∙ ap (λ (l : List ℕ). set l at rest) (sym (append_assoc (take start out) others (y ∷ behind)))
        ∙ set_at (take start out ++ others) y behind rest at here
        ∙ sym (append_snoc (take start out ++ others) rest behind)
        ∙ ap (λ (l : List ℕ). l ++ behind) (append_assoc (take start out) others (rest ∷ []))
        ∙ ap (λ (l : List ℕ). take start out ++ l ++ behind) (sym all_written)
        ∙ ap (λ (k : ℕ). take start out ++ written_of v ++ drop k out) (sym next)
        ∙ sym (sets-eq (written_of v) out start room)

-- the bytes of a number but for its last, and the place of its last
pub part_length : (out : List ℕ) (start n : ℕ) → 1 ≤ n → start + n ≤ length out
    → length (take (start + n - 1 - start) (drop start out)) + 1 ≡ n
part_length out start n h room =
    omega (arith, length-take-le (start + n - 1 - start) (drop start out) (omega (arith, length-drop start out)))

pub last_within : (out others : List ℕ) (start n at : ℕ) → n ≡ length others → at ≡ start + n → at < length out
    → at < length (put_mid start n out others)
last_within out others start n at e f h =
    omega (
      arith,
      length-append (take start out) (others ++ drop n (drop start out)),
      length-append others (drop n (drop start out)),
      length-take-le start out (omega arith),
      length-drop start out,
      length-drop n (drop start out),
    )
