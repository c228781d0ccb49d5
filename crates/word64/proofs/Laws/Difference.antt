-- The difference of two words. In order: the promise, which no two results satisfy; two numbers that are near each other, by their last
-- words; the signed number of a wrapped difference, by its half. Assumes nothing.
use Rattle.std.proofs.Common.{◌≡◌, ℕ, ◌+◌, ◌-◌, ◌*◌, ◌/◌, ◌%◌, ◌^◌, ◌<◌, ◌≤◌, [], ◌∷◌, suc, ◌⊎◌, inl, inr, w64, to_z, ℤ, pos, negsuc, ◌+ℤ◌, ◌-ℤ◌, ◌*ℤ◌, neg_ℤ, sym, ◌∙◌, ap, subst, arith}
use mir.ValLaws.{to_z_pos, to_z-neg}
use Rattle.refusal.specs.Outcome.{Fixes}
use Rattle.whole.specs.Order.{◌≤ᶻ◌, ◌<ᶻ◌}
use Rattle.whole.proofs.Laws.Parts.{up, dn, difference_parts, ≤_parts, <_parts, ≡_parts}
use Rattle.whole.proofs.Laws.Order.{lt_or_le}
use Rattle.whole.proofs.Laws.Linear.{ints, int_rules}
use Rattle.word64.specs.Word.{SignedDifferenceSays}

-- ---- the promise
one_in_range : (r s x y z : ℤ) → neg_ℤ (pos (2 ^ 63)) ≤ᶻ r → r <ᶻ pos (2 ^ 63) → neg_ℤ (pos (2 ^ 63)) ≤ᶻ s → s <ᶻ pos (2 ^ 63)
    → r +ℤ x *ℤ pos (2 ^ 64) ≡ z → s +ℤ y *ℤ pos (2 ^ 64) ≡ z → r ≡ s
one_in_range r s x y z =
    ints (r ∷ s ∷ x ∷ y ∷ z ∷ []) (λ ρ v n m. simp (int_rules, n, m, v 0, v 1, v 2, v 3, v 4) (omega arith))

pub signed_difference_fixed : (a b : ℕ) → Fixes (SignedDifferenceSays a b)
signed_difference_fixed a b r s p q =
    one_in_range r s p.differs.0 q.differs.0 (pos a -ℤ pos b) p.least p.most q.least q.most p.differs.1 q.differs.1

-- ---- two numbers that are near each other
-- words taken from both sides
without_words : (A B a b i j : ℤ) → A ≡ a +ℤ i *ℤ pos (2 ^ 64) → B ≡ b +ℤ j *ℤ pos (2 ^ 64) → A -ℤ B +ℤ (j -ℤ i) *ℤ pos (2 ^ 64) ≡ a -ℤ b
without_words A B a b i j =
    ints (A ∷ B ∷ a ∷ b ∷ i ∷ j ∷ []) (λ ρ v n m. simp (int_rules, n, v 0, v 1, v 2, v 3, v 4, v 5) (omega arith))

near_says : (A B a b i j : ℕ) → A ≡ a + i * 2 ^ 64 → B ≡ b + j * 2 ^ 64 → A - B < 2 ^ 63 → B - A ≤ 2 ^ 63
    → SignedDifferenceSays a b (pos A -ℤ pos B)
unfolding up dn
near_says A B a b i j p q over under =
    record {
      least = (≤_parts _ (pos A -ℤ pos B)).1 (omega (arith, difference_parts A B));
      most = (<_parts (pos A -ℤ pos B) _).1 (omega (arith, difference_parts A B));
      differs = (pos j -ℤ pos i, without_words (pos A) (pos B) (pos a) (pos b) (pos i) (pos j) (ap pos p) (ap pos q));
    }

-- the last words tell their difference
pub difference_of_last_words : (A B a b : ℕ) (r : ℤ) → a ≡ A % 2 ^ 64 → b ≡ B % 2 ^ 64 → A - B < 2 ^ 63 → B - A < 2 ^ 63
    → SignedDifferenceSays a b r → r ≡ pos A -ℤ pos B
difference_of_last_words A B a b r p q over under says =
    signed_difference_fixed a b r (pos A -ℤ pos B) says
    (near_says A B a b (A / 2 ^ 64) (B / 2 ^ 64) (omega arith) (omega arith) over (omega arith))

-- ---- the wrapped difference d: with b it wraps to a
module _ (a b d : ℕ) (below : d < 2 ^ 64) (wraps : (d + b) % 2 ^ 64 ≡ a) where
  difference_up : d < 2 ^ 63 → SignedDifferenceSays a b (pos d)
  unfolding up dn
  difference_up h =
      let is : pos (d + b) -ℤ pos b ≡ pos d = (≡_parts _ _).1 (omega (arith, difference_parts (d + b) b)) in
      subst (SignedDifferenceSays a b) is (near_says (d + b) b a b ((d + b) / 2 ^ 64) 0 (omega arith) (omega arith) (omega arith) (omega arith))

  difference_down : 2 ^ 63 ≤ d → SignedDifferenceSays a b (negsuc (2 ^ 64 - 1 - d))
  unfolding up dn
  difference_down h =
      let is : pos (d + b) -ℤ pos (b + 2 ^ 64) ≡ negsuc (2 ^ 64 - 1 - d) = (≡_parts _ _).1 (omega (arith, difference_parts (d + b) (b + 2 ^ 64))) in
      subst (SignedDifferenceSays a b) is
      (near_says (d + b) (b + 2 ^ 64) a b ((d + b) / 2 ^ 64) 1 (omega arith) (omega arith) (omega arith) (omega arith))

  -- the wrapped difference as a signed number
  pub difference_signed : SignedDifferenceSays a b (to_z w64 d)
  difference_signed = go (lt_or_le d (2 ^ 63))
    where
      go : (d < 2 ^ 63) ⊎ (2 ^ 63 ≤ d) → SignedDifferenceSays a b (to_z w64 d)
      go (inl h) = subst (SignedDifferenceSays a b) (sym (to_z_pos w64 d h)) (difference_up h)
      go (inr h) =
          let k : ℕ = 2 ^ 64 - 1 - d in
          let is : 2 ^ 64 - suc k ≡ d = omega arith in
          subst (SignedDifferenceSays a b) (sym (to_z-neg w64 k (omega arith)) ∙ ap (to_z w64) is) (difference_down h)
