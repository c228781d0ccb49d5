-- Identities of whole numbers by normal forms. An expression in sums, differences and products is multiplied out and its monomials ordered;
-- two expressions with one normal form are equal. For an identity in x … z this gives a proof in one line:
--
--     solve n (λ x … z. (left, right)) refl
--
-- n counts the unknowns; `left` and `right` have `:+`, `:-`, `:*`, `opp`, `num` for `+ℤ`, `-ℤ`, `*ℤ`, `neg_ℤ`, `pos`.
--
-- In order: expressions; monomials; sums of monomials; the normal form; that each step keeps the value; `solve`.
-- Not here: inequalities, and identities under hypotheses (`Linear`); uses (`Examples`).
-- Assumes nothing.
use mathlib.Core.Path.{◌≡◌, refl, sym, ◌∙◌, ap, ap₂}
use mathlib.Core.List.{List, [], ◌∷◌}
use Prim.Native.Nat.{ℕ, zero, suc, compare, Ordering}
use lib.Dec.{T, compare_is_eq, eqb→eq}
use lib.IntN.{ℤ, pos, negsuc, neg_ℤ, ◌+ℤ◌, ◌*ℤ◌, one, neg_ℤ-+ℤ, +ℤ_assoc, +ℤ_comm, +ℤ_idl, +ℤ_idr}
use lib.IntN.{*ℤ-one, *ℤ_comm, *ℤ-zero, zero-*ℤ}
use Rattle.whole.proofs.Laws.Parts.{*ℤ_assoc, *ℤ-+ℤ, neg_ℤ-*ℤ}

-- ---- expressions

-- `var i` is the i-th unknown, `num k` is k, `neg k` is -(k + 1), `opp a` is -a
infixl 6 ◌:+◌ ◌:-◌
infixl 7 ◌:*◌
pub data Expr : Type 0 where
  var : ℕ → Expr
  num : ℕ → Expr
  neg : ℕ → Expr
  opp : Expr → Expr
  ◌:+◌ : Expr → Expr → Expr
  ◌:*◌ : Expr → Expr → Expr

abbrev pub ◌:-◌ : Expr → Expr → Expr
a :- b = a :+ opp b

-- the i-th of a list
abbrev pub nth : List ℤ → ℕ → ℤ
nth [] i = pos 0
nth (x ∷ ρ) zero = x
nth (x ∷ ρ) (suc i) = nth ρ i

-- the value of an expression, where ρ are those of the unknowns
abbrev pub den : Expr → List ℤ → ℤ
den (var i) ρ = nth ρ i
den (num k) ρ = pos k
den (neg k) ρ = negsuc k
den (opp a) ρ = neg_ℤ (den a ρ)
den (a :+ b) ρ = den a ρ +ℤ den b ρ
den (a :* b) ρ = den a ρ *ℤ den b ρ

-- ---- monomials: which unknowns are the factors, in order

-- the value
abbrev pub mono : List ℕ → List ℤ → ℤ
mono [] ρ = pos 1
mono (i ∷ m) ρ = nth ρ i *ℤ mono m ρ

abbrev pick : Ordering → List ℕ → List ℕ → List ℕ
pick Ordering.lt x y = x
pick Ordering.eq x y = x
pick Ordering.gt x y = y

-- one more factor
abbrev insert : ℕ → List ℕ → List ℕ
insert i [] = i ∷ []
insert i (j ∷ m) = pick (compare i j) (i ∷ j ∷ m) (j ∷ insert i m)

-- the product
abbrev join : List ℕ → List ℕ → List ℕ
join [] n = n
join (i ∷ m) n = insert i (join m n)

-- the first answer, and the second where that is `eq`
abbrev then : Ordering → Ordering → Ordering
then Ordering.lt o = Ordering.lt
then Ordering.eq o = o
then Ordering.gt o = Ordering.gt

-- which of two is first
abbrev mono_order : List ℕ → List ℕ → Ordering
mono_order [] [] = Ordering.eq
mono_order [] (j ∷ n) = Ordering.lt
mono_order (i ∷ m) [] = Ordering.gt
mono_order (i ∷ m) (j ∷ n) = then (compare i j) (mono_order m n)

-- ---- sums of monomials, each with a coefficient that is not 0, in order

pub data Sum : Type 0 where
  none : Sum
  more : ℤ → List ℕ → Sum → Sum

-- the value
abbrev pub total : Sum → List ℤ → ℤ
total none ρ = pos 0
total (more k m s) ρ = k *ℤ mono m ρ +ℤ total s ρ

-- k·m in front, unless k is 0
abbrev front : ℤ → List ℕ → Sum → Sum
front (pos zero) m s = s
front (pos (suc k)) m s = more (pos (suc k)) m s
front (negsuc k) m s = more (negsuc k) m s

-- k·m before j·n, together with it, or after it; s is what follows j·n, and t is s with k·m put in
abbrev beside : Ordering → ℤ → List ℕ → ℤ → List ℕ → Sum → Sum → Sum
beside Ordering.lt k m j n s t = more k m (more j n s)
beside Ordering.eq k m j n s t = front (k +ℤ j) n s
beside Ordering.gt k m j n s t = more j n t

-- k·m put in at its place
abbrev put : ℤ → List ℕ → Sum → Sum
put k m none = front k m none
put k m (more j n s) = beside (mono_order m n) k m j n s (put k m s)

abbrev plus : Sum → Sum → Sum
plus none t = t
plus (more k m s) t = put k m (plus s t)

-- k·m times a sum
abbrev scale : ℤ → List ℕ → Sum → Sum
scale k m none = none
scale k m (more j n s) = put (k *ℤ j) (join m n) (scale k m s)

abbrev times : Sum → Sum → Sum
times none t = none
times (more k m s) t = plus (scale k m t) (times s t)

abbrev minus : Sum → Sum
minus none = none
minus (more k m s) = more (neg_ℤ k) m (minus s)

-- the normal form: multiplied out, one term for each monomial
abbrev pub norm : Expr → Sum
norm (var i) = more (pos 1) (i ∷ []) none
norm (num k) = front (pos k) [] none
norm (neg k) = front (negsuc k) [] none
norm (opp a) = minus (norm a)
norm (a :+ b) = plus (norm a) (norm b)
norm (a :* b) = times (norm a) (norm b)

-- ---- each step keeps the value

one-*ℤ : (z : ℤ) → pos 1 *ℤ z ≡ z
unfolding one
one-*ℤ z = *ℤ_comm (pos 1) z ∙ *ℤ-one z

*ℤ_left_comm : (a b c : ℤ) → a *ℤ (b *ℤ c) ≡ b *ℤ (a *ℤ c)
*ℤ_left_comm a b c = sym (*ℤ_assoc a b c) ∙ ap (λ (t : ℤ). t *ℤ c) (*ℤ_comm a b) ∙ *ℤ_assoc b a c

+ℤ_left_comm : (a b c : ℤ) → a +ℤ (b +ℤ c) ≡ b +ℤ (a +ℤ c)
+ℤ_left_comm a b c = sym (+ℤ_assoc a b c) ∙ ap (λ (t : ℤ). t +ℤ c) (+ℤ_comm a b) ∙ +ℤ_assoc b a c

+ℤ-*ℤ : (a b c : ℤ) → (a +ℤ b) *ℤ c ≡ a *ℤ c +ℤ b *ℤ c
+ℤ-*ℤ a b c = *ℤ_comm (a +ℤ b) c ∙ *ℤ-+ℤ c a b ∙ ap₂ ◌+ℤ◌ (*ℤ_comm c a) (*ℤ_comm c b)

*ℤ_cross : (a b c d : ℤ) → (a *ℤ b) *ℤ (c *ℤ d) ≡ (a *ℤ c) *ℤ (b *ℤ d)
*ℤ_cross a b c d = *ℤ_assoc a b (c *ℤ d) ∙ ap (λ (t : ℤ). a *ℤ t) (*ℤ_left_comm b c d) ∙ sym (*ℤ_assoc a c (b *ℤ d))

-- monomials that compare equal are one
then_eq : (o p : Ordering) → T (compare_is_eq (then o p)) → T (compare_is_eq o) × T (compare_is_eq p)
then_eq Ordering.lt p t = absurd t
then_eq Ordering.eq p t = (tt, t)
then_eq Ordering.gt p t = absurd t

mono_order_eq : (m n : List ℕ) → T (compare_is_eq (mono_order m n)) → m ≡ n
mono_order_eq [] [] t = refl
mono_order_eq [] (j ∷ n) t = absurd t
mono_order_eq (i ∷ m) [] t = absurd t
mono_order_eq (i ∷ m) (j ∷ n) t =
    let (first, rest) = then_eq (compare i j) (mono_order m n) t in
    ap₂ ◌∷◌ (eqb→eq i j first) (mono_order_eq m n rest)

module _ (ρ : List ℤ) where
  mono_pick : (o : Ordering) (x y : List ℕ) (v : ℤ) → mono x ρ ≡ v → mono y ρ ≡ v → mono (pick o x y) ρ ≡ v
  mono_pick Ordering.lt x y v p q = p
  mono_pick Ordering.eq x y v p q = p
  mono_pick Ordering.gt x y v p q = q

  mono_insert : (i : ℕ) (m : List ℕ) → mono (insert i m) ρ ≡ nth ρ i *ℤ mono m ρ
  mono_insert i [] = refl
  mono_insert i (j ∷ m) =
      mono_pick (compare i j) (i ∷ j ∷ m) (j ∷ insert i m) (nth ρ i *ℤ (nth ρ j *ℤ mono m ρ)) refl
      (ap (λ (t : ℤ). nth ρ j *ℤ t) (mono_insert i m) ∙ *ℤ_left_comm (nth ρ j) (nth ρ i) (mono m ρ))

  mono_join : (m n : List ℕ) → mono (join m n) ρ ≡ mono m ρ *ℤ mono n ρ
  mono_join [] n = sym (one-*ℤ (mono n ρ))
  mono_join (i ∷ m) n =
      mono_insert i (join m n) ∙ ap (λ (t : ℤ). nth ρ i *ℤ t) (mono_join m n) ∙ sym (*ℤ_assoc (nth ρ i) (mono m ρ) (mono n ρ))

  total_front : (k : ℤ) (m : List ℕ) (s : Sum) → total (front k m s) ρ ≡ k *ℤ mono m ρ +ℤ total s ρ
  total_front (pos zero) m s = sym (ap (λ (t : ℤ). t +ℤ total s ρ) (zero-*ℤ (mono m ρ)) ∙ +ℤ_idl (total s ρ))
  total_front (pos (suc k)) m s = refl
  total_front (negsuc k) m s = refl

  total_beside : (o : Ordering) (k : ℤ) (m : List ℕ) (j : ℤ) (n : List ℕ) (s t : Sum)
      → (T (compare_is_eq o) → m ≡ n) → total t ρ ≡ k *ℤ mono m ρ +ℤ total s ρ
      → total (beside o k m j n s t) ρ ≡ k *ℤ mono m ρ +ℤ (j *ℤ mono n ρ +ℤ total s ρ)
  total_beside Ordering.lt k m j n s t e h = refl
  total_beside Ordering.eq k m j n s t e h =
      total_front (k +ℤ j) n s ∙ ap (λ (u : ℤ). u +ℤ total s ρ) (+ℤ-*ℤ k j (mono n ρ))
      ∙ +ℤ_assoc (k *ℤ mono n ρ) (j *ℤ mono n ρ) (total s ρ)
      ∙ ap (λ (u : List ℕ). k *ℤ mono u ρ +ℤ (j *ℤ mono n ρ +ℤ total s ρ)) (sym (e tt))
  total_beside Ordering.gt k m j n s t e h =
      ap (λ (u : ℤ). j *ℤ mono n ρ +ℤ u) h ∙ +ℤ_left_comm (j *ℤ mono n ρ) (k *ℤ mono m ρ) (total s ρ)

  total_put : (k : ℤ) (m : List ℕ) (s : Sum) → total (put k m s) ρ ≡ k *ℤ mono m ρ +ℤ total s ρ
  total_put k m none = total_front k m none
  total_put k m (more j n s) = total_beside (mono_order m n) k m j n s (put k m s) (mono_order_eq m n) (total_put k m s)

  total_plus : (s t : Sum) → total (plus s t) ρ ≡ total s ρ +ℤ total t ρ
  total_plus none t = sym (+ℤ_idl (total t ρ))
  total_plus (more k m s) t =
      total_put k m (plus s t) ∙ ap (λ (u : ℤ). k *ℤ mono m ρ +ℤ u) (total_plus s t)
      ∙ sym (+ℤ_assoc (k *ℤ mono m ρ) (total s ρ) (total t ρ))

  total_scale : (k : ℤ) (m : List ℕ) (t : Sum) → total (scale k m t) ρ ≡ (k *ℤ mono m ρ) *ℤ total t ρ
  total_scale k m none = sym (*ℤ-zero (k *ℤ mono m ρ))
  total_scale k m (more j n s) =
      total_put (k *ℤ j) (join m n) (scale k m s)
      ∙ ap₂ ◌+ℤ◌ (ap (λ (u : ℤ). (k *ℤ j) *ℤ u) (mono_join m n) ∙ *ℤ_cross k j (mono m ρ) (mono n ρ)) (total_scale k m s)
      ∙ sym (*ℤ-+ℤ (k *ℤ mono m ρ) (j *ℤ mono n ρ) (total s ρ))

  total_times : (s t : Sum) → total (times s t) ρ ≡ total s ρ *ℤ total t ρ
  total_times none t = sym (zero-*ℤ (total t ρ))
  total_times (more k m s) t =
      total_plus (scale k m t) (times s t) ∙ ap₂ ◌+ℤ◌ (total_scale k m t) (total_times s t)
      ∙ sym (+ℤ-*ℤ (k *ℤ mono m ρ) (total s ρ) (total t ρ))

  total_minus : (s : Sum) → total (minus s) ρ ≡ neg_ℤ (total s ρ)
  total_minus none = refl
  total_minus (more k m s) = ap₂ ◌+ℤ◌ (neg_ℤ-*ℤ k (mono m ρ)) (total_minus s) ∙ sym (neg_ℤ-+ℤ (k *ℤ mono m ρ) (total s ρ))

  -- a number alone
  total_constant : (k : ℤ) → total (front k [] none) ρ ≡ k
  total_constant k = total_front k [] none ∙ +ℤ_idr (k *ℤ pos 1) ∙ *ℤ_comm k (pos 1) ∙ one-*ℤ k

  pub norm_sound : (e : Expr) → total (norm e) ρ ≡ den e ρ
  norm_sound (var i) =
      +ℤ_idr (pos 1 *ℤ (nth ρ i *ℤ pos 1)) ∙ one-*ℤ (nth ρ i *ℤ pos 1) ∙ *ℤ_comm (nth ρ i) (pos 1) ∙ one-*ℤ (nth ρ i)
  norm_sound (num k) = total_constant (pos k)
  norm_sound (neg k) = total_constant (negsuc k)
  norm_sound (opp a) = total_minus (norm a) ∙ ap neg_ℤ (norm_sound a)
  norm_sound (a :+ b) = total_plus (norm a) (norm b) ∙ ap₂ ◌+ℤ◌ (norm_sound a) (norm_sound b)
  norm_sound (a :* b) = total_times (norm a) (norm b) ∙ ap₂ ◌*ℤ◌ (norm_sound a) (norm_sound b)

-- ---- the use

-- two sides, of n unknowns
abbrev Sides : ℕ → Type 0
Sides zero = Expr × Expr
Sides (suc n) = Expr → Sides n

-- the sides, the unknowns being the i-th and on
abbrev filled : (n i : ℕ) → Sides n → Expr × Expr
filled zero i f = f
filled (suc n) i f = filled n (suc i) (f (var i))

-- that P holds of every n values
abbrev Every : ℕ → (List ℤ → Type 0) → Type 0
Every zero P = P []
Every (suc n) P = (x : ℤ) → Every n (λ ρ. P (x ∷ ρ))

every : (n : ℕ) (P : List ℤ → Type 0) → ((ρ : List ℤ) → P ρ) → Every n P
every zero P f = f []
every (suc n) P f = λ x. every n (λ ρ. P (x ∷ ρ)) (λ ρ. f (x ∷ ρ))

abbrev Alike : Expr × Expr → Type 0
Alike p = norm p.0 ≡ norm p.1

abbrev Equal : Expr × Expr → List ℤ → Type 0
Equal p ρ = den p.0 ρ ≡ den p.1 ρ

alike_equal : (p : Expr × Expr) → Alike p → (ρ : List ℤ) → Equal p ρ
alike_equal p e ρ = sym (norm_sound ρ p.0) ∙ ap (λ (s : Sum). total s ρ) e ∙ norm_sound ρ p.1

pub solve : (n : ℕ) (f : Sides n) → Alike (filled n 0 f) → Every n (Equal (filled n 0 f))
solve n f e = every n (Equal (filled n 0 f)) (alike_equal (filled n 0 f) e)
