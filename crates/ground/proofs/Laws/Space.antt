-- The determinant of four points with heights. In order: identities of four points by normal forms; the 24 products; two points exchanged;
-- two points equal; a plane of one height, and the sign there; all four of one height.
-- Not here: what `plane` answers (the crate `laws`). Assumes nothing.
use mathlib.Core.Path.{◌≡◌, refl, sym, ap, ap₂, ◌∙◌}
use mathlib.Core.List.{List, [], ◌∷◌}
use lib.IntN.{ℤ, pos, neg_ℤ, ◌+ℤ◌, ◌-ℤ◌, ◌*ℤ◌}
use Rattle.whole.specs.Order.{◌<ᶻ◌}
use Rattle.whole.specs.Sign.{sgn}
use Rattle.whole.proofs.Laws.Ring.{Expr, var, num, opp, ◌:+◌, ◌:-◌, ◌:*◌, den, norm, Sum, total, norm_sound, solve}
use Rattle.whole.proofs.Laws.Sign.{sgn_neg, sgn_scale}
use Rattle.ground.specs.Plane as plane
use Rattle.ground.specs.Space.{HighSpot, shadow, determinant}
use Rattle.ground.specs.Space.{Exchanged, swap_pq, swap_pr, swap_ps, swap_qr, swap_qs, swap_rs}
use Rattle.ground.specs.Space.{TwoEqual, equal_pq, equal_pr, equal_ps, equal_qr, equal_qs, equal_rs}

-- ---- identities of four points: `solve`, where a point is one unknown

record Unknown : Type 0 where
  x : Expr
  y : Expr
  height : Expr

abbrev P : Unknown
P = record { x = var 0; y = var 1; height = var 2 }

abbrev Q : Unknown
Q = record { x = var 3; y = var 4; height = var 5 }

abbrev R : Unknown
R = record { x = var 6; y = var 7; height = var 8 }

abbrev S : Unknown
S = record { x = var 9; y = var 10; height = var 11 }

abbrev values : HighSpot → HighSpot → HighSpot → HighSpot → List ℤ
values p q r s =
    p.x ∷ p.y ∷ p.height ∷ q.x ∷ q.y ∷ q.height ∷ r.x ∷ r.y ∷ r.height ∷ s.x ∷ s.y ∷ s.height ∷ []

-- one normal form, one value
solved : (a b : Expr) → norm a ≡ norm b → (p q r s : HighSpot) → den a (values p q r s) ≡ den b (values p q r s)
solved a b e p q r s =
    let ρ = values p q r s in sym (norm_sound ρ a) ∙ ap (λ (t : Sum). total t ρ) e ∙ norm_sound ρ b

-- both determinants as expressions
abbrev three_expr : Expr → Expr → Expr → Expr → Expr → Expr → Expr → Expr → Expr → Expr
three_expr a b c d e f g h i = a :* (e :* i :- f :* h) :- b :* (d :* i :- f :* g) :+ c :* (d :* h :- e :* g)

abbrev high_expr : Unknown → Unknown → Unknown → Unknown → Expr
high_expr p q r s =
    p.x :* three_expr q.y q.height (num 1) r.y r.height (num 1) s.y s.height (num 1)
    :- p.y :* three_expr q.x q.height (num 1) r.x r.height (num 1) s.x s.height (num 1)
    :+ p.height :* three_expr q.x q.y (num 1) r.x r.y (num 1) s.x s.y (num 1)
    :- num 1 :* three_expr q.x q.y q.height r.x r.y r.height s.x s.y s.height

abbrev flat_expr : Unknown → Unknown → Unknown → Expr
flat_expr p q r = (q.x :- p.x) :* (r.y :- p.y) :- (q.y :- p.y) :* (r.x :- p.x)

-- ---- the 24 products, in the order of Plane 4

abbrev pub plus : HighSpot → HighSpot → HighSpot → ℤ
plus a b c = a.x *ℤ b.y *ℤ c.height

abbrev pub minus : HighSpot → HighSpot → HighSpot → ℤ
minus a b c = neg_ℤ a.x *ℤ b.y *ℤ c.height

abbrev plus_expr : Unknown → Unknown → Unknown → Expr
plus_expr a b c = a.x :* b.y :* c.height

abbrev minus_expr : Unknown → Unknown → Unknown → Expr
minus_expr a b c = opp a.x :* b.y :* c.height

pub products : (p q r s : HighSpot)
    → plus p q r +ℤ (minus p q s +ℤ (minus p r q +ℤ (plus p r s +ℤ (plus p s q +ℤ (minus p s r
    +ℤ (minus q p r +ℤ (plus q p s +ℤ (plus q r p +ℤ (minus q r s +ℤ (minus q s p +ℤ (plus q s r
    +ℤ (plus r p q +ℤ (minus r p s +ℤ (minus r q p +ℤ (plus r q s +ℤ (plus r s p +ℤ (minus r s q
    +ℤ (minus s p q +ℤ (plus s p r +ℤ (plus s q p +ℤ (minus s q r +ℤ (minus s r p +ℤ (plus s r q +ℤ pos 0)))))))))))))))))))))))
    ≡ determinant p q r s
products =
    solved
    (plus_expr P Q R :+ (minus_expr P Q S :+ (minus_expr P R Q :+ (plus_expr P R S :+ (plus_expr P S Q :+ (minus_expr P S R
    :+ (minus_expr Q P R :+ (plus_expr Q P S :+ (plus_expr Q R P :+ (minus_expr Q R S :+ (minus_expr Q S P :+ (plus_expr Q S R
    :+ (plus_expr R P Q :+ (minus_expr R P S :+ (minus_expr R Q P :+ (plus_expr R Q S :+ (plus_expr R S P :+ (minus_expr R S Q
    :+ (minus_expr S P Q :+ (plus_expr S P R :+ (plus_expr S Q P :+ (minus_expr S Q R :+ (minus_expr S R P :+ (plus_expr S R Q
    :+ num 0))))))))))))))))))))))))
    (high_expr P Q R S) refl

-- ---- two points exchanged

-- what holds of each of the four holds of each of the others
pub exchanged_all : {A : Type 0} (H : A → Type 0) {p q r s a b c d : A} → Exchanged p q r s a b c d
    → H p × H q × H r × H s → H a × H b × H c × H d
exchanged_all H swap_pq (hp, hq, hr, hs) = (hq, hp, hr, hs)
exchanged_all H swap_pr (hp, hq, hr, hs) = (hr, hq, hp, hs)
exchanged_all H swap_ps (hp, hq, hr, hs) = (hs, hq, hr, hp)
exchanged_all H swap_qr (hp, hq, hr, hs) = (hp, hr, hq, hs)
exchanged_all H swap_qs (hp, hq, hr, hs) = (hp, hs, hr, hq)
exchanged_all H swap_rs (hp, hq, hr, hs) = (hp, hq, hs, hr)

-- of points so exchanged, the same two of their images are
pub exchanged_map : {A B : Type 0} (f : A → B) {p q r s a b c d : A} → Exchanged p q r s a b c d
    → Exchanged (f p) (f q) (f r) (f s) (f a) (f b) (f c) (f d)
exchanged_map f swap_pq = swap_pq
exchanged_map f swap_pr = swap_pr
exchanged_map f swap_ps = swap_ps
exchanged_map f swap_qr = swap_qr
exchanged_map f swap_qs = swap_qs
exchanged_map f swap_rs = swap_rs

-- the determinant turns to its negative
pub exchanged_turns : {p q r s a b c d : HighSpot} → Exchanged p q r s a b c d → determinant a b c d ≡ neg_ℤ (determinant p q r s)
exchanged_turns {p} {q} {r} {s} swap_pq = solved (high_expr Q P R S) (opp (high_expr P Q R S)) refl p q r s
exchanged_turns {p} {q} {r} {s} swap_pr = solved (high_expr R Q P S) (opp (high_expr P Q R S)) refl p q r s
exchanged_turns {p} {q} {r} {s} swap_ps = solved (high_expr S Q R P) (opp (high_expr P Q R S)) refl p q r s
exchanged_turns {p} {q} {r} {s} swap_qr = solved (high_expr P R Q S) (opp (high_expr P Q R S)) refl p q r s
exchanged_turns {p} {q} {r} {s} swap_qs = solved (high_expr P S R Q) (opp (high_expr P Q R S)) refl p q r s
exchanged_turns {p} {q} {r} {s} swap_rs = solved (high_expr P Q S R) (opp (high_expr P Q R S)) refl p q r s

-- ---- two points equal: the four span no volume

pub two_equal_flat : (p q r s : HighSpot) → TwoEqual p q r s → determinant p q r s ≡ pos 0
two_equal_flat p q r s (equal_pq e) = ap (λ (z : HighSpot). determinant z q r s) e ∙ solved (high_expr Q Q R S) (num 0) refl p q r s
two_equal_flat p q r s (equal_pr e) = ap (λ (z : HighSpot). determinant z q r s) e ∙ solved (high_expr R Q R S) (num 0) refl p q r s
two_equal_flat p q r s (equal_ps e) = ap (λ (z : HighSpot). determinant z q r s) e ∙ solved (high_expr S Q R S) (num 0) refl p q r s
two_equal_flat p q r s (equal_qr e) = ap (λ (z : HighSpot). determinant p z r s) e ∙ solved (high_expr P R R S) (num 0) refl p q r s
two_equal_flat p q r s (equal_qs e) = ap (λ (z : HighSpot). determinant p z r s) e ∙ solved (high_expr P S R S) (num 0) refl p q r s
two_equal_flat p q r s (equal_rs e) = ap (λ (z : HighSpot). determinant p q z s) e ∙ solved (high_expr P Q S S) (num 0) refl p q r s

-- ---- a plane of one height

module _ (p q r s : HighSpot) (i : q.height ≡ p.height) (j : r.height ≡ p.height) where
  -- minus the three's own determinant times what the fourth is higher
  pub one_height : determinant p q r s ≡ neg_ℤ (plane.determinant (shadow p) (shadow q) (shadow r) *ℤ (s.height -ℤ p.height))
  one_height =
      ap₂ (λ (a b : ℤ). determinant p (record { x = q.x; y = q.y; height = a }) (record { x = r.x; y = r.y; height = b }) s) i j
      ∙ solved
      (high_expr P (record { x = Q.x; y = Q.y; height = P.height }) (record { x = R.x; y = R.y; height = P.height }) S)
      (opp (flat_expr P Q R :* (S.height :- P.height))) refl p q r s

  -- above a counter-clockwise three it is below 0, below them above 0, and within their plane 0
  pub one_height_sign : pos 0 <ᶻ plane.determinant (shadow p) (shadow q) (shadow r)
      → sgn (determinant p q r s) ≡ neg_ℤ (sgn (s.height -ℤ p.height))
  one_height_sign left =
      let base = plane.determinant (shadow p) (shadow q) (shadow r) in
      ap sgn one_height ∙ sgn_neg (base *ℤ (s.height -ℤ p.height)) ∙ ap neg_ℤ (sgn_scale base (s.height -ℤ p.height) left)

  -- all four of one height
  pub level_flat : s.height ≡ p.height → determinant p q r s ≡ pos 0
  level_flat k =
      let base = plane.determinant (shadow p) (shadow q) (shadow r) in
      one_height ∙ ap (λ (h : ℤ). neg_ℤ (base *ℤ (h -ℤ p.height))) k
      ∙ solve 2 (λ d h. (opp (d :* (h :- h)), num 0)) refl base p.height
