-- The four words. In order: no two of them hold; what holds of two pieces holds of them exchanged, of either turned round, and with x and y exchanged.
-- Not here: that one of them always holds (`Decided`). Assumes nothing.
use mathlib.Core.Path.{◌≡◌, refl}
use mathlib.Core.Logic.{◌⊎◌, inl, inr, ⊎_elim, ⊎_swap}
use Rattle.ground.specs.Plane.{Spot}
use Rattle.ground.specs.Edge.{Edge, edge}
use Rattle.ground.specs.Listing.{turned_round}
use Rattle.pieces.specs.Place.{Place, Same, at}
use Rattle.pieces.specs.Meeting.{LiesOn, Shared, Only, IsEnd, Meeting, apart, touching, crossing, overlapping, Holds}
use Rattle.pieces.proofs.Laws.Places.{same_trans, same_sym, on_turned}

-- ---- no two hold
module _ (a b : Edge) where
  end_moves : (c : Edge) (r s : Place) → Same r s → IsEnd c s → IsEnd c r
  end_moves c r s e (inl h) = inl (same_trans r s (at c.from) e h)
  end_moves c r s e (inr h) = inr (same_trans r s (at c.to) e h)

  not_both : Holds touching a b → Holds crossing a b → ⊥
  not_both (s, one, end) (r, other, not_a, not_b) =
      let near : Same r s = one.only r other.shared in
      ⊎_elim (λ h. not_a (end_moves a r s near h)) (λ h. not_b (end_moves b r s near h)) end

  not_more : (s : Place) → Only a b s → Holds overlapping a b → ⊥
  not_more s one (p, q, shared_p, shared_q, differ) =
      differ (same_trans p s q (one.only p shared_p) (same_sym q s (one.only q shared_q)))

  pub one_word : (m n : Meeting) → Holds m a b → Holds n a b → m ≡ n
  one_word apart apart h k = refl
  one_word apart touching h (s, one, end) = absurd (h s one.shared)
  one_word apart crossing h (s, one, not_a, not_b) = absurd (h s one.shared)
  one_word apart overlapping h (r, s, shared_r, shared_s, differ) = absurd (h r shared_r)
  one_word touching apart (s, one, end) k = absurd (k s one.shared)
  one_word touching touching h k = refl
  one_word touching crossing h k = absurd (not_both h k)
  one_word touching overlapping (s, one, end) k = absurd (not_more s one k)
  one_word crossing apart (s, one, not_a, not_b) k = absurd (k s one.shared)
  one_word crossing touching h k = absurd (not_both k h)
  one_word crossing crossing h k = refl
  one_word crossing overlapping (s, one, not_a, not_b) k = absurd (not_more s one k)
  one_word overlapping apart (r, s, shared_r, shared_s, differ) k = absurd (k r shared_r)
  one_word overlapping touching h (s, one, end) = absurd (not_more s one h)
  one_word overlapping crossing h (s, one, not_a, not_b) = absurd (not_more s one h)
  one_word overlapping overlapping h k = refl

-- ---- the two pieces exchanged
shared_exchanged : (a b : Edge) (s : Place) → Shared a b s → Shared b a s
shared_exchanged a b s h = record { first = h.second; second = h.first }

only_exchanged : (a b : Edge) (s : Place) → Only a b s → Only b a s
only_exchanged a b s h = record { shared = shared_exchanged a b s h.shared; only = λ r k. h.only r (shared_exchanged b a r k) }

pub holds_exchanged : (m : Meeting) (a b : Edge) → Holds m a b → Holds m b a
unfolding ⊎_swap
holds_exchanged apart a b h = λ s k. h s (shared_exchanged b a s k)
holds_exchanged touching a b (s, one, end) = (s, only_exchanged a b s one, ⊎_swap end)
holds_exchanged crossing a b (s, one, not_a, not_b) = (s, only_exchanged a b s one, not_b, not_a)
holds_exchanged overlapping a b (r, s, h, k, differ) = (r, s, shared_exchanged a b r h, shared_exchanged a b s k, differ)

-- ---- other pieces with the same places and the same ends; f and g say which place is which
module _ (a b c d : Edge) (f g : Place → Place) where
  record Alike : Type 0 where
    there : (s : Place) → Shared a b s → Shared c d (f s)
    back : (s : Place) → Shared c d s → Shared a b (g s)
    same : (r s : Place) → Same (g r) s → Same r (f s)
    differ : (r s : Place) → Same (f r) (f s) → Same r s
    ends : (s : Place) → IsEnd a s ⊎ IsEnd b s → IsEnd c (f s) ⊎ IsEnd d (f s)
    first : (s : Place) → IsEnd c (f s) → IsEnd a s
    second : (s : Place) → IsEnd d (f s) → IsEnd b s

  holds_alike : Alike → (m : Meeting) → Holds m a b → Holds m c d
  holds_alike e apart h = λ s k. h (g s) (e.back s k)
  holds_alike e touching (s, one, end) = (
    f s,
    record { shared = e.there s one.shared; only = λ r k. e.same r s (one.only (g r) (e.back r k)) },
    e.ends s end,
  )
  holds_alike e crossing (s, one, not_a, not_b) = (
    f s,
    record { shared = e.there s one.shared; only = λ r k. e.same r s (one.only (g r) (e.back r k)) },
    λ h. not_a (e.first s h),
    λ h. not_b (e.second s h),
  )
  holds_alike e overlapping (r, s, h, k, differ) = (f r, f s, e.there r h, e.there s k, λ z. differ (e.differ r s z))

-- ---- a piece turned round
end_turned : (a : Edge) (s : Place) → IsEnd a s → IsEnd (turned_round a) s
end_turned a s (inl h) = inr h
end_turned a s (inr h) = inl h

pub holds_turned : (m : Meeting) (a b : Edge) → Holds m a b → Holds m (turned_round a) b
holds_turned m a b = holds_alike a b (turned_round a) b (λ s. s) (λ s. s) (record {
  there = λ s h. record { first = on_turned a s h.first; second = h.second };
  back = λ s h. record { first = on_turned (turned_round a) s h.first; second = h.second };
  same = λ r s h. h;
  differ = λ r s h. h;
  ends = λ s. ⊎_elim (λ h. inl (end_turned a s h)) (λ h. inr h);
  first = λ s h. end_turned (turned_round a) s h;
  second = λ s h. h;
}) m

-- so the second one too
pub holds_second_turned : (m : Meeting) (a b : Edge) → Holds m a b → Holds m a (turned_round b)
holds_second_turned m a b h =
    holds_exchanged m (turned_round b) a (holds_turned m b a (holds_exchanged m a b h))

-- ---- x and y exchanged
abbrev pub flipped : Spot → Spot
flipped p = record { x = p.y; y = p.x }

abbrev pub flipped_edge : Edge → Edge
flipped_edge a = edge (flipped a.from) (flipped a.to)

abbrev pub flipped_place : Place → Place
flipped_place s = record { x = s.y; y = s.x }

pub on_flipped : (a : Edge) (s : Place) → LiesOn a s → LiesOn (flipped_edge a) (flipped_place s)
on_flipped a s o = record { t = o.t; least = o.least; most = o.most; x = o.y; y = o.x }

same_flipped : (r s : Place) → Same r s → Same (flipped_place r) (flipped_place s)
same_flipped r s h = record { x = h.y; y = h.x }

end_flipped : (a : Edge) (s : Place) → IsEnd a s → IsEnd (flipped_edge a) (flipped_place s)
end_flipped a s (inl h) = inl (same_flipped s (at a.from) h)
end_flipped a s (inr h) = inr (same_flipped s (at a.to) h)

pub holds_flipped : (m : Meeting) (a b : Edge) → Holds m a b → Holds m (flipped_edge a) (flipped_edge b)
holds_flipped m a b = holds_alike a b (flipped_edge a) (flipped_edge b) (λ s. flipped_place s) (λ s. flipped_place s) (record {
  there = λ s h. record { first = on_flipped a s h.first; second = on_flipped b s h.second };
  back = λ s h. record { first = on_flipped (flipped_edge a) s h.first; second = on_flipped (flipped_edge b) s h.second };
  same = λ r s h. same_flipped (flipped_place r) s h;
  differ = λ r s h. same_flipped (flipped_place r) (flipped_place s) h;
  ends = λ s. ⊎_elim (λ h. inl (end_flipped a s h)) (λ h. inr (end_flipped b s h));
  first = λ s h. end_flipped (flipped_edge a) (flipped_place s) h;
  second = λ s h. end_flipped (flipped_edge b) (flipped_place s) h;
}) m
