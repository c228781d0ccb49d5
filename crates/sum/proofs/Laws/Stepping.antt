-- What the code of a step needs, and that it writes the rule's step. In order: the list's entries are finite doubles; the two slots are
-- inside it; the two extremes are opposed, by which is larger; the three ways to write. Assumes nothing.
use mathlib.Core.Path.{◌≡◌, refl, sym, ap, ◌∙◌, subst}
use mathlib.Core.Bool.{true, false}
use mathlib.Core.List.{List}
use Prim.Native.Nat.{ℕ, ◌<◌}
use native.Mathlib.Nat.{zero-add}
use lib.Dec.{T}
use lib.ListN.{length-set, length, set}
use lib.Ieee.{Float, nan, binary64, lt, neg, add, sub}
use Rattle.double.proofs.Laws.Step as Exact
use Rattle.double.specs.Worth.{plus0}
use Rattle.sum.specs.Look.{extreme_of, index_of}
use Rattle.sum.specs.Step.{rounded, roundoff, step_of}
use Rattle.sum.specs.Parts.{Opposed, ExactSum}
use Rattle.sum.specs.Tally.{Stepping}
use Rattle.sum.specs.declared.look.Tally.{Tally}
use Rattle.sum.proofs.Laws.Entries.{AllReal, all_of, real_of}
use Rattle.sum.proofs.Laws.Extremes.{extreme}
use Rattle.sum.proofs.Laws.Verdict.{Open, undecided_open}
use Rattle.sum.proofs.Laws.Step.{Facing, facing, facing_down, facing_up, rounded_turn, roundoff_turn}

-- ---- the sum of two opposed doubles
module _ (a b : Float) (a_fits : T (lib.Ieee.fits binary64 a)) (b_fits : T (lib.Ieee.fits binary64 b)) (o : Opposed a b) where
  pub exact_sum : ExactSum a b (add binary64 a b) (sub binary64 b (sub binary64 (add binary64 a b) a))
  exact_sum =
      let s = Exact.step binary64 a b (record {
        a_real = record { fin = o.a_finite; fit = a_fits };
        b_real = record { fin = o.b_finite; fit = b_fits };
        unlike = o.unlike;
        nonzero = o.nonzero;
        larger = o.larger;
      }) in
      record { x_is = refl; exact = Exact.step_worth s; y_is = Exact.step_roundoff s }

-- ---- the list of a step
module _ (xs : List Float) (t : Tally) (s : Stepping xs t) where
  real : AllReal xs
  real = real_of xs s.finite (all_of (λ x. T (lib.Ieee.fits binary64 x)) xs nan (λ i h. s.doubles i))

  both : Open xs
  both = undecided_open xs s.undecided

  faces : Facing (extreme_of false xs) (extreme_of true xs)
  faces = facing xs real both.positives both.negatives

  at_is : t.at ≡ index_of false xs
  at_is = ap (λ (t : Tally). t.at) s.tally ∙ zero-add (index_of false xs)

  bt_is : t.bt ≡ index_of true xs
  bt_is = ap (λ (t : Tally). t.bt) s.tally ∙ zero-add (index_of true xs)

  a_is : t.a ≡ extreme_of false xs
  a_is = ap (λ (t : Tally). t.a) s.tally

  b_is : t.b ≡ extreme_of true xs
  b_is = ap (λ (t : Tally). t.b) s.tally

  pub at_inside : t.at < length xs
  at_inside = subst (λ (i : ℕ). i < length xs) (sym at_is) ((extreme false xs real).inside both.positives)

  pub bt_inside : t.bt < length xs
  bt_inside = subst (λ (i : ℕ). i < length xs) (sym bt_is) ((extreme true xs real).inside both.negatives)

  -- also once the first is written
  pub bt_after : (i : ℕ) (v : Float) → t.bt < length (set xs i v)
  bt_after i v = simp length-set bt_inside

  -- the larger of the two, by the code's tests
  opposed : {a b : Float} → Exact.Opposed binary64 a b → Opposed a b
  opposed o = record {
    a_finite = o.a_real.fin;
    b_finite = o.b_real.fin;
    unlike = o.unlike;
    nonzero = o.nonzero;
    larger = o.larger;
  }

  pub opposed_down : lt (neg t.b) t.a ≡ true → Opposed t.a t.b
  opposed_down h = rw (a_is, b_is) (opposed (facing_down (extreme_of false xs) (extreme_of true xs) faces (rw (a_is, b_is) at h)))

  pub opposed_up : lt t.a (neg t.b) ≡ true → Opposed t.b t.a
  opposed_up h = rw (a_is, b_is) (opposed (facing_up (extreme_of false xs) (extreme_of true xs) faces (rw (a_is, b_is) at h)))

  -- the three ways to write
  pub writes_down : lt (neg t.b) t.a ≡ true → {x y : Float} → x ≡ rounded t.a t.b → y ≡ roundoff t.a t.b
      → set (set xs t.at x) t.bt y ≡ step_of xs
  unfolding step_of
  writes_down h e f = rw (e, f, at_is, bt_is, a_is, b_is, rw (a_is, b_is) at h)

  pub writes_up : lt (neg t.b) t.a ≡ false → lt t.a (neg t.b) ≡ true → {x y : Float} → x ≡ rounded t.b t.a
      → y ≡ roundoff t.b t.a → set (set xs t.at y) t.bt x ≡ step_of xs
  unfolding step_of
  writes_up h k e f =
      rw (e ∙ rounded_turn t.a t.b, f ∙ roundoff_turn t.a t.b, at_is, bt_is, a_is, b_is, rw (a_is, b_is) at h, rw (a_is, b_is) at k)

  pub writes_level : lt (neg t.b) t.a ≡ false → lt t.a (neg t.b) ≡ false
      → set (set xs t.at plus0) t.bt plus0 ≡ step_of xs
  unfolding step_of
  writes_level h k = rw (at_is, bt_is, rw (a_is, b_is) at h, rw (a_is, b_is) at k)
