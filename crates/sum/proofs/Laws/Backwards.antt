-- A pass over a list from its end: the entries that are left stand before those that are done. Assumes nothing.
use mathlib.Core.Path.{◌≡◌, sym, ap, ◌∙◌, subst}
use mathlib.Core.List.{List, [], ◌∷◌, ◌++◌}
use Prim.Native.Nat.{suc, ◌+◌, ◌≤◌}
use native.Mathlib.Omega.{arith}
use lib.Dec.{T}
use lib.ListN.{length}
use lib.Ieee.{Float, binary64, fits}
use lib.Ieee.Scale.{finite}
use Rattle.std.proofs.Common.{append_assoc, append-nil, length-append}
use Rattle.std.specs.List.{push}
use Rattle.double.specs.Worth.{AllDoubles}
use Rattle.double.proofs.Laws.Units.{Real}
use Rattle.sum.specs.Refused.{AllFinite}

module _ {X : Type 0} where
  pub none_done : {xs left : List X} → left ≡ xs → left ++ [] ≡ xs
  none_done {xs} {left} e = append-nil left ∙ e

  pub all_done : {xs : List X} (left done : List X) → left ++ done ≡ xs → length left ≡ 0 → done ≡ xs
  all_done [] done e z = e
  all_done (x ∷ left) done e z = let n : ⊥ = omega arith in absurd n

  -- the last of those left is done
  module _ {left : List X} (before : List X) (x : X) (e : left ≡ push before x) where
    pub one_done : {xs : List X} (done : List X) → left ++ done ≡ xs → before ++ (x ∷ done) ≡ xs
    one_done done h = sym (append_assoc before (x ∷ []) done) ∙ ap (λ (l : List X). l ++ done) (sym e) ∙ h

    pub one_left : length left ≡ length before + 1
    one_left = ap length e ∙ length-append before (x ∷ [])

    pub one_room : {xs : List X} (done : List X) → left ++ done ≡ xs → length done + 1 ≤ length xs
    one_room done h = omega (arith, one_left, length-append left done, ap length h)

-- ---- of doubles: the entry before those that are done
module _ {xs : List Float} (before done : List Float) (x : Float) (e : before ++ (x ∷ done) ≡ xs) where
  pub finite_left : AllFinite xs → T (finite x)
  finite_left a = go before (subst AllFinite (sym e) a)
    where
      go : (before : List Float) → AllFinite (before ++ (x ∷ done)) → T (finite x)
      go [] a = a.0
      go (y ∷ before) a = go before a.1

  pub real_left : AllFinite xs → AllDoubles xs → Real binary64 x
  real_left a d = record { fin = finite_left a; fit = go before (subst AllDoubles (sym e) d) }
    where
      go : (before : List Float) → AllDoubles (before ++ (x ∷ done)) → T (fits binary64 x)
      go [] d = d 0
      go (y ∷ before) d = go before (λ i. d (suc i))
