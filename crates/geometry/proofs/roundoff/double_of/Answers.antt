-- `roundoff::double_of` meets its contract: it is the product of double's `Made`. Assumes nothing.
use mathlib.Core.Path.{sym, ap, ◌∙◌, subst}
use Prim.Native.Nat.{◌-◌, ◌*◌, ◌^◌, ◌≤◌}
use native.Mathlib.Omega.{arith}
use lib.Dec.{T, le→leb, lt→ltb}
use lib.IntN.{ℤ, pos, negsuc, nat_abs}
use lib.Ieee.{binary64, in_float, of_int, of_bits, mul}
use mir.Syntax.{w64}
use mir.ValLaws.{to_z-of_z}
use Rattle.double.proofs.Laws.Pattern.{number_pattern}
use Rattle.double.proofs.Laws.Made.{units_made}
use Rattle.geometry.proofs.roundoff.double_of.Goals as goal

-- doubles hold every number up to 2 ^ 53 either way
held : (n : ℤ) → nat_abs n ≤ 2 ^ 53 → T (in_float binary64 n)
unfolding in_float
held (pos n) h = le→leb n (2 ^ 53) h
held (negsuc n) h = lt→ltb n (2 ^ 53) h

pub int_to_float-result : goal.int_to_float-result
int_to_float-result c =
    subst (λ (z : ℤ). T (in_float binary64 z)) (sym (to_z-of_z w64 c.args.n c.ranges.n))
    (held c.args.n c.requires.0)

pub overflow_sub-result : goal.overflow_sub-result
overflow_sub-result c =
    omega (arith, c.requires.3)

pub overflow_mul-result : goal.overflow_mul-result
overflow_mul-result c =
    omega (arith, c.requires.3)

pub float_from_bits-result : goal.float_from_bits-result
float_from_bits-result c =
    number_pattern _ (omega (arith, c.requires.3))

pub overflow_mul-result-2 : goal.overflow_mul-result-2
overflow_mul-result-2 c =
    omega (arith, c.requires.2)

pub float_from_bits-result-2 : goal.float_from_bits-result-2
float_from_bits-result-2 c =
    number_pattern _ (omega (arith, c.requires.2))

pub returns : goal.returns
returns c z e =
    ap (λ (n : ℤ). mul binary64 (mul binary64 (of_int binary64 n) (of_bits binary64 ((972 - c.args.cut) * 2 ^ 52)))
    (of_bits binary64 (c.args.exponent * 2 ^ 52)))
    (to_z-of_z w64 c.args.n c.ranges.n)
    ∙ units_made c.args.n z c.args.exponent c.args.cut (held c.args.n c.requires.0) c.requires.1 c.requires.2 c.requires.3 e
