-- `roundoff::lacking` meets its contract: of numbers that are near each other the last words tell the difference. Assumes nothing.
use mathlib.Core.Path.{refl, ◌∙◌}
use Prim.Native.Nat.{ℕ, ◌-◌, ◌*◌, ◌^◌, ◌<◌}
use native.Mathlib.Omega.{arith}
use mir.Syntax.{w64}
use mir.ValLaws.{to_z-of_z}
use Rattle.double.proofs.Laws.Digits.{gap}
use Rattle.word64.proofs.Laws.Difference.{difference_of_last_words}
use Rattle.geometry.proofs.roundoff.lacking.Goals as goal

-- so a word holds the difference either way
near : (m n : ℕ) → gap m n < 2 ^ 53 → (n - m < 2 ^ 63) × (m - n < 2 ^ 63)
near m n h = (omega arith, omega arith)

pub returns : goal.returns
returns c =
    let d = c.signed_difference in
    let n = near (c.args.r * 2 ^ c.args.cut) (c.args.a * c.args.b) c.requires.1 in
    to_z-of_z w64 d.result (record { sfits = d.type_inv })
    ∙ difference_of_last_words (c.args.a * c.args.b) (c.args.r * 2 ^ c.args.cut) _ _ d.result
    c.last_of_product.ensures refl n.0 n.1 d.ensures
