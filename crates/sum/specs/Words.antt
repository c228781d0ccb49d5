-- The sign of a plain sum's total: Plain 1 of docs/RULES.md. The words that hold the total are those of the crate `total`.
use Rattle.std.specs.Prelude.{ℕ, ◌-◌, ◌*◌, ◌^◌, ◌<◌, ◌≡◌, cond, List, leb, eqb}
use Rattle.total.specs.Words.{base, count, modulus, value_of}
use Rattle.sum.specs.declared.answer.Sign.{Sign}
use Rattle.sum.specs.declared.answer.Sign.TheVariants.{Minus, Zero, Plus}

-- half of where the words wrap. Shut, as `modulus` is
unfoldable pub half : ℕ
half = base ^ (count - 1) * 2 ^ 63

-- Plain 1: two's complement: from half the modulus on, where the top bit of the highest word is set, a total is below 0
unfoldable pub sign_held : ℕ → Sign
unfolding half
sign_held v = cond (leb half v) Minus (cond (eqb v 0) Zero Plus)

-- what the function that reads it promises
pub record SignSays (ws : List ℕ) (r : Sign) : Type 0 where
  pub below : value_of base ws < modulus
  pub sign_is : r ≡ sign_held (value_of base ws)
