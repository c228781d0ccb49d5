-- The exact product at its ends: two doubles, the rounded product and its roundoff, each by its bit pattern. The values were worked out in
-- fractions, outside.
use Rattle.std.specs.Prelude.{ℕ, Bool, true, ◌&&◌, List, [], ◌∷◌, eqb}
use Rattle.std.specs.Float.{binary64}
use Rattle.std.specs.Float.Ieee.{of_bits, to_bits, mul}
use Rattle.geometry.specs.Product.{roundoff_of}

pub data Exact : Type 0 where
  exact : ℕ → ℕ → ℕ → ℕ → Exact

-- Side 10: bit for bit, the rounded product and the roundoff
unfoldable pub right : Exact → Bool
unfolding roundoff_of
right (exact x y rounded roundoff) =
    eqb (to_bits binary64 (mul binary64 (of_bits binary64 x) (of_bits binary64 y))) rounded
    && eqb (to_bits binary64 (roundoff_of (of_bits binary64 x) (of_bits binary64 y))) roundoff

unfoldable pub all_exact : List Exact → Bool
unfolding right
all_exact [] = true
all_exact (c ∷ cs) = right c && all_exact cs

unfoldable pub ends : List Exact
ends =
    -- powers of two, whose significands are 2^52
    exact 0x26F0000000000000 0x58F0000000000000 0x3FF0000000000000 0x0000000000000000
    -- significands 2^53 - 1
    ∷ exact 0x433FFFFFFFFFFFFF 0x433FFFFFFFFFFFFF 0x468FFFFFFFFFFFFE 0x3FF0000000000000
    -- 2^53 - 1 and 2^52
    ∷ exact 0x433FFFFFFFFFFFFF 0x4330000000000000 0x467FFFFFFFFFFFFF 0x0000000000000000
    -- a tie, rounded up to the even digit
    ∷ exact 0x3FF0000000000001 0x3FF8000000000000 0x3FF8000000000002 0xBCA0000000000000
    -- the same with a negative product
    ∷ exact 0xBFF0000000000001 0x3FF8000000000000 0xBFF8000000000002 0x3CA0000000000000
    -- a tie, rounded down to the even digit
    ∷ exact 0x3FF0000000000002 0x3FF4000000000000 0x3FF4000000000002 0x3CA0000000000000
    -- the same with a negative product
    ∷ exact 0x3FF0000000000002 0xBFF4000000000000 0xBFF4000000000002 0xBCA0000000000000
    -- left over: 1.1 and 1.1
    ∷ exact 0x3FF199999999999A 0x3FF199999999999A 0x3FF35C28F5C28F5D 0x3C647AE147AE1480
    -- taken too much: 0.1 and 0.1
    ∷ exact 0x3FB999999999999A 0x3FB999999999999A 0x3F847AE147AE147C 0xBC2EB851EB851EB8
    -- just below 2^105, rounded up to it
    ∷ exact 0x433519CD10645D51 0x433843B64222B66B 0x4680000000000000 0xC2FD5A984F369250
    -- nothing is lacking, of either sign
    ∷ exact 0x419FFFFFFC000000 0x3FF0000000000000 0x419FFFFFFC000000 0x0000000000000000
    ∷ exact 0xBFF0000000000000 0x419FFFFFFC000000 0xC19FFFFFFC000000 0x0000000000000000
    -- one unit, and the greatest below 2^990: all digits are kept
    ∷ exact 0x0000000000000001 0x7DCFFFFFFFFFFFFF 0x3AAFFFFFFFFFFFFF 0x0000000000000000
    -- +0 times 1
    ∷ exact 0x0000000000000000 0x3FF0000000000000 0x0000000000000000 0x0000000000000000
    -- -0 times 1
    ∷ exact 0x8000000000000000 0x3FF0000000000000 0x8000000000000000 0x0000000000000000
    -- -0 times -1
    ∷ exact 0x8000000000000000 0xBFF0000000000000 0x0000000000000000 0x0000000000000000
    -- the greatest below 2^990 times -0
    ∷ exact 0x7DCFFFFFFFFFFFFF 0x8000000000000000 0x8000000000000000 0x0000000000000000
    -- a roundoff of one unit
    ∷ exact 0x21AFFFFFFFFFFFFF 0x21AFFFFFFFFFFFFF 0x036FFFFFFFFFFFFE 0x0000000000000001
    -- the same, negative
    ∷ exact 0xA1AFFFFFFFFFFFFF 0x21AFFFFFFFFFFFFF 0x836FFFFFFFFFFFFE 0x8000000000000001
    -- a product of one unit
    ∷ exact 0x1E60000000000000 0x1E60000000000000 0x0000000000000001 0x0000000000000000
    -- the first roundoff of a plane at its least, and a height
    ∷ exact 0x13F0000000000000 0x2D3FFFFFFFFFFFFF 0x013FFFFFFFFFFFFF 0x0000000000000000
    -- one of 52 digits, and a height
    ∷ exact 0x172FFFFFFFFFFFFE 0xAD3FFFFFFFFFFFFF 0x847FFFFFFFFFFFFD 0x8000000000040000
    -- three units, and the greatest below 2^990
    ∷ exact 0x0000000000000003 0x7DCFFFFFFFFFFFFF 0x3AC7FFFFFFFFFFFF 0x3760000000000000
    -- the greatest below 2^990, and the greatest below 2^33
    ∷ exact 0x7DCFFFFFFFFFFFFF 0x41FFFFFFFFFFFFFF 0x7FDFFFFFFFFFFFFE 0x7940000000000000
    -- at the ends of the reach 400, with the most digits
    ∷ exact 0xA6FFFFFFFFFFFFFF 0x26FFFFFFFFFFFFFF 0x8E0FFFFFFFFFFFFE 0x8770000000000000
    ∷ exact 0x58EFFFFFFFFFFFFF 0x58EFFFFFFFFFFFFF 0x71EFFFFFFFFFFFFE 0x6B50000000000000
    ∷ []
