-- What an inner function finds: believed by no reader, since laws say that it is the rule.
use Rattle.std.specs.Prelude.{Bool, cond, Float}
use Rattle.std.specs.Float.{binary64}
use Rattle.std.specs.Float.Ieee.{le, eq, of_bits}
use Rattle.point.specs.Accepted.{magnitude_of}

-- the code's test, by comparisons: a zero, or of a magnitude from `least` to `greatest`
unfoldable pub within_of : Float → Float → Float → Bool
unfolding magnitude_of
within_of x least greatest =
    cond (le least (magnitude_of x)) (le (magnitude_of x) greatest) (eq (magnitude_of x) (of_bits binary64 0))
