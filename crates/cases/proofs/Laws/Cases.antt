-- The starred cases are right: computed by the definitions that the public functions promise to answer by. Assumes nothing.
use lib.Dec.{T}
use lib.Ieee.{of_bits, to_bits, of_int, lt, le, neg, add, sub, mul}
use Rattle.cases.specs.Cases.{all_right, starred}

pub starred_right : T (all_right starred)
unfolding all_right starred of_bits to_bits of_int lt le neg add sub mul
starred_right = tt
