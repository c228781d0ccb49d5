-- The exact product is right at its ends: computed by the definition that its contract cites. Assumes nothing.
use lib.Dec.{T}
use lib.Ieee.{of_bits, to_bits, mul}
use Rattle.cases.specs.Products.{all_exact, ends}

pub ends_exact : T (all_exact ends)
unfolding all_exact ends of_bits to_bits mul
ends_exact = tt
