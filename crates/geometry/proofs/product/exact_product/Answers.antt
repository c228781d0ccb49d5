-- `product::exact_product` meets its contract: with the roundoff it is what Laws.Product promises. Assumes nothing.
use mathlib.Core.Path.{refl}
use Rattle.geometry.proofs.Laws.Product.{product_promised}
use Rattle.geometry.proofs.product.exact_product.Goals as goal

pub roundoff-requires : goal.roundoff-requires
roundoff-requires c =
    (c.requires, refl)

pub returns : goal.returns
returns c =
    product_promised c.requires c.roundoff.ensures
