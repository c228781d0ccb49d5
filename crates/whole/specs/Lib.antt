-- What a reader must believe of whole numbers, the ℤ of `lib.IntN`. In order: which is less, which sign one has.
pub mod Order
pub mod Sign
