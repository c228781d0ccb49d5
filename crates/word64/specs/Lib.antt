-- What a reader must believe of words of 64 binary digits.
pub mod Word
