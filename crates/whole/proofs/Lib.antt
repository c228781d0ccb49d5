-- Laws of what specs/ defines, and two ways to prove a law of whole numbers in one line.
pub mod Laws
