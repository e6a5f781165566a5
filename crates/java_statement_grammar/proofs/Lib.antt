pub mod Whole
pub mod Begins
pub mod Declared
pub mod Simple
pub mod Loops
pub mod Labels
pub mod Theorem
pub mod LawsToCite
