mod Equations
mod Whole
mod Premises
pub mod LawsToCite
