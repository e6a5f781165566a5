pub mod Listed
pub mod Loads
pub mod Once
pub mod LawsToCite
