pub mod Arrays
pub mod LawsToCite
