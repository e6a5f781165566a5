pub mod Soundness
pub mod Completeness
pub mod Bound
pub mod Peeks
pub mod LawsToCite
