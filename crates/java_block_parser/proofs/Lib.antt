pub mod Many
pub mod Sizes
pub mod Steps
pub mod LawsToCite
