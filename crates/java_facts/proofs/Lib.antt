pub mod Forms
pub mod Runs
pub mod Pairs
pub mod LawsToCite
