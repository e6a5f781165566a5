pub mod Judging
pub mod LawsToCite
