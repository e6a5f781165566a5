pub mod Escapes
pub mod Steps
pub mod Runs
pub mod Utf8
pub mod LawsToCite
