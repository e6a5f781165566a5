pub mod Lists
pub mod Nesting
pub mod Scans
pub mod Judged
pub mod Promises
pub mod LawsToCite
