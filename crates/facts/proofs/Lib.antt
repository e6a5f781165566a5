pub mod Bools
pub mod LaidItems
pub mod LaidClasses
pub mod Runs
pub mod LawsToCite
