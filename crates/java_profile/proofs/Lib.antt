pub mod Forms
pub mod Unset
pub mod LawsToCite
