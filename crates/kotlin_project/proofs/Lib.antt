mod Named
mod Found
mod Apart
pub mod LawsToCite
