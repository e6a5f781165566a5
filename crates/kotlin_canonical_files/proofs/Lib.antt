mod Sides
mod Paired
mod Cuts
pub mod LawsToCite
