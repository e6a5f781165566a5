mod Forms
mod Sameness
mod Nulls
mod Climbing
mod Order
pub mod LawsToCite
