mod Forms
mod Sameness
mod Nodes
mod Ways
mod Found
mod Subtyping
mod Methods
mod Cycles
mod Conversions
pub mod LawsToCite
