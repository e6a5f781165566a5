pub mod Classes
pub mod LawsToCite
mod Nodes
mod Statements
