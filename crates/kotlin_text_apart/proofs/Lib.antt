mod Expressions
mod Files
mod Induction
pub mod LawsToCite
mod Members
mod Parts
mod Statements
