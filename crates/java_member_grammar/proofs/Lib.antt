pub mod Modified
pub mod Clauses
pub mod Members
pub mod Types
pub mod Enums
pub mod Files
pub mod Theorem
pub mod LawsToCite
