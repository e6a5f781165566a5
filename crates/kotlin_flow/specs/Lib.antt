pub mod Variables
pub mod Expressions
pub mod Statements
pub mod Texts
pub mod Faults
pub mod Members
pub mod Files
pub mod Promises
