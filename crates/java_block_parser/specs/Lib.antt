pub mod Asks
pub mod Statements
pub mod Members
