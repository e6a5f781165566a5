pub mod Faults
pub mod Above
pub mod Expressions
pub mod Statements
pub mod Classes
pub mod Unset
