pub mod Operators
pub mod Typing
pub mod Above
