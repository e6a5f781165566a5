pub mod Expressions
pub mod Judged
pub mod Names
pub mod Places
pub mod Statements
pub mod Units
