pub mod Tokens
pub mod Insides
pub mod Steps
