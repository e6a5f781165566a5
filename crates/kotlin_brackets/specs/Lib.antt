pub mod Brackets
pub mod Steps
