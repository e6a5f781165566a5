pub mod Levels
pub mod Lists
pub mod Turns
pub mod Parsed
