pub mod Tokens
pub mod Levels
pub mod Cutting
pub mod Standing
pub mod Reading
pub mod Restarts
