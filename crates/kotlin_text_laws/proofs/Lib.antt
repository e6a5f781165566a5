pub mod Unique
pub mod Twice
pub mod Parts
pub mod Forms
pub mod Text
pub mod Files
pub mod Beside
pub mod Parentheses
