pub mod Rules
pub mod Spelled
pub mod Basic
