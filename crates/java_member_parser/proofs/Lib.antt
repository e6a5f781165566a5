pub mod Rules
pub mod Modified
pub mod Spelled
