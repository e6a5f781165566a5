pub mod Facts
pub mod Finding
pub mod Naming
