pub mod Heads
pub mod Modifiers
pub mod Reading
