pub mod Bounds
pub mod Heads
