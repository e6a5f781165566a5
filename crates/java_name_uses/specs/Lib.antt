pub mod Heads
pub mod Uses
