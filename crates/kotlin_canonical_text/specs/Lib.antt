pub mod Canonical
pub mod Derived
pub mod Gaps
pub mod Heads
pub mod Members
pub mod Tokens
