pub mod Trees
pub mod Basic
pub mod Jumps
