pub mod Notes
pub mod Judged
