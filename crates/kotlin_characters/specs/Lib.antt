pub mod Letters
pub mod Scans
