pub mod Depends
pub mod Steps
