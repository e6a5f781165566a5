pub mod Runs
pub mod Walk
pub mod Assembled
pub mod Forms
