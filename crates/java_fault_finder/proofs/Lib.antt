pub mod Runs
pub mod Passing
pub mod Doing
pub mod Spelled
