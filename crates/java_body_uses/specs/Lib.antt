pub mod Bodies
pub mod Filling
