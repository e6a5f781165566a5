pub mod Forms
pub mod Weights
pub mod Work
