pub mod Sizes
pub mod Steps
pub mod Texts
pub mod Parts
pub mod Fits
pub mod Cases
