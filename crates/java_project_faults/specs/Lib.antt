pub mod Order
pub mod Project
pub mod Kept
