pub mod Ends
pub mod Effects
pub mod Targets
