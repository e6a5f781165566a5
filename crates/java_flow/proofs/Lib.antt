pub mod Targets
pub mod Runs
pub mod Forms
pub mod Pieces
pub mod Rows
