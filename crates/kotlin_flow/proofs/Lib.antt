pub mod Targets
pub mod Forms
pub mod Runs
pub mod Noted
pub mod Rows
pub mod ClassRows
