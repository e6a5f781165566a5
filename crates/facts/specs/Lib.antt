pub mod Uses
pub mod Items
pub mod Layout
pub mod Classes
pub mod Runs
