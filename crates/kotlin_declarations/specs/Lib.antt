pub mod Inherited
pub mod Overrides
pub mod Accessors
pub mod Heads
pub mod Members
pub mod Classes
