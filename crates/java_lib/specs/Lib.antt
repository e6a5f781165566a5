pub mod Classes
pub mod Library
pub mod Members
