pub mod Members
pub mod Library
pub mod Tables
