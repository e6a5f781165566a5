pub mod Named
pub mod Declared
pub mod Members
pub mod Tables
pub mod Twice
