pub mod Classes
pub mod Faults
pub mod Numbers
pub mod Tables
