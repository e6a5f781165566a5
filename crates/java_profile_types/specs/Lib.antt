pub mod Written
pub mod Calls
pub mod Arrays
pub mod Places
pub mod Classes
