pub mod Classes
pub mod Scopes
pub mod Places
pub mod Imports
