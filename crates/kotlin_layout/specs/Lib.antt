pub mod Layout
pub mod Names
pub mod Parens
pub mod Roles
pub mod Shown
pub mod Text
