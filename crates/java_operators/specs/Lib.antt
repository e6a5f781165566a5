pub mod Ways
pub mod Steps
pub mod Choices
pub mod Trees
pub mod Laws
