pub mod Assignments
pub mod Locals
pub mod Guards
pub mod Classes
