pub mod Types
pub mod Supertypes
pub mod Below
pub mod LibraryClasses
