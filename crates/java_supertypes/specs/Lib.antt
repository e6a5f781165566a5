pub mod Supertypes
pub mod Edges
