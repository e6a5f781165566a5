pub mod Meanings
pub mod Extents
