pub mod LibraryHeads
pub mod Rows
