pub mod Lexable
