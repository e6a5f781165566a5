pub mod Signatures
pub mod Same
pub mod Numbers
