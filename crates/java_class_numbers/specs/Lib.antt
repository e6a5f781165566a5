pub mod Declarations
pub mod Numbers
