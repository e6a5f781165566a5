pub mod LawsToCite
mod First
mod Whole
mod Rows
