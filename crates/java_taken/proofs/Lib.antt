mod First
mod Forms
mod Heads
mod Loops
mod Scopes
pub mod Taken
mod Typing
mod Variants
pub mod LawsToCite
