mod Actions
pub mod LawsToCite
mod Letters
mod Lifted
mod Parts
mod Told
mod Trees
