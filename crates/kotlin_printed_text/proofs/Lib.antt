pub mod LawsToCite
mod Files
mod Splits
