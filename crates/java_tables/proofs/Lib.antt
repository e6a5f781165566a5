pub mod LawsToCite
mod Images
