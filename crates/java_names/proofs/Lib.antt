pub mod LawsToCite
mod Once
