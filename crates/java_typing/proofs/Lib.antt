pub mod LawsToCite
mod Told
