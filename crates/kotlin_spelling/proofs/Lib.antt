mod Once
pub mod LawsToCite
