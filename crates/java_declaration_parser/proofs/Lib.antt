pub mod Rules
pub mod LawsToCite
