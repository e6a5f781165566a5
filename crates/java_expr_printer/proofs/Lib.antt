pub mod Expanded
pub mod SpellParts
pub mod Joins
pub mod LawsToCite
