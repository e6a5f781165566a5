pub mod LawsToCite
pub mod Firsts
pub mod Once
pub mod Reading
