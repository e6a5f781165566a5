pub mod Forms
pub mod LawsToCite
pub mod Laying
