pub mod Heads
pub mod Firsts
pub mod Members
pub mod Cases
pub mod Tops
