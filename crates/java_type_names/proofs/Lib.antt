pub mod Only
mod Firsts
