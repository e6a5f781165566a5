pub mod Spellings
pub mod UpToPlaces
