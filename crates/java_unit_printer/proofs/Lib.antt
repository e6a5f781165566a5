pub mod UnitTexts
pub mod Weighted
pub mod Stack
