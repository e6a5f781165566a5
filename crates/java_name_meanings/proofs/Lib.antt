mod Outcomes
mod Effects
mod Extents
