pub mod Strings
pub mod Cuts
pub mod LongestMarks
pub mod Scanned
pub mod ExactValues
pub mod LawsToCite
