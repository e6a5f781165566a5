pub mod Cuts
pub mod Comments
pub mod Lists
pub mod Strings
pub mod ExactValues
pub mod Scanned
pub mod LongestMarks
pub mod LawsToCite
