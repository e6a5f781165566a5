pub mod FirstAndFollowing
pub mod Lists
pub mod Decided
pub mod Taken
pub mod Decides
pub mod Pieces
pub mod Spelled
pub mod LawsToCite
