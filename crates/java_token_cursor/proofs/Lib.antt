pub mod Braces
pub mod BodySteps
pub mod NothingLost
pub mod LawsToCite
