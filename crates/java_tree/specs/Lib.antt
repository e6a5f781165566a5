pub mod Seen
pub mod Spellings
pub mod Trees
