-- What other crates may cite.
pub use Rattle.kotlin_placeless.proofs.Lifted.{file_lifted}
