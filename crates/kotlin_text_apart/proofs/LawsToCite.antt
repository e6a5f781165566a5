-- What other crates may cite.
pub use Rattle.kotlin_text_apart.proofs.Files.{file_apart}
