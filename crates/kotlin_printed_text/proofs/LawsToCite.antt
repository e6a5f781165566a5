-- What other crates may cite.
pub use Rattle.kotlin_printed_text.proofs.Files.{file_spelled}
