-- What other crates cite of this one's proofs.
pub use Rattle.kotlin_spelling.proofs.Once.{one_file, one_fault, no_fault}
