-- What other crates cite of this one's proofs.
pub use Rattle.java_fault_grammar.proofs.Balance.{none_left}
pub use Rattle.java_fault_grammar.proofs.Completeness.{empty_full, head_full, own_full, unread}
pub use Rattle.java_fault_grammar.proofs.Faults
pub use Rattle.java_fault_grammar.proofs.Files.{spelled_read}
pub use Rattle.java_fault_grammar.proofs.Runs.{run_parts}
pub use Rattle.java_fault_grammar.proofs.Soundness.{form_sound}
