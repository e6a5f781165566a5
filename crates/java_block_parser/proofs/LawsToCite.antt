-- What other crates cite of this one's proofs.
pub use Rattle.java_block_parser.proofs.Many.{ended, longer, stopped, stuck}
