-- What other crates cite of this one's proofs.
pub use Rattle.java_tables.proofs.Images.{declared-append}
