-- What other crates cite of this one's proofs.
pub use Rattle.java_facts.proofs.Pairs.{overridden_is_none, pair_only_so, pair_so}
