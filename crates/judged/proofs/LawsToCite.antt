-- What other crates cite of this one's proofs.
pub use Rattle.judged.proofs.First.{has_first, one_first}
pub use Rattle.judged.proofs.Rows.{Told, told_more}
pub use Rattle.judged.proofs.Whole.{faults_in-append, whole_cons, whole_each, whole_pair, whole_then}
