-- What other crates cite of this one's proofs.
pub use Rattle.kotlin_brackets.proofs.Nesting.{Has, Turn, has_opens, nested, pairs_opens, pairs_within, turn, unpaired}
pub use Rattle.kotlin_brackets.proofs.Promises.{one_first}
pub use Rattle.kotlin_brackets.proofs.Judged.{all_paired}
pub use Rattle.kotlin_brackets.proofs.Scans.{first_more}
