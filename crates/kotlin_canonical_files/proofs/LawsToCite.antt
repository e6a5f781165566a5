-- What other crates may cite.
pub use Rattle.kotlin_canonical_files.proofs.Sides.{token_sides}
pub use Rattle.kotlin_canonical_files.proofs.Paired.{Spot}
pub use Rattle.kotlin_canonical_files.proofs.Cuts.{Ends, piece_ends, class_ends, class_is_some, class_cut}
