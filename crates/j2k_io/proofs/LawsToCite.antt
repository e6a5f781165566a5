-- What other crates cite of this one's proofs.
pub use Rattle.j2k_io.proofs.Listings.{apart, below_is, listed_is_held, unlisted_is_absent}
