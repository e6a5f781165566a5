-- What other crates cite of this one's proofs.
pub use Rattle.j2k_settings.proofs.Arrays.{sets_once}
