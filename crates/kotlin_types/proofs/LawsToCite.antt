pub use Rattle.kotlin_types.proofs.Forms.{out_type}
