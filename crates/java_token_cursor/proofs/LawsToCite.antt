-- What other crates cite of this one's proofs.
pub use Rattle.java_token_cursor.proofs.BodySteps.{piece_shorter, pieces_more, pieces_none, shown_more, shown_none}
