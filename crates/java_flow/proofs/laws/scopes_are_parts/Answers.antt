use Rattle.java_flow.proofs.Pieces.{rest_is}
use Rattle.java_flow.proofs.laws.scopes_are_parts.Goals as goal

pub returns : goal.returns
returns c = record { parts = rest_is }
