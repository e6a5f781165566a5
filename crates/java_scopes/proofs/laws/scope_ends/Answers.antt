use Rattle.java_scopes.proofs.Ends.{same_locals, same_frames}
use Rattle.java_scopes.proofs.laws.scope_ends.Goals as goal

pub returns-clause-locals : goal.returns-clause-locals
returns-clause-locals c = same_locals

pub returns-clause-frames : goal.returns-clause-frames
returns-clause-frames c = same_frames
