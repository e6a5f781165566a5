use Rattle.java_members.proofs.Ways.{sound, complete}
use Rattle.java_members.proofs.laws.members_are_found.Goals as goal

pub returns-clause-sound : goal.returns-clause-sound
returns-clause-sound c = sound

pub returns-clause-complete : goal.returns-clause-complete
returns-clause-complete c = complete
