use Rattle.j2k_sources.proofs.Listed.{sources_differ}
use Rattle.j2k_sources.proofs.laws.paths_differ.Goals as goal

pub returns : goal.returns
returns c = λ src files entries sources has. sources_differ src files sources has.java
