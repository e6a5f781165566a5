use Rattle.java_cycles.proofs.Depends.{cyclic_sound, cyclic_complete}
use Rattle.java_cycles.proofs.laws.cycles_are_found.Goals as goal

pub returns : goal.returns
returns c = λ edges a. (cyclic_sound edges a, cyclic_complete edges a)
