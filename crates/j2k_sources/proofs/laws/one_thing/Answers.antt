use Rattle.j2k_sources.proofs.Once.{loaded_once}
use Rattle.j2k_sources.proofs.laws.one_thing.Goals as goal

pub returns : goal.returns
returns c = loaded_once
