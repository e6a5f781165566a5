use Rattle.j2k_tool.proofs.Once.{asks_once}
use Rattle.j2k_tool.proofs.laws.one_answer.Goals as goal

pub returns : goal.returns
returns c = asks_once
