use Rattle.j2k_tool.proofs.Once.{fault_once}
use Rattle.j2k_tool.proofs.laws.one_fault.Goals as goal

pub returns : goal.returns
returns c = fault_once
