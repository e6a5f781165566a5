use Rattle.std.proofs.Common.{◌≡◌, take}
use Rattle.j2k_tool.proofs.conversion.names_of.Given as goal

abbrev pub invariant-loop-name : goal.invariant-loop-name
invariant-loop-name l = l.made ≡ take l.name-index l.names
