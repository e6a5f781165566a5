use Rattle.std.proofs.Common.{◌≡◌, length}
use Rattle.j2k_tool.specs.Words.{steps}
use Rattle.j2k_tool.proofs.words.next_step.Given as goal

abbrev pub invariant-loop-rest : goal.invariant-loop-rest
invariant-loop-rest l = steps l.rest ≡ steps l.fn.path

abbrev pub decreases-loop-rest : goal.decreases-loop-rest
decreases-loop-rest l = length l.rest
