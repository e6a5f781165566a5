use Rattle.std.proofs.Common.{◌≡◌, drop}
use Rattle.java_head_names.specs.Heads.{last_at}
use Rattle.java_head_names.proofs.types.last_at.Given as goal

abbrev pub invariant-loop-x : goal.invariant-loop-x
invariant-loop-x l = last_at l.last (drop l.x-index l.xs) ≡ last_at l.fn.at l.xs
