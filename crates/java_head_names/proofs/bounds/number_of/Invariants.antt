use Rattle.std.proofs.Common.{◌≡◌, drop}
use Rattle.java_head_names.specs.Bounds.{number_from, number_of}
use Rattle.java_head_names.proofs.bounds.number_of.Given as goal

abbrev pub invariant-loop-number : goal.invariant-loop-number
invariant-loop-number l = number_from l.name l.number (drop l.number l.xs) ≡ number_of l.xs l.name
