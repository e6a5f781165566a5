use Rattle.std.proofs.Common.{◌≡◌, ◌++◌, drop}
use Rattle.java_declared_names.specs.Declared.{parameters_from, parameter_faults}
use Rattle.java_declared_names.proofs.parameters.parameter_faults.Given as goal

abbrev pub invariant-loop-x : goal.invariant-loop-x
invariant-loop-x l = l.out ++ parameters_from l.rows l.unit l.seen (drop l.x-index l.xs) ≡ l.fn.out ++ parameter_faults l.rows l.unit l.xs
