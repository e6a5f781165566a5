use Rattle.std.proofs.Common.{◌≡◌, ◌++◌, drop}
use Rattle.java_declared_names.specs.Declared.{fields_from, after_fields}
use Rattle.java_declared_names.proofs.members.push_fields.Given as goal

abbrev pub invariant-loop-x : goal.invariant-loop-x
invariant-loop-x l = record {
  faults : l.out ++ fields_from l.rows l.unit l.seen (drop l.x-index l.xs) ≡ l.fn.out ++ fields_from l.rows l.unit l.fn.seen l.xs;
  seen : after_fields l.seen (drop l.x-index l.xs) ≡ after_fields l.fn.seen l.xs;
}
