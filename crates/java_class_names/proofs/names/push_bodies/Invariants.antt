use Rattle.std.proofs.Common.{◌≡◌, ◌++◌, drop}
use Rattle.java_class_names.specs.Names.{bodies_faults}
use Rattle.java_class_names.proofs.names.push_bodies.Given as goal

abbrev pub invariant-loop-x : goal.invariant-loop-x
invariant-loop-x l =
    l.out ++ bodies_faults l.class.world.now l.class.headings.now l.class.table.now l.class.unit l.class.class l.class.scope.now l.class.params.now l.place (drop l.x-index l.xs)
    ≡ l.fn.out ++ bodies_faults l.class.world.now l.class.headings.now l.class.table.now l.class.unit l.class.class l.class.scope.now l.class.params.now l.place l.xs
