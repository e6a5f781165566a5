use Rattle.std.proofs.Common.{◌≡◌, ◌++◌, drop}
use Rattle.java_class_names.specs.Names.{class_faults, faults_from}
use Rattle.java_class_names.proofs.names.class_faults.Given as goal

abbrev pub invariant-loop-class : goal.invariant-loop-class
invariant-loop-class l =
    l.out ++ faults_from l.world l.scopes l.headings l.table l.units l.class (drop l.class l.places) ≡ l.fn.out ++ class_faults l.world l.scopes l.headings l.table l.units l.places
