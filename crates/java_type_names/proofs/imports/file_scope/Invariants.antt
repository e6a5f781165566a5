use Rattle.std.proofs.Common.{◌≡◌, ◌++◌, drop}
use Rattle.java_type_names.specs.Imports.{scope_from, faults_from, file_scope, file_faults}
use Rattle.java_type_names.proofs.imports.file_scope.Given as goal

abbrev pub invariant-loop-import_line : goal.invariant-loop-import_line
invariant-loop-import_line l = record {
  scope : scope_from l.world l.unit l.scope (drop l.import_line-index l.x.imports) ≡ file_scope l.world l.unit l.x;
  faults : l.out ++ faults_from l.world l.unit l.scope (drop l.import_line-index l.x.imports) ≡ l.fn.out ++ file_faults l.world l.unit l.x;
}
