use Rattle.std.proofs.Common.{◌≡◌, ◌++◌, drop}
use Rattle.java_names.specs.Binding.{import_faults, scopes_from}
use Rattle.java_names.proofs.facts.scopes.Given as goal

abbrev pub invariant-loop-number : goal.invariant-loop-number
invariant-loop-number l = record {
  scopes : l.scopes ++ scopes_from l.world l.number (drop l.number l.units) ≡ scopes_from l.world 0 l.units;
  faults : l.out ++ import_faults l.world l.number (drop l.number l.units) ≡ l.fn.out ++ import_faults l.world 0 l.units;
}
