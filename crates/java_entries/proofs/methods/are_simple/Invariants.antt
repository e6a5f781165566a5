use Rattle.std.proofs.Common.{◌≡◌, drop}
use Rattle.std.specs.List.{list_all}
use Rattle.java_entries.specs.Entries.{is_simple}
use Rattle.java_entries.proofs.methods.are_simple.Given as goal

abbrev pub invariant-loop-x : goal.invariant-loop-x
invariant-loop-x l = list_all (is_simple l.world l.scope l.params) (drop l.x-index l.xs) ≡ list_all (is_simple l.world l.scope l.params) l.xs
