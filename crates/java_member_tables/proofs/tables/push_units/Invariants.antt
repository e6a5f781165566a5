use Rattle.std.proofs.Common.{◌≡◌, drop}
use Rattle.java_member_tables.specs.Tables.{with_units}
use Rattle.java_member_tables.proofs.tables.push_units.Given as goal

abbrev pub invariant-loop-x : goal.invariant-loop-x
invariant-loop-x l = with_units l.headings l.table (drop l.x-index l.units) ≡ with_units l.headings l.fn.table l.units
