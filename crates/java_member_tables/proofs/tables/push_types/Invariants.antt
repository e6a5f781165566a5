use Rattle.std.proofs.Common.{◌≡◌, drop}
use Rattle.java_member_tables.specs.Tables.{with_types}
use Rattle.java_member_tables.proofs.tables.push_types.Given as goal

abbrev pub invariant-loop-x : goal.invariant-loop-x
invariant-loop-x l = with_types l.headings l.home l.table (drop l.x-index l.xs) ≡ with_types l.headings l.home l.fn.table l.xs
