use Rattle.std.proofs.Common.{◌≡◌, ◌++◌, drop, map}
use Rattle.std.specs.List.{filter}
use Rattle.java_lib.specs.Members.{member_of}
use Rattle.java_member_tables.specs.Library.{is_field, member}
use Rattle.java_member_tables.proofs.library.push_fields.Given as goal

abbrev pub invariant-loop-row : goal.invariant-loop-row
invariant-loop-row l =
    l.out ++ map member (filter (λ row. is_field row.form) (map member_of (drop l.row-index l.rows))) ≡ l.fn.out ++ map member (filter (λ row. is_field row.form) (map member_of l.rows))
