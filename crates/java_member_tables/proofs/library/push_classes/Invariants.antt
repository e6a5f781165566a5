use Rattle.std.proofs.Common.{◌≡◌, ◌++◌, drop, map}
use Rattle.java_member_tables.specs.Library.{classes_named}
use Rattle.java_member_tables.proofs.library.push_classes.Given as goal

abbrev pub invariant-loop-name : goal.invariant-loop-name
invariant-loop-name l =
    l.out ++ classes_named l.count (map (λ name. name.now) (drop l.name-index l.names)) ≡ l.fn.out ++ classes_named l.count (map (λ name. name.now) l.names)
