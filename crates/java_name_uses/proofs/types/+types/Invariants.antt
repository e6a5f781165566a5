use Rattle.std.proofs.Common.{◌≡◌, ◌++◌, map, take}
use Rattle.java_name_uses.specs.Uses.{all, type_uses}
use Rattle.java_name_uses.proofs.types.+types.Given as goal

abbrev pub invariant-type_list-loop-x : goal.invariant-type_list-loop-x
invariant-type_list-loop-x l = l.out ≡ l.fn.out ++ all (map type_uses (take l.x-index l.xs))
