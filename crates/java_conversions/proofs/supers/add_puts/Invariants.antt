use Rattle.std.proofs.Common.{◌≡◌, length}
use Rattle.java_type_relations.specs.Supers.{added_puts}
use Rattle.java_conversions.proofs.supers.add_puts.Given as goal

abbrev pub invariant-loop-rest : goal.invariant-loop-rest
invariant-loop-rest l = added_puts l.args.class l.args.list.now l.found l.rest ≡ added_puts l.args.class l.args.list.now l.fn.found l.supers

abbrev pub decreases-loop-rest : goal.decreases-loop-rest
decreases-loop-rest l = length l.rest
