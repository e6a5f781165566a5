use Rattle.std.proofs.Common.{◌≡◌, map, take}
use Rattle.java_type_relations.specs.Types.{put}
use Rattle.java_conversions.proofs.copying.+putting.Given as goal

abbrev pub invariant-put_each-loop-x : goal.invariant-put_each-loop-x
invariant-put_each-loop-x l = l.found ≡ map (put l.args.class l.args.list.now) (take l.x-index l.xs)
