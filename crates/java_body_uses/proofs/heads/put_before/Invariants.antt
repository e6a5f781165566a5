use Rattle.std.proofs.Common.{◌≡◌, ◌++◌, drop}
use Rattle.java_body_uses.specs.Filling.{before, from_place}
use Rattle.java_body_uses.proofs.heads.put_before.Given as goal

abbrev pub invariant-loop-i : goal.invariant-loop-i
invariant-loop-i l = record {
  said : l.out ++ before (drop l.i l.head) ≡ l.fn.out ++ before l.head;
  left : from_place (drop l.i l.head) ≡ from_place l.head;
}
