use Rattle.java_name_uses.specs.Heads.{declarator}
use Rattle.java_name_uses.proofs.Parts.{told, both}
use Rattle.java_name_uses.proofs.heads.declarators.Goals as goal

pub loop-x-preserved : goal.loop-x-preserved
loop-x-preserved c =
    told declarator c.args.xs.now c.loop-x.x-index c.x-item.result _ _ _ c.loop-x-test.true c.x-item.is c.loop-x.invariant
    (both _ _ _ _ _ c.in_ok-put_name.ensures c.in_ok-initial.ensures)
