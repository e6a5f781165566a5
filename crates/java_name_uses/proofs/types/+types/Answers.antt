use Rattle.java_name_uses.specs.Uses.{type_uses}
use Rattle.java_name_uses.proofs.Parts.{told}
use Rattle.java_name_uses.proofs.types.+types.Goals as goal

pub type_list-loop-x-preserved : goal.type_list-loop-x-preserved
type_list-loop-x-preserved t c = told type_uses c.args.xs.now c.loop-x.x-index c.x-item.result _ _ _ c.loop-x-test.true c.x-item.is c.loop-x.invariant c.in_ok-declared_type.ensures
