use Rattle.kotlin_layout.specs.Shown.{type_param_roles}
use Rattle.kotlin_layout.specs.Roles.{comma}
use Rattle.kotlin_layout.proofs.LawsToCite.{one_more}
use Rattle.kotlin_print.proofs.files.type_param_list.Goals as goal

pub loop-x-preserved : goal.loop-x-preserved
loop-x-preserved c = one_more comma type_param_roles c.args.list.now c.loop-x.x-index c.x-item.result c.loop-x.is_first c.args.p.now c.loop-x.p _ _ c.loop-x-test.true c.x-item.is c.loop-x.invariant c.in_ok-comma.ensures c.in_ok-type_param.ensures
