use Rattle.kotlin_layout.specs.Shown.{type_roles}
use Rattle.kotlin_layout.specs.Roles.{comma}
use Rattle.kotlin_layout.proofs.LawsToCite.{one_more}
use Rattle.kotlin_code_printer.proofs.types.+types.Goals as goal

pub kinds-loop-x-preserved : goal.kinds-loop-x-preserved
kinds-loop-x-preserved t c = one_more comma type_roles c.args.list.now c.loop-x.x-index c.x-item.result c.loop-x.is_first c.args.p.now c.loop-x.p _ _ c.loop-x-test.true c.x-item.is c.loop-x.invariant c.in_ok-comma.ensures c.in_ok-kind.ensures
