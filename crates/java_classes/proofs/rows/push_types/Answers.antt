use Rattle.std.proofs.Common.{refl}
use Rattle.java_classes.specs.Classes.{each_rows}
use Rattle.java_classes.proofs.Lists.{told}
use Rattle.java_classes.proofs.rows.push_types.Goals as goal

pub loop-x-preserved : goal.loop-x-preserved
loop-x-preserved c =
    told (each_rows c.args.number c.args.path.now c.args.home.now) (each_rows c.args.number c.args.path.now c.args.home.now)
    c.args.xs.now c.loop-x.x-index c.x-item.result _ _ _ _ (λ ys. refl) c.loop-x-test.true c.x-item.is c.loop-x.invariant c.in_ok-push_type.ensures
