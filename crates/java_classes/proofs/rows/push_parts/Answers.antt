use Rattle.std.proofs.Common.{refl, ap, ◌++◌, ◌∙◌}
use Rattle.std.specs.Prelude.{codes}
use Rattle.java_classes.specs.Classes.{behind}
use Rattle.java_classes.proofs.Lists.{told, both}
use Rattle.java_classes.proofs.rows.push_parts.Goals as goal

pub loop-x-preserved : goal.loop-x-preserved
loop-x-preserved c =
    told behind behind c.args.xs.now c.loop-x.x-index c.x-item.result (codes "." ++ c.x-item.result.name) _ _ _ (λ ys. refl)
    c.loop-x-test.true c.x-item.is c.loop-x.invariant
    (both (codes ".") c.x-item.result.name _ _ _ c.in_ok-push_str.ensures.ok
    (c.in_ok-push_str-2.ensures.ok ∙ ap (λ n. c.push_str.new.self ++ n) c.as_str.ensures))
