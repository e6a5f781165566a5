use Rattle.std.proofs.Common.{refl, map, ap, ◌∙◌, ◌++◌, ◌∷◌, []}
use Rattle.java_classes.specs.Classes.{unit_package}
use Rattle.java_classes.proofs.Lists.{told}
use Rattle.java_classes.proofs.homes.declared_packages.Goals as goal

pub loop-unit-preserved : goal.loop-unit-preserved
loop-unit-preserved c =
    told (map unit_package) (map unit_package) c.args.units.now c.loop-unit.unit-index c.unit-item.result (unit_package c.unit-item.result ∷ [])
    c.loop-unit.out c.push.new.self _ (λ ys. refl) c.loop-unit-test.true c.unit-item.is c.loop-unit.invariant
    (c.in_ok-push.ensures.ok ∙ ap (λ n. c.loop-unit.out ++ n ∷ []) c.in_ok-name.ensures)
