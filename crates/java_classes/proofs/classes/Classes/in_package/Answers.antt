use Rattle.std.proofs.Common.{ap, ◌∙◌}
use Rattle.java_classes.specs.Numbers.{picked}
use Rattle.java_classes.specs.Tables.{is_of_package}
use Rattle.java_classes.proofs.Numbers.{first_of_name}
use Rattle.java_classes.proofs.classes.Classes.in_package.Goals as goal

pub returns : goal.returns
returns c =
    c.first_in_package.ensures ∙ ap (λ rows. picked (is_of_package c.args.home.now) rows c.numbers.result.now) c.as_slice.ensures
    ∙ ap (picked (is_of_package c.args.home.now) c.args.self.now) c.numbers.ensures
    ∙ first_of_name (is_of_package c.args.home.now) c.args.name.now c.args.self.now
