use Rattle.std.proofs.Common.{ap, ◌∙◌}
use Rattle.java_classes.specs.Numbers.{picked}
use Rattle.java_classes.specs.Tables.{is_of_file}
use Rattle.java_classes.proofs.Numbers.{first_of_name}
use Rattle.java_classes.proofs.classes.Classes.in_file.Goals as goal

pub returns : goal.returns
returns c =
    c.first_in_file.ensures ∙ ap (λ rows. picked (is_of_file c.args.unit) rows c.numbers.result.now) c.as_slice.ensures
    ∙ ap (picked (is_of_file c.args.unit) c.args.self.now) c.numbers.ensures
    ∙ first_of_name (is_of_file c.args.unit) c.args.name.now c.args.self.now
