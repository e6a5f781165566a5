use Rattle.std.proofs.Common.{ap, ◌∙◌}
use Rattle.std.specs.Prelude.{not}
use Rattle.java_classes.specs.Numbers.{is_nil}
use Rattle.java_classes.proofs.Numbers.{any_of_name}
use Rattle.java_classes.proofs.classes.Classes.has.Goals as goal

pub returns : goal.returns
returns c = ap not (c.is_nil.ensures ∙ ap is_nil c.numbers.ensures) ∙ any_of_name c.args.name.now c.args.self.now 0
