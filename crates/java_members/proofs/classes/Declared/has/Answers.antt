use Rattle.std.proofs.Common.{ap, ◌∙◌}
use Rattle.std.specs.Prelude.{not}
use Rattle.java_members.specs.Lists.{is_nil}
use Rattle.java_members.proofs.Picked.{any_of_name}
use Rattle.java_members.proofs.classes.Declared.has.Goals as goal

pub returns : goal.returns
returns c = ap not (c.is_nil.ensures ∙ ap is_nil c.numbers.ensures) ∙ any_of_name c.args.name.now c.args.self.now 0
