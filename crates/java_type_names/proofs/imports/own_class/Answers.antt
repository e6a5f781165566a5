use Rattle.std.proofs.Common.{ap, ◌∙◌}
use Rattle.java_classes.specs.Tables.{first, is_in_file}
use Rattle.java_type_names.specs.Imports.{of_project}
use Rattle.java_type_names.proofs.Firsts.{own_is}
use Rattle.java_type_names.proofs.imports.own_class.Goals as goal

pub returns : goal.returns
returns c =
    c.of_project.ensures ∙ ap of_project c.in_file.ensures
    ∙ ap (λ name. of_project (first (is_in_file c.args.unit name) c.args.rows.now)) c.as_str.ensures
    ∙ own_is c.args.unit c.args.name.now c.args.rows.now
