use Rattle.std.proofs.Common.{ap, ◌∙◌}
use Rattle.java_classes.specs.Tables.{first, is_in_package}
use Rattle.java_type_names.specs.Classes.{seen_first}
use Rattle.java_type_names.proofs.Firsts.{project_is}
use Rattle.java_type_names.proofs.classes.project_class.Goals as goal

pub returns : goal.returns
returns c =
    c.seen_first.ensures ∙ ap (λ rows. seen_first rows c.args.from.now c.in_package.result) c.as_slice.ensures
    ∙ ap (seen_first c.args.rows.now c.args.from.now) c.in_package.ensures
    ∙ ap (λ name. seen_first c.args.rows.now c.args.from.now (first (is_in_package c.args.home.now name) c.args.rows.now)) c.as_str.ensures
    ∙ project_is c.args.from.now c.args.home.now c.args.name.now c.args.rows.now
