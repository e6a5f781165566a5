use Rattle.std.proofs.Common.{◌∙◌, ap}
use Rattle.std.specs.Option.{option_map}
use Rattle.j2k_base.specs.Keys.{value_beside}
use Rattle.java_lib.specs.Classes.{class_of, class_simple}
use Rattle.java_lib.proofs.Naming.{simple_is}
use Rattle.java_lib.proofs.classes.simple_row.Goals as goal

pub returns : goal.returns
returns c =
    let name = c.args.name.now in
    let rows = c.class_rows.result.now in
    ap (option_map class_of) (c.get.ensures.value ∙ ap (value_beside name) c.new.ensures) ∙ simple_is name rows ∙ ap (class_simple name) c.class_rows.ensures.rows
