use Rattle.std.proofs.Common.{◌≡◌, ◌∙◌, ap}
use Rattle.std.specs.Option.{option_map, option_copied}
use Rattle.java_lib.specs.Library.{classes}
use Rattle.java_lib.specs.Classes.{class_of, class_qualified, class_named}
use Rattle.java_lib.proofs.Naming.{qualified_is, either_is}
use Rattle.java_lib.proofs.Finding.{named_at, absent_where}
use Rattle.java_lib.proofs.Facts.{above_of_named, place_of_named, number_within}
use Rattle.java_lib.proofs.classes.class_row.Goals as goal

pub returns : goal.returns
returns c =
    let name = c.args.name.now in
    let rows = c.class_rows.result.now in
    let long : option_map class_of (option_copied c.first_qualified.result) ≡ class_qualified name classes =
    ap (option_map class_of) c.first_qualified.ensures ∙ qualified_is name rows ∙ ap (class_qualified name) c.class_rows.ensures.rows in
    let value : option_map class_of (option_copied c.or.result) ≡ class_named name classes =
    ap (λ found. option_map class_of (option_copied found)) c.or.ensures ∙ either_is _ _ _ _ c.simple_row.ensures long in
    record { value = value; named = named_at name c.or.result value; absent = absent_where name c.or.result value; number = place_of_named name c.or.result value; above = above_of_named name c.or.result value; members = number_within name c.or.result value }
