use Rattle.std.proofs.Common.{◌∙◌, ap, map, take}
use Rattle.std.specs.Prelude.{string_bytes}
use Rattle.java_tables.proofs.Images.{map_take, row_of}
use Rattle.java_tables.proofs.name_map.NameMap.leave.Goals as goal

pub returns : goal.returns
returns g c =
    ap (map (row_of string_bytes)) c.truncate.ensures.entries
    ∙ map_take (row_of string_bytes) c.args.outer c.self.inside.rows.entries ∙ ap (take c.args.outer) c.self.view_is
