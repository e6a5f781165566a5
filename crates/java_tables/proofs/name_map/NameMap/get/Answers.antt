use Rattle.std.proofs.Common.{◌∙◌, ap}
use Rattle.std.specs.Prelude.{string_bytes}
use Rattle.java_tables.specs.Names.{declared}
use Rattle.java_tables.proofs.Images.{lookup_image}
use Rattle.java_tables.proofs.name_map.NameMap.get.Goals as goal

pub returns : goal.returns
returns g c = c.get.ensures.value ∙ lookup_image string_bytes c.args.name.now c.self.inside.rows.entries ∙ ap (declared c.args.name.now) c.self.view_is
