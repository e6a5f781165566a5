use Rattle.std.proofs.Common.{◌∙◌, ap}
use Rattle.std.specs.List.{list_any}
use Rattle.std.specs.Str.{bytes_eq}
use Rattle.std.specs.Prelude.{string_bytes}
use Rattle.java_classes.proofs.Lists.{any_image}
use Rattle.java_classes.proofs.name_sets.Names.contains.Goals as goal

pub returns : goal.returns
returns c =
    c.contains.ensures ∙ any_image string_bytes (bytes_eq c.args.name.now) c.self.inside.names.keys ∙ ap (list_any (bytes_eq c.args.name.now)) c.self.view_is
