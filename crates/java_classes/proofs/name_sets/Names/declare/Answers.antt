use Rattle.std.proofs.Common.{ℕ, List, ◌∙◌, ap, not}
use Rattle.std.specs.List.{list_any}
use Rattle.std.specs.Str.{bytes_eq}
use Rattle.std.specs.Prelude.{string_bytes}
use Rattle.java_classes.proofs.Lists.{any_image}
use Rattle.java_classes.proofs.name_sets.Names.declare.Goals as goal

pub returns-clause-added : goal.returns-clause-added
returns-clause-added c =
    c.in_ok-added.ensures.added
    ∙ ap not (any_image string_bytes (bytes_eq (string_bytes c.in_ok-copy.copy)) c.self.inside.names.keys
    ∙ ap (list_any (bytes_eq (string_bytes c.in_ok-copy.copy))) c.self.view_is
    ∙ ap (λ (name : List ℕ). list_any (bytes_eq name) c.args.self.now) c.in_ok-copy.ensures.ok)
