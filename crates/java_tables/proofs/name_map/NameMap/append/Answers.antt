use Rattle.std.proofs.Common.{◌≡◌, None, ap, map, refl, ◌∙◌}
use Rattle.std.specs.Prelude.{string_bytes}
use Rattle.std.specs.String.{string_eq}
use Rattle.java_tables.specs.Names.{declared}
use Rattle.java_tables.proofs.Images.{added_row, insert_image, row_of}
use Rattle.java_tables.proofs.name_map.NameMap.append.Goals as goal

pub returns : goal.returns
returns g c =
    let named : string_bytes c.in_ok-copy.copy ≡ c.args.name.now = c.in_ok-copy.ensures.ok in
    let none : declared (string_bytes c.in_ok-copy.copy) (map (row_of string_bytes) c.self.inside.rows.entries) ≡ None =
    ap (λ n. declared n (map (row_of string_bytes) c.self.inside.rows.entries)) named ∙ ap (declared c.args.name.now) c.self.view_is ∙ c.requires in
    ap (map (row_of string_bytes)) c.in_ok-insert.ensures.entries
    ∙ insert_image string_bytes string_eq (λ a b. refl) c.in_ok-copy.copy c.args.value c.self.inside.rows.entries none
    ∙ ap (λ rows. added_row rows (string_bytes c.in_ok-copy.copy) c.args.value) c.self.view_is
    ∙ ap (λ n. added_row c.args.self.now n c.args.value) named
