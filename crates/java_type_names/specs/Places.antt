-- Names with dots, resolved from the left.
use Rattle.std.specs.Prelude.{ℕ, if◌then◌else◌, List, ◌++◌, Option, Some, None, codes}
use Rattle.java_tree.specs.declared.tokens.Position.{Position}
use Rattle.java_classes.specs.Classes.{is_package}
use Rattle.java_type_names.specs.declared.classes.Meant.{Meant}
use Rattle.java_type_names.specs.declared.classes.World.{World}
use Rattle.java_type_names.specs.declared.scopes.FileScope.{FileScope}
use Rattle.java_type_names.specs.declared.scopes.Found.{Found}
use Rattle.java_type_names.specs.declared.scopes.Found.TheVariants as f
use Rattle.java_type_names.specs.declared.places.Place.{Place}
use Rattle.java_type_names.specs.declared.places.Place.TheVariants as p
use Rattle.java_type_names.specs.Classes.{seen_at}
use Rattle.java_type_names.specs.Scopes.{simple_class}

abbrev pub package_or_lost : World → List ℕ → Position → Place
package_or_lost world text at = if is_package world.packages text then p.Package else p.Lost at

abbrev pub first_by : World → List ℕ → Position → Found → Place
first_by world name at (f.One class) = p.Class class
first_by world name at f.Several = p.Ambiguous at
first_by world name at f.Nothing = package_or_lost world name at

-- the first identifier: a class in scope, else a package (JLS 6.5.4.1, 6.5.5.1)
abbrev pub first_type : World → FileScope → List ℕ → Position → Place
first_type world scope name at = first_by world name at (simple_class world.rows scope name)

abbrev pub behind_by : World → List ℕ → Position → Option Meant → Place
behind_by world text at (Some class) = p.Class class
behind_by world text at None = package_or_lost world text at

-- behind a package: a class of it that may be seen, else a package in it (JLS 6.5.4.2, 6.5.5.2)
abbrev pub in_package : World → List ℕ → List ℕ → List ℕ → Position → Place
in_package world from text name at = behind_by world ((text ++ codes ".") ++ name) at (seen_at world.rows from text name)

-- behind what the text before means; classes have no member types here
abbrev pub next_part : World → List ℕ → List ℕ → Place → List ℕ → Position → Place
next_part world from text p.Package name at = in_package world from text name at
next_part world from text (p.Class class) name at = p.Lost at
next_part world from text (p.Lost lost) name at = p.Lost lost
next_part world from text (p.Ambiguous lost) name at = p.Ambiguous lost
