-- The first piece of a file, its tree, and when it is read.
use Rattle.std.specs.Prelude.{Bool, true, List, [], ◌∷◌, ◌++◌, map, Option, Some, None}
use Rattle.std.specs.Option.{option_map}
use Rattle.kotlin_tree.specs.declared.files.KClass.{KClass}
use Rattle.kotlin_tree.specs.declared.files.KFile.{KFile}
use Rattle.kotlin_tree.specs.UpToPlaces.{unplaced_package, unplaced_import}
use Rattle.kotlin_layout.specs.Roles.{Roles}
use Rattle.kotlin_layout.specs.Shown.{comment_roles, empty_line, package_part, imports_part, is_absent, is_headless}
use Rattle.kotlin_grammar.specs.Reading.{Head}
use Rattle.kotlin_canonical_text.specs.Members.{class_tree, class_readable, bare_class_roles}

abbrev pub first_tree : List KClass → Option KClass
first_tree [] = None
first_tree (x ∷ xs) = Some (class_tree x)

-- the tree that the text of the first piece is read as
abbrev pub head_tree : KFile → Head
head_tree x = record { package_line = option_map unplaced_package x.package; imports = map unplaced_import x.imports; first_class = first_tree x.classes }

abbrev pub first_readable : List KClass → Bool
first_readable [] = true
first_readable (x ∷ xs) = class_readable x

-- the first class as far as its last brace, with an empty line before it unless it is the first part
abbrev pub first_class_roles : Bool → List KClass → Roles
first_class_roles first [] = []
first_class_roles first (x ∷ xs) = empty_line first ++ comment_roles x.comments ++ bare_class_roles x

-- what stands before the first class
abbrev pub above_roles : KFile → Roles
above_roles x = package_part x.package ++ imports_part (is_absent x.package) x.imports

-- the first piece of a file
unfoldable pub head_roles : KFile → Roles
head_roles x = above_roles x ++ first_class_roles (is_headless x.package x.imports) x.classes
