-- The tree that the bytes of the canonical text of a file are read as, and which files have such a text.
use Rattle.std.specs.Prelude.{◌≡◌, true, [], map}
use Rattle.std.specs.Option.{option_map}
use Rattle.kotlin_tree.specs.declared.files.KFile.{KFile}
use Rattle.kotlin_tree.specs.UpToPlaces.{unplaced_package, unplaced_import, SameUpToPlaces}
use Rattle.kotlin_layout.specs.Shown.{file_roles}
use Rattle.kotlin_canonical_text.specs.Members.{class_tree}
use Rattle.kotlin_printed_text.specs.Printed.{file_readable}
use Rattle.kotlin_lexed_text.specs.Lexable.{AreParts, is_shallow}

-- the canonical tree: with the parentheses that the text adds, with modifiers in their order, without comments, each token at the place of what was made
unfoldable pub file_tree : KFile → KFile
file_tree x = record { path = x.path; «package» = option_map unplaced_package x.package; imports = map unplaced_import x.imports; classes = map class_tree x.classes }

-- Its text is read: the grammar takes it, its names, literals and comments are those of Kotlin, and no more than 1,600 brackets are open at once.
pub record IsReadable (x : KFile) : Type 0 where
  pub readable : file_readable x ≡ true
  pub parts : AreParts (file_roles x)
  pub shallow : is_shallow [] (file_roles x) ≡ true

-- It is its own canonical tree up to places: its text adds no parentheses, and its modifiers stand in their order.
abbrev pub IsSettled : KFile → Type 0
IsSettled x = SameUpToPlaces (file_tree x) x
