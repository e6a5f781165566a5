-- The tree that the canonical text of a file is read as, and which files have a text that is read.
use Rattle.std.specs.Prelude.{◌&&◌, Bool, true, List, [], ◌∷◌, map}
use Rattle.kotlin_tree.specs.declared.files.KClass.{KClass}
use Rattle.kotlin_tree.specs.declared.files.KFile.{KFile}
use Rattle.kotlin_grammar.specs.Files.{Content}
use Rattle.kotlin_canonical_text.specs.Members.{class_tree, class_readable}
use Rattle.kotlin_canonical_text.specs.Heads.{head_tree}

abbrev pub later_trees : List KClass → List KClass
later_trees [] = []
later_trees (x ∷ xs) = map class_tree xs

-- the tree but for its path: the first piece, and the classes behind it
abbrev pub content_tree : KFile → Content
content_tree x = record { head = head_tree x; classes = later_trees x.classes }

abbrev pub classes_readable : List KClass → Bool
classes_readable [] = true
classes_readable (x ∷ xs) = class_readable x && classes_readable xs

-- Its text is read.
unfoldable pub file_readable : KFile → Bool
file_readable x = classes_readable x.classes
