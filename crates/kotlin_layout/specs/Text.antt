-- The canonical text of a Kotlin file.
use Rattle.std.specs.Prelude.{ℕ, List}
use Rattle.kotlin_tree.specs.declared.files.KFile.{KFile}
use Rattle.kotlin_layout.specs.Shown.{file_roles}
use Rattle.kotlin_layout.specs.Layout.{text_of}

-- the bytes of a file in the layout of this project
unfoldable pub KText : KFile → List ℕ
KText file = text_of (file_roles file)
