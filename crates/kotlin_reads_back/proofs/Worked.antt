-- A file that is printed and read back: a class with a comment before it.
use Rattle.std.proofs.Common.{[], ◌∷◌, None, refl, inl}
use lib.Utf8.{encode}
use Rattle.unicode_ident.proofs.Computing.{unicode_ident}
use Rattle.kotlin_tree.specs.declared.files.KClassWord.TheVariants as word
use Rattle.kotlin_tree.specs.declared.files.KFile.{KFile}
use Rattle.kotlin_tree.specs.UpToPlaces.{made, made_brackets, unplaced_file}
use Rattle.kotlin_layout.specs.Shown.{class_roles, file_roles}
use Rattle.kotlin_canonical_text.specs.Members.{class_tree, class_readable}
use Rattle.kotlin_printed_text.specs.Printed.{file_readable}
use Rattle.kotlin_lexed_text.specs.Lexable.{IsIdentifier, AreParts, is_shallow}
use Rattle.kotlin_reads_back.specs.ReadsBack.{IsReadable, IsSettled, file_tree}

abbrev worked : KFile
worked = record {
  path = [];
  «package» = None;
  imports = [];
  classes = record { comments = (47 ∷ 47 ∷ 97 ∷ []) ∷ []; modifiers = []; word = word.Class; at = made; name = record { name = 65 ∷ []; at = made }; params = None; supers = None; curly = made_brackets; members = [] } ∷ [];
}

is_name : IsIdentifier (65 ∷ [])
unfolding encode unicode_ident
is_name = record { first = 65; more = []; bytes = refl; scalars = refl; starts = refl; goes_on = refl }

worked_parts : AreParts (file_roles worked)
unfolding AreParts file_roles class_roles encode
worked_parts = (inl (record { characters = 97 ∷ []; bytes = refl; scalars = refl; on_a_line = refl }), (tt, (tt, (tt, (is_name, (tt, (tt, (tt, (tt, (tt, (tt, (tt, tt))))))))))))

worked_printed : IsReadable worked
unfolding file_readable class_readable is_shallow file_roles class_roles
worked_printed = record { readable = refl; parts = worked_parts; shallow = refl }

worked_settled : IsSettled worked
unfolding unplaced_file file_tree class_tree
worked_settled = refl
