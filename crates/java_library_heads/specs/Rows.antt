-- What the rows of the code say.
use Rattle.std.specs.Prelude.{map}
use Rattle.java_typed.specs.declared.types.ClassRef.{ClassRef}
use Rattle.java_typed.specs.declared.types.ClassRef.TheVariants as class
use Rattle.java_typed.specs.declared.types.TType.{TType}
use Rattle.java_typed.specs.declared.types.TType.TheVariants as t
use Rattle.java_type_relations.specs.declared.heads.Head.{Head}
use Rattle.java_library_heads.specs.declared.rows.Above.{Above}
use Rattle.java_library_heads.specs.declared.rows.HeadRow.{HeadRow}
use Rattle.java_library_heads.specs.LibraryHeads.{bound_at}

abbrev pub super_of : ClassRef → Above → TType
super_of own above = t.Class (class.Library above.class) (map (t.Variable own) above.places.now)

abbrev pub head_of : HeadRow → Head
head_of row = record { form = row.form; bounds = map bound_at row.places.now; supers = map (super_of (class.Library row.number)) row.supers.now }
