-- What is declared of classes that subtyping reads.
use Rattle.std.specs.Prelude.{ℕ, List, [], Option, Some, None, slice_get}
use Rattle.java_typed.specs.declared.types.ClassRef.{ClassRef}
use Rattle.java_typed.specs.declared.types.ClassRef.TheVariants as class
use Rattle.java_typed.specs.declared.types.TType.{TType}
use Rattle.java_type_relations.specs.declared.heads.ClassForm.{ClassForm}
use Rattle.java_type_relations.specs.declared.heads.ClassForm.TheVariants as form
use Rattle.java_type_relations.specs.declared.heads.Head.{Head}
use Rattle.java_type_relations.specs.declared.heads.Heads.{Heads}

abbrev pub head_of : Heads → ClassRef → Option Head
head_of heads (class.Library n) = slice_get heads.library n
head_of heads (class.Project n) = slice_get heads.project n

abbrev pub supers_by : Option Head → List TType
supers_by None = []
supers_by (Some head) = head.supers

-- the direct supertypes of a class, written with its own type parameters
abbrev pub supers_in : Heads → ClassRef → List TType
supers_in heads c = supers_by (head_of heads c)

abbrev pub bound_by : ℕ → Option Head → Option TType
bound_by n None = None
bound_by n (Some head) = slice_get head.bounds n

-- the bound of a type parameter
abbrev pub bound_in : Heads → ClassRef → ℕ → Option TType
bound_in heads c n = bound_by n (head_of heads c)

abbrev pub form_by : Option Head → ClassForm
form_by None = form.Class
form_by (Some head) = head.form

abbrev pub form_in : Heads → ClassRef → ClassForm
form_in heads c = form_by (head_of heads c)
