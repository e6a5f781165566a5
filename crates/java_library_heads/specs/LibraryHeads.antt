-- The heads of the library's classes: of its table, with what the Java API says besides.
use Rattle.std.specs.Prelude.{ℕ, zero, suc, Bool, ◌==◌, if◌then◌else◌, List, [], ◌∷◌, ◌++◌, Option, Some, None, map}
use Rattle.std.specs.List.{list_any}
use Rattle.java_lib.specs.Library.{Class, Named, boolean_class, byte_class, character_class, classes, integer_class, list_class, long_class, map_class, math_class, object_class, runnable_class, short_class, string_builder_class, string_class, system_class, thread_class}
use Rattle.java_lib.specs.Classes.{params_of}
use Rattle.java_typed.specs.declared.types.ClassRef.{ClassRef}
use Rattle.java_typed.specs.declared.types.ClassRef.TheVariants as class
use Rattle.java_typed.specs.declared.types.TType.{TType}
use Rattle.java_typed.specs.declared.types.TType.TheVariants as t
use Rattle.java_type_relations.specs.declared.heads.ClassForm.{ClassForm}
use Rattle.java_type_relations.specs.declared.heads.ClassForm.TheVariants as form
use Rattle.java_type_relations.specs.declared.heads.Head.{Head}
use Rattle.java_type_relations.specs.Contexts.{class_type}

-- ---- what the Java API says, and the library's table doesn't

abbrev pub final_classes : List ℕ
final_classes =
    string_class ∷ string_builder_class ∷ integer_class ∷ long_class ∷ short_class ∷ byte_class ∷ character_class ∷ boolean_class ∷ math_class ∷ system_class ∷ []

abbrev pub interfaces : List ℕ
interfaces = list_class ∷ map_class ∷ runnable_class ∷ []

abbrev pub form_of : ℕ → ClassForm
form_of n =
    if list_any (λ m. n == m) final_classes then form.Final else
    if list_any (λ m. n == m) interfaces then form.Interface else form.Class

-- a Thread is a Runnable
abbrev pub further : ℕ → List ℕ
further n = if n == thread_class then runnable_class ∷ [] else []

-- ---- the heads

abbrev pub places : ℕ → List ℕ
places zero = []
places (suc n) = places n ++ n ∷ []

-- the bound of a type parameter: none is written in the library
abbrev pub bound_at : ℕ → TType
bound_at n = class_type (class.Library object_class)

-- a supertype has the type parameters of the class for its arguments
abbrev pub super_type : ClassRef → ℕ → TType
super_type own above = t.Class (class.Library above) (map (t.Variable own) (places (params_of above)))

abbrev pub above_by : Option ℕ → List ℕ
above_by None = []
above_by (Some above) = above ∷ []

abbrev pub head : Class → Head
head c =
    record {
      form = form_of c.number;
      bounds = map bound_at (places c.params);
      supers = map (super_type (class.Library c.number)) (above_by c.above ++ further c.number);
    }

abbrev pub library_heads : List Head
library_heads = map (λ (named : Named). head named.1) classes
