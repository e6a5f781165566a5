-- The heads of the library's classes: of its table, and that a Thread is a Runnable.
use Rattle.std.specs.Prelude.{ℕ, zero, suc, ◌==◌, if◌then◌else◌, List, [], ◌∷◌, ◌++◌, Option, Some, None, map}
use Rattle.java_lib.specs.Library.{Class, Named, classes, runnable_class, thread_class}
use Rattle.java_lib.specs.Classes.{params_of}
use Rattle.kotlin_types.specs.declared.kinds.KClassRef.{KClassRef}
use Rattle.kotlin_types.specs.declared.kinds.KClassRef.TheVariants as class
use Rattle.kotlin_types.specs.declared.kinds.KKind.{KKind}
use Rattle.kotlin_types.specs.declared.classes.KClassHead.{KClassHead}
use Rattle.kotlin_types.specs.Types.{any, class_type, nullable, variable}

abbrev pub further : ℕ → List ℕ
further n = if n == thread_class then runnable_class ∷ [] else []

abbrev pub places : ℕ → List ℕ
places zero = []
places (suc n) = places n ++ n ∷ []

-- no bound is written in the library
abbrev pub bound_at : ℕ → KKind
bound_at n = nullable any

-- a supertype has the type parameters of the class for its arguments
abbrev pub super_type : KClassRef → ℕ → KKind
super_type own n = class_type (class.Library n) (map (variable own) (places (params_of n)))

abbrev pub above_by : Option ℕ → List ℕ
above_by None = []
above_by (Some n) = n ∷ []

abbrev pub head : Class → KClassHead
head c =
    record {
      bounds = map bound_at (places c.params);
      supers = map (super_type (class.Library c.number)) (above_by c.above ++ further c.number);
    }

abbrev pub library_classes : List KClassHead
library_classes = map (λ (named : Named). head named.1) classes
