-- Supertypes with their arguments (JLS 4.10.2).
use Rattle.std.specs.Prelude.{ℕ, zero, suc, Bool, false, ◌&&◌, ◌==◌, if◌then◌else◌, List, [], ◌∷◌, ◌++◌, Option, Some, None, find}
use Rattle.std.specs.List.{list_any}
use Rattle.java_typed.specs.declared.types.ClassRef.{ClassRef}
use Rattle.java_typed.specs.declared.types.TType.{TType, out-TType}
use Rattle.java_typed.specs.declared.types.TType.TheOpen.{TType-F}
use Rattle.java_type_relations.specs.declared.heads.Heads.{Heads}
use Rattle.java_type_relations.specs.declared.supers.Sought.{Sought}
use Rattle.java_type_relations.specs.declared.supers.Sought.TheVariants as sought
use Rattle.java_type_relations.specs.declared.supers.Step.{Step}
use Rattle.java_type_relations.specs.declared.supers.Step.TheVariants as steps
use Rattle.java_type_relations.specs.Types.{put, same_class}
use Rattle.java_type_relations.specs.Heads.{bound_in, supers_in}

-- ---- which supertype is meant

abbrev pub is_sought_form : Sought → TType-F TType → Bool
is_sought_form (sought.Class c) (TType-F.Class d args) = same_class c d
is_sought_form (sought.Variable c n) (TType-F.Variable d m) = same_class c d && n == m
is_sought_form s x = false

abbrev pub is_sought : Sought → TType → Bool
is_sought s x = is_sought_form s (out-TType x)

abbrev pub alike_forms : TType-F TType → TType-F TType → Bool
alike_forms (TType-F.Class c xs) (TType-F.Class d ys) = same_class c d
alike_forms (TType-F.Variable c n) (TType-F.Variable d m) = same_class c d && n == m
alike_forms x y = false

-- two types of one class, or the same type parameter
abbrev pub is_alike : TType → TType → Bool
is_alike x y = alike_forms (out-TType x) (out-TType y)

-- ---- the direct supertypes of types

abbrev pub added : List TType → TType → List TType
added found x = if list_any (is_alike x) found then found else found ++ x ∷ []

-- with the arguments in the place of the parameters
abbrev pub added_puts : ClassRef → List TType → List TType → List TType → List TType
added_puts c args found [] = found
added_puts c args found (x ∷ xs) = added_puts c args (added found (put c args x)) xs

abbrev pub added_bound : List TType → Option TType → List TType
added_bound found None = found
added_bound found (Some x) = added found x

-- those of a class type are its declared ones, that of a type parameter is its bound
abbrev pub added_by : Heads → List TType → TType-F TType → List TType
added_by heads found (TType-F.Class c args) = added_puts c args found (supers_in heads c)
added_by heads found (TType-F.Variable c n) = added_bound found (bound_in heads c n)
added_by heads found x = found

abbrev pub added_supers : Heads → List TType → TType → List TType
added_supers heads found x = added_by heads found (out-TType x)

abbrev pub next_from : Heads → List TType → List TType → List TType
next_from heads found [] = found
next_from heads found (x ∷ xs) = next_from heads (added_supers heads found x) xs

abbrev pub next_level : Heads → List TType → List TType
next_level heads level = next_from heads [] level

-- ---- the way up, level by level

abbrev pub step_by : Heads → List TType → Option TType → Step
step_by heads level (Some x) = steps.Found x
step_by heads level None = steps.Next (next_level heads level)

abbrev pub step : Heads → Sought → List TType → Step
step heads s [] = steps.End
step heads s (x ∷ xs) = step_by heads (x ∷ xs) (find (is_sought s) (x ∷ xs))

abbrev pub onward : (List TType → Option TType) → Step → Option TType
onward further (steps.Found x) = Some x
onward further steps.End = None
onward further (steps.Next level) = further level

abbrev pub climbed : Heads → Sought → ℕ → List TType → Option TType
climbed heads s zero level = None
climbed heads s (suc n) level = onward (climbed heads s n) (step heads s level)

-- the supertype of a class, or that is a type parameter, the type itself included
unfoldable pub supertype : Heads → Sought → TType → Option TType
supertype heads s x = climbed heads s heads.steps (x ∷ [])
