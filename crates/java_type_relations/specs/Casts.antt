-- The conversions of casts (JLS 5.5).
use Rattle.std.specs.Prelude.{ℕ, zero, suc, Bool, true, false, not, ◌||◌, if◌then◌else◌, List, [], ◌∷◌, Option, Some, None, is_some}
use Rattle.java_typed.specs.declared.types.ClassRef.{ClassRef}
use Rattle.java_typed.specs.declared.types.TType.{TType, out-TType}
use Rattle.java_typed.specs.declared.types.TType.TheOpen.{TType-F}
use Rattle.java_type_relations.specs.declared.heads.ClassForm.{ClassForm}
use Rattle.java_type_relations.specs.declared.heads.ClassForm.TheVariants as form
use Rattle.java_type_relations.specs.declared.heads.Heads.{Heads}
use Rattle.java_type_relations.specs.declared.kinds.Simple.{Simple}
use Rattle.java_type_relations.specs.declared.kinds.Simple.TheVariants as simple
use Rattle.java_type_relations.specs.declared.supers.Sought.TheVariants as sought
use Rattle.java_type_relations.specs.Contexts.{class_type, is_boxed, is_unboxed}
use Rattle.java_type_relations.specs.Heads.{bound_in, form_in}
use Rattle.java_type_relations.specs.Kinds.{box_of, simple_of}
use Rattle.java_type_relations.specs.Subtypes.{Parts, apart, is_below, is_object}
use Rattle.java_type_relations.specs.Supers.{supertype}
use Rattle.java_type_relations.specs.Types.{same}

-- between primitive types: each number to each (JLS 5.1.2 to 5.1.4)
abbrev pub is_simple_cast : Simple → Simple → Bool
is_simple_cast (simple.Number k) (simple.Number l) = true
is_simple_cast simple.Boolean simple.Boolean = true
is_simple_cast p q = false

-- ---- arguments that are surely different (JLS 4.5)

abbrev pub distinct_forms : TType → TType → TType-F TType → TType-F TType → Bool
distinct_forms a b (TType-F.Variable c n) y = false
distinct_forms a b x (TType-F.Variable d m) = false
distinct_forms a b x y = not (same a b)

-- neither is a type parameter, and they aren't the same
abbrev pub is_distinct : TType → TType → Bool
is_distinct a b = distinct_forms a b (out-TType a) (out-TType b)

abbrev pub has_distinct : List TType → List TType → Bool
has_distinct [] ys = false
has_distinct (x ∷ xs) [] = false
has_distinct (x ∷ xs) (y ∷ ys) = is_distinct x y || has_distinct xs ys

abbrev pub are_distinct_forms : TType-F TType → TType-F TType → Bool
are_distinct_forms (TType-F.Class c xs) (TType-F.Class d ys) = has_distinct xs ys
are_distinct_forms x y = false

abbrev pub are_distinct : TType → TType → Bool
are_distinct a b = are_distinct_forms (out-TType a) (out-TType b)

-- ---- between references (JLS 5.5.1)

abbrev pub next_upper : (TType → TType) → TType → Option TType → TType
next_upper further x None = x
next_upper further x (Some bound) = further bound

abbrev pub upper_by : Heads → (TType → TType) → TType → TType-F TType → TType
upper_by heads further x (TType-F.Variable c n) = next_upper further x (bound_in heads c n)
upper_by heads further x y = x

-- the bound of a type parameter, through those that are type parameters themselves
abbrev pub upper : Heads → ℕ → TType → TType
upper heads zero x = x
upper heads (suc n) x = upper_by heads (upper heads n) x (out-TType x)

-- whether a class that has subclasses may have one that is under the other class too
abbrev pub may_meet : ClassForm → ClassForm → Bool
may_meet form.Interface form.Interface = true
may_meet form.Interface form.Class = true
may_meet form.Class form.Interface = true
may_meet x y = false

abbrev pub not_distinct : TType → Option TType → Option Bool
not_distinct b None = None
not_distinct b (Some x) = Some (not (are_distinct x b))

-- whether a class is above a type, with arguments that may be those of b
abbrev pub along : Heads → TType → ClassRef → TType → Option Bool
along heads a c b = not_distinct b (supertype heads (sought.Class c) a)

abbrev pub or_else : Option Bool → Bool → Bool
or_else None other = other
or_else (Some b) other = b

-- up, else down, else to what a subclass may be as well
abbrev pub is_class_cast : Heads → TType → ClassRef → TType → ClassRef → Bool
is_class_cast heads a c b d = or_else (along heads a d b) (or_else (along heads b c a) (may_meet (form_in heads c) (form_in heads d)))

abbrev pub met_forms : Heads → TType → TType → TType-F TType → TType-F TType → Bool
met_forms heads a b (TType-F.Class c xs) (TType-F.Class d ys) = is_class_cast heads a c b d
met_forms heads a b (TType-F.Class c xs) (TType-F.Array y) = is_object c
met_forms heads a b (TType-F.Array x) (TType-F.Class d ys) = is_object d
met_forms heads a b x y = false

abbrev pub is_met : Heads → TType → TType → Bool
is_met heads a b = met_forms heads a b (out-TType a) (out-TType b)

-- to a supertype, or as the bounds of type parameters tell
abbrev pub is_single_cast : Heads → TType → TType → Bool
is_single_cast heads a b = is_below heads a b || is_met heads (upper heads heads.steps a) (upper heads heads.steps b)

-- of arrays the components are cast; those that are primitive have to be the same
abbrev pub cast_parts : Heads → Parts → Bool
cast_parts heads x = if is_some (simple_of x.a) || is_some (simple_of x.b) then same x.a x.b else is_single_cast heads x.a x.b

abbrev pub is_reference_cast : Heads → TType → TType → Bool
is_reference_cast heads a b = cast_parts heads (apart a b)

-- ---- all casts

abbrev pub opened_forms : Heads → TType → Simple → TType-F TType → Bool
opened_forms heads a to TType-F.Null = false
opened_forms heads a to x = is_reference_cast heads a (class_type (box_of to))

-- a reference to a primitive type: by unboxing, or to the box first
abbrev pub is_opened : Heads → TType → Simple → TType → Bool
is_opened heads a to b = is_unboxed a b || opened_forms heads a to (out-TType a)

abbrev pub castable_by : Heads → TType → TType → Option Simple → Option Simple → Bool
castable_by heads a b (Some p) (Some q) = is_simple_cast p q
castable_by heads a b (Some p) None = is_boxed heads a b
castable_by heads a b None (Some q) = is_opened heads a q b
castable_by heads a b None None = is_reference_cast heads a b

abbrev pub is_castable : Heads → TType → TType → Bool
is_castable heads a b = castable_by heads a b (simple_of a) (simple_of b)
